use Rattle.std.specs.Prelude.{length}
use Rattle.pm_paths.proofs.conflicts.+takes_other.Given as goal

abbrev pub decreases-takes_other : goal.decreases-takes_other
decreases-takes_other g l = length l.images.now
