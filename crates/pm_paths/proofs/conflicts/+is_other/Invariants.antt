use Rattle.std.specs.Prelude.{length}
use Rattle.pm_paths.proofs.conflicts.+is_other.Given as goal

abbrev pub decreases-is_other : goal.decreases-is_other
decreases-is_other g l = length l.images.now
