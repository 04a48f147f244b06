use Rattle.std.specs.Prelude.{length}
use Rattle.pm_paths.proofs.conflicts.+are_shared.Given as goal

abbrev pub decreases-are_shared : goal.decreases-are_shared
decreases-are_shared g l = length l.images.now
