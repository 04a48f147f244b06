use Rattle.std.specs.Prelude.{length}
use Rattle.pm_paths.proofs.conflicts.+others_take_away.Given as goal

abbrev pub decreases-others_take_away : goal.decreases-others_take_away
decreases-others_take_away g l = length l.images.now
