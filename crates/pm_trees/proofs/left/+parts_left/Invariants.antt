use Rattle.std.specs.Prelude.{length}
use Rattle.pm_trees.proofs.left.+parts_left.Given as goal

abbrev pub decreases-parts_left : goal.decreases-parts_left
decreases-parts_left l = length l.lefts.now
