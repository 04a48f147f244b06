use Rattle.std.proofs.Common.{length, reverse}
use Rattle.pm_trees.proofs.Closing.{Closing}
use Rattle.pm_trees.proofs.close.close_ended.Given as goal

-- The invariant of the loop: the blocks that were closed and the blocks that remain are all blocks (`Closing`).
abbrev pub invariant-ended : goal.invariant-ended
invariant-ended l =
    Closing l.at l.here l.lines.items (reverse l.nest.items) l.fn.lines.items (reverse l.fn.nest.items)

abbrev pub decreases-ended : goal.decreases-ended
decreases-ended l = length l.nest.items
