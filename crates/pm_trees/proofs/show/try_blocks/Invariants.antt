use Rattle.std.proofs.Common.{drop, reverse}
use Rattle.pm_trees.proofs.Growing.{Growing}
use Rattle.pm_trees.proofs.show.try_blocks.Given as goal

-- The lines so far, followed by the lines of the remaining statements, are all lines (`Growing`).
abbrev pub invariant-loop-statement : goal.invariant-loop-statement
invariant-loop-statement l =
    Growing l.statements l.so_far l.lines.items (reverse l.nest.items) (drop l.statement-index l.statements)
