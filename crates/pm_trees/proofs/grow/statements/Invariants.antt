use Rattle.std.specs.Prelude.{◌≡◌, ◌≤◌, drop, length}
use Rattle.pm_trees.specs.Piles.{added_all, no_trees, texts_in}
use Rattle.pm_trees.proofs.grow.statements.Given as goal

-- If the remaining parts are added to the trees so far, the result is that of adding all parts. The number of pending
-- trees does not exceed the number of trees.
abbrev pub invariant-loop-part : goal.invariant-loop-part
invariant-loop-part l =
    (added_all l.around (drop l.part-index l.parts) (texts_in l.trees l.pending)
    ≡ added_all l.around l.parts (record { done = no_trees; pending = no_trees }))
    × (l.pending ≤ length l.trees.lefts)
