use Rattle.std.proofs.Common.{◌≡◌, ◌++◌, drop, map}
use Rattle.pm_code.specs.Views.{placed_item, procedure_seen}
use Rattle.pm_trees.specs.Parts.{labelled_places, parts, procedure_parts}
use Rattle.pm_statements.proofs.procedure.parts_of.Given as goal

-- The parts so far, followed by the parts of the remaining items, are all parts.
abbrev pub invariant-loop-item : goal.invariant-loop-item
invariant-loop-item l =
    l.parts.items ++ parts l.known (labelled_places (procedure_seen l.procedure)) l.procedure.exit l.at
    (map placed_item (drop l.item-index l.procedure.items.items))
    ≡ procedure_parts l.known (procedure_seen l.procedure)
