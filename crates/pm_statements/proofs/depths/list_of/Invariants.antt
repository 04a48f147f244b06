use Rattle.std.proofs.Common.{◌≡◌, ◌++◌, drop, map, reverse}
use Rattle.pm_code.specs.Views.{placed_item, procedure_seen}
use Rattle.pm_statements.specs.Depths.{depths, depths_from, loops}
use Rattle.pm_statements.proofs.depths.list_of.Given as goal

-- The depths so far, followed by the depths of the remaining items, are all depths.
abbrev pub invariant-loop-item : goal.invariant-loop-item
invariant-loop-item l =
    l.depths.items ++ depths_from l.procedure.entries.items (loops (procedure_seen l.procedure)) l.at l.forward
    (reverse l.ends.items) (map placed_item (drop l.item-index l.procedure.items.items))
    ≡ depths (procedure_seen l.procedure)
