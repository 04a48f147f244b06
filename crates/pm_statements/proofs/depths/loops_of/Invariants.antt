use Rattle.std.proofs.Common.{◌≡◌, drop, map}
use Rattle.pm_code.specs.Views.{placed_item, procedure_seen}
use Rattle.pm_statements.specs.Depths.{loops, loops_from}
use Rattle.pm_statements.proofs.depths.loops_of.Given as goal

-- If the loops so far are updated with the loops of the remaining items, they are all loops.
abbrev pub invariant-loop-item : goal.invariant-loop-item
invariant-loop-item l =
    loops_from l.procedure.entries.items l.procedure.start l.at (map placed_item (drop l.item-index l.procedure.items.items)) l.loops.items
    ≡ (loops (procedure_seen l.procedure)).list
