use Rattle.std.proofs.Common.{◌≡◌, drop, map}
use Rattle.pm_code.specs.Views.{placed_item}
use Rattle.pm_statements.specs.Callees.{no_return, returns_from}
use Rattle.pm_statements.proofs.callees.returns_of.Given as goal

-- If the result so far is updated with the remaining items, it is the result for all items.
abbrev pub invariant-loop-item : goal.invariant-loop-item
invariant-loop-item l =
    returns_from l.returns (map placed_item (drop l.item-index l.items)) ≡ returns_from no_return (map placed_item l.items)
