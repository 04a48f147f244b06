use Rattle.std.proofs.Common.{◌≡◌, ◌++◌, drop, length, map}
use Rattle.pm_code.specs.Program.{AreItems, code_bytes}
use Rattle.pm_code.specs.Views.{placed_item}
use Rattle.pm_code.proofs.bytes.push_code.Given as goal

abbrev pub invariant-loop-item : goal.invariant-loop-item
invariant-loop-item l = record {
  whole : l.out.items ++ code_bytes (length l.out.items) (map placed_item (drop l.item-index l.items))
      ≡ l.initial.out.items ++ code_bytes (length l.initial.out.items) (map placed_item l.items);
  good : AreItems (length l.out.items) (map placed_item (drop l.item-index l.items));
}
