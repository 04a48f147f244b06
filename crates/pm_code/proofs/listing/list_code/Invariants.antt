use Rattle.std.proofs.Common.{◌≡◌, ◌++◌, List, drop, length, map, string_bytes}
use Rattle.pm_code.specs.Image.{Listed, listed_items, listed_lines}
use Rattle.pm_code.specs.Program.{AreItems, code_bytes}
use Rattle.pm_code.specs.Views.{placed_item}
use Rattle.pm_code.proofs.listing.list_code.Given as goal

abbrev pub invariant-loop-item : goal.invariant-loop-item
invariant-loop-item l = record {
  whole : l.bytes.items ++ code_bytes (length l.bytes.items) (map placed_item (drop l.item-index l.items))
      ≡ l.initial.bytes.items ++ code_bytes (length l.initial.bytes.items) (map placed_item l.items);
  good : AreItems (length l.bytes.items) (map placed_item (drop l.item-index l.items));
  written : (rest : List Listed) → string_bytes l.text ++ listed_lines l.place.segment
      (listed_items l.place.procedure (length l.bytes.items) (map placed_item (drop l.item-index l.items)) ++ rest)
      ≡ string_bytes l.initial.text ++ listed_lines l.place.segment
      (listed_items l.place.procedure (length l.initial.bytes.items) (map placed_item l.items) ++ rest);
}
