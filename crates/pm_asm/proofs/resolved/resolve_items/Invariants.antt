use Rattle.std.proofs.Common.{◌≡◌, ◌++◌, drop, map}
use Rattle.pm_code.specs.Views.{placed_item}
use Rattle.pm_line.specs.Views.{labelled_item}
use Rattle.pm_source.specs.Faults.{items_faults}
use Rattle.pm_source.specs.Meaning.{found_item}
use Rattle.pm_asm.specs.Firsts.{places_in}
use Rattle.pm_asm.proofs.resolved.resolve_items.Given as goal

-- Only the remaining items can have faults. The items up to here, followed by the results of the remaining items, are
-- all items.
abbrev pub invariant-loop-item : goal.invariant-loop-item
invariant-loop-item l = record {
  faults : items_faults (places_in l.code) l.line l.at (map labelled_item (drop l.item-index l.items))
      ≡ items_faults (places_in l.code) l.line l.start (map labelled_item l.items);
  found : map placed_item l.out.items ++ map (found_item (places_in l.code)) (map labelled_item (drop l.item-index l.items))
      ≡ map placed_item l.initial.out.items ++ map (found_item (places_in l.code)) (map labelled_item l.items);
}
