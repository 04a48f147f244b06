use Rattle.std.proofs.Common.{◌≡◌, ◌<◌, ◌++◌, drop, length}
use Rattle.std.specs.List.{AllByRecursion}
use Rattle.pm_code.specs.Item.{table_words}
use Rattle.pm_code.proofs.bytes.push_table.Given as goal

abbrev pub invariant-loop-place : goal.invariant-loop-place
invariant-loop-place l = record {
  whole : l.out.items ++ table_words (length l.out.items) (drop l.place-index l.places)
      ≡ l.initial.out.items ++ table_words (length l.initial.out.items) l.places;
  within : AllByRecursion (λ place. place < 65536) (drop l.place-index l.places);
}
