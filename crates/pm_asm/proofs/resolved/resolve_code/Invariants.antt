use Rattle.std.proofs.Common.{◌≡◌, ◌++◌, drop, map}
use Rattle.pm_code.specs.Views.{placed_item}
use Rattle.pm_line.specs.Views.{row_seen}
use Rattle.pm_source.specs.Faults.{code_faults}
use Rattle.pm_source.specs.Meaning.{found_item}
use Rattle.pm_source.specs.Source.{items_of}
use Rattle.pm_asm.specs.Firsts.{places_in}
use Rattle.pm_asm.specs.Found.{items_in}
use Rattle.pm_asm.proofs.resolved.resolve_code.Given as goal

-- Only the remaining rows can have faults. The items up to here, followed by the results of the remaining rows, are all
-- items.
abbrev pub invariant-loop-row : goal.invariant-loop-row
invariant-loop-row l = record {
  faults : code_faults (places_in l.code) l.at (map row_seen (drop l.row-index l.code.rows.now))
      ≡ code_faults (places_in l.code) l.code.start (map row_seen l.code.rows.now);
  found : map placed_item l.items.items ++ map (found_item (places_in l.code)) (items_of (map row_seen (drop l.row-index l.code.rows.now)))
      ≡ items_in l.code;
}
