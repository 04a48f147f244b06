use Rattle.std.proofs.Common.{◌≡◌, ◌+◌, ◌-◌, ◌++◌, string_bytes}
use Rattle.std.specs.List.{AllByRecursion}
use Rattle.pm_codefile.specs.Segments.{procedures_in}
use Rattle.pm_disasm.specs.Listing.{table_listing, tables_listing}
use Rattle.pm_disasm.proofs.listed.list_tables.Given as goal

-- The written text, followed by that of the remaining procedures, is the whole text. The stored listings are correct.
abbrev pub invariant-loop-done : goal.invariant-loop-done
invariant-loop-done l = record {
  text : string_bytes l.text ++ tables_listing l.slot l.segment (l.done + 1) (procedures_in l.segment - l.done)
      ≡ string_bytes l.fn.text ++ tables_listing l.slot l.segment 1 (procedures_in l.segment);
  kept : AllByRecursion (λ s. string_bytes s.text ≡ table_listing l.slot l.segment s.table) l.listed.items;
}
