use Rattle.std.proofs.Common.{◌≡◌, ◌+◌, ◌-◌, ◌++◌, string_bytes}
use Rattle.std.specs.List.{AllByRecursion}
use Rattle.pm_codefile.specs.Segments.{procedures_in}
use Rattle.pm_code.specs.Shown.{joined}
use Rattle.pm_disasm.specs.Shown.{tables_lines}
use Rattle.pm_disasm.specs.ShownTables.{IsShownTable}
use Rattle.pm_disasm.proofs.segments.push_tables.Given as goal

-- The written text, followed by that of the remaining procedures, is the whole text. The stored texts are correct.
abbrev pub invariant-loop-done : goal.invariant-loop-done
invariant-loop-done l = record {
  text : string_bytes l.text ++ joined (tables_lines l.segment (l.done + 1) (procedures_in l.segment - l.done))
      ≡ string_bytes l.fn.text ++ joined (tables_lines l.segment 1 (procedures_in l.segment));
  kept : AllByRecursion (IsShownTable l.segment) l.shown.items;
}
