use Rattle.std.proofs.Common.{◌≡◌, ◌++◌, drop, map, string_bytes}
use Rattle.pm_code.specs.Shown.{entry_line, joined}
use Rattle.pm_disasm.proofs.procedures.push_entries.Given as goal

-- The written text, followed by the lines of the remaining entries, is the whole text.
abbrev pub invariant-loop-entry : goal.invariant-loop-entry
invariant-loop-entry l =
    string_bytes l.text ++ joined (map entry_line (drop l.entry-index l.entries)) ≡ string_bytes l.fn.text ++ joined (map entry_line l.entries)
