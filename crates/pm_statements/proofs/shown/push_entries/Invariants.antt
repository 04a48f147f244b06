use Rattle.std.proofs.Common.{◌≡◌, ◌++◌, drop, string_bytes}
use Rattle.pm_statements.specs.Files.{entry_lines}
use Rattle.pm_statements.proofs.shown.push_entries.Given as goal

-- The lines so far, followed by the lines of the remaining entries, are all lines.
abbrev pub invariant-loop-k : goal.invariant-loop-k
invariant-loop-k l =
    string_bytes l.out ++ entry_lines l.k-counter (drop l.k-counter l.entries) ≡ string_bytes l.fn.out ++ entry_lines 0 l.entries
