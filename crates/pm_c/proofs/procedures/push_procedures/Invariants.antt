use Rattle.std.proofs.Common.{◌≡◌, ◌+◌, ◌-◌, ◌++◌, string_bytes}
use Rattle.pm_codefile.specs.Segments.{procedures_in}
use Rattle.pm_c.specs.Procedures.{procedures_from}
use Rattle.pm_c.proofs.procedures.push_procedures.Given as goal

-- The written text, followed by the lines of the remaining procedures, is the whole text.
abbrev pub invariant-loop-done : goal.invariant-loop-done
invariant-loop-done l = string_bytes l.text ++ procedures_from l.slot l.segment (l.done + 1) (procedures_in l.segment - l.done)
    ≡ string_bytes l.fn.text ++ procedures_from l.slot l.segment 1 (procedures_in l.segment)
