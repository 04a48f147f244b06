use Rattle.std.proofs.Common.{◌≡◌, ◌-◌, ◌++◌, string_bytes}
use Rattle.pm_c.specs.Procedures.{slots_procedures}
use Rattle.pm_c.proofs.procedures.lines.Given as goal

-- The written text, followed by the lines of the remaining slots, is the whole text.
abbrev pub invariant-loop-n : goal.invariant-loop-n
invariant-loop-n l = string_bytes l.text ++ slots_procedures l.file l.n (16 - l.n) ≡ slots_procedures l.file 0 16
