use Rattle.std.proofs.Common.{◌≡◌, ◌-◌, ◌++◌, string_bytes}
use Rattle.pm_code.specs.Shown.{joined}
use Rattle.pm_disasm.specs.Shown.{slots_lines}
use Rattle.pm_disasm.proofs.segments.file.Given as goal

-- The written text, followed by that of the remaining slots, is the whole text.
abbrev pub invariant-loop-n : goal.invariant-loop-n
invariant-loop-n l = string_bytes l.text ++ joined (slots_lines l.file l.n (16 - l.n)) ≡ joined (slots_lines l.file 0 16)
