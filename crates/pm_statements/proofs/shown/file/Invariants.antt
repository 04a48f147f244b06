use Rattle.std.proofs.Common.{◌≡◌, ◌-◌, ◌++◌, string_bytes}
use Rattle.pm_statements.specs.Files.{slots_text}
use Rattle.pm_statements.proofs.shown.file.Given as goal

-- The text so far, followed by the text of the remaining slots, is the whole text.
abbrev pub invariant-loop-n : goal.invariant-loop-n
invariant-loop-n l =
    string_bytes l.text ++ slots_text l.sizes.callees.items l.layout l.file l.n (16 - l.n) ≡ slots_text l.sizes.callees.items l.layout l.file 0 16
