use Rattle.std.proofs.Common.{◌≡◌, ◌++◌, drop, string_bytes}
use Rattle.pm_session.specs.Texts.{more_numbers, numbers_text}
use Rattle.pm_session.proofs.texts.numbers.Given as goal

-- The written text, followed by the text of the remaining numbers, is the whole text.
abbrev pub invariant-loop-number : goal.invariant-loop-number
invariant-loop-number l = record { rest : string_bytes l.text ++ more_numbers (drop l.number-index l.rest) ≡ numbers_text l.numbers }
