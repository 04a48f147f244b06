use Rattle.std.proofs.Common.{◌≡◌, ◌*◌, ℕ, List, ◌++◌, drop, map}
use Rattle.std.specs.Fmt.{HasWritten, IsPlainFormatter, decimal}
use Rattle.pm_words.specs.Words.{words_of}
use Rattle.pm_code.specs.Text.{operands_text}
use Rattle.pm_code.proofs.Words.{rest_text}
use Rattle.pm_code.proofs.operands.WordsDisplay.fmt.Given as goal

-- The written text, followed by the text of the remaining words, is the whole text.
abbrev pub invariant-loop-k : goal.invariant-loop-k
invariant-loop-k g l =
    IsPlainFormatter l.initial.f → (done : List ℕ) × (HasWritten g.W.Write.write_str_gives l.initial.f done l.f)
    × (done ++ rest_text l.k (map decimal (words_of (drop (2 * l.k) l.bytes))) ≡ operands_text (map decimal (words_of l.bytes)))
