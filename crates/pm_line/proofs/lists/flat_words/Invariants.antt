use Rattle.std.proofs.Common.{◌≡◌, ◌++◌, drop}
use Rattle.pm_source.specs.Line.{flat_words}
use Rattle.pm_line.proofs.lists.flat_words.Given as goal

-- The bytes so far, followed by the bytes of the remaining words, are all bytes.
abbrev pub invariant-loop-word : goal.invariant-loop-word
invariant-loop-word l = l.bytes.items ++ flat_words (drop l.word-index l.words) ≡ flat_words l.words
