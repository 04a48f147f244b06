use Rattle.std.proofs.Common.{◌≡◌, ◌++◌, take, drop}
use Rattle.pm_source.specs.Words.{cut_word}
use Rattle.pm_line.proofs.words.cut_word.Given as goal

-- The first `i` characters belong to the first word.
abbrev pub invariant-loop-i : goal.invariant-loop-i
invariant-loop-i l = record {
  word : take l.i l.text ++ (cut_word (drop l.i l.text)).word ≡ (cut_word l.text).word;
  rest : (cut_word (drop l.i l.text)).rest ≡ (cut_word l.text).rest;
}
