use Rattle.std.proofs.Common.{◌≡◌, length}
use Rattle.pm_words.specs.Words.{words_at}
use Rattle.pm_rows.proofs.literals.words_in.Given as goal

-- `words` has the first `i` words of memory from address `start` on.
abbrev pub invariant-loop-i : goal.invariant-loop-i
invariant-loop-i l = record {
  words : l.words.items ≡ words_at l.memory.words l.start l.i;
  count : length l.words.items ≡ l.i;
}
