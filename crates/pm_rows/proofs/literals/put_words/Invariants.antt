use Rattle.std.proofs.Common.{◌≡◌, ◌+◌, ◌*◌, take}
use Rattle.std.specs.Prelude.{reverse}
use Rattle.pm_words.specs.Watch.{WatchStays}
use Rattle.pm_words.specs.Words.{with_words}
use Rattle.pm_rows.proofs.literals.put_words.Given as goal

-- The words that the loop has written are in memory from address `at` on, the last one first.
abbrev pub invariant-loop-word : goal.invariant-loop-word
invariant-loop-word l = record {
  place : l.at + 2 * l.word-index ≡ l.sp;
  written : l.memory.words ≡ with_words l.fn.memory.words l.at (reverse (take l.word-index l.words));
  watch : WatchStays l.fn.memory l.memory;
}
