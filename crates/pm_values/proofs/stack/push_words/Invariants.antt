use Rattle.std.proofs.Common.{◌≡◌, ◌+◌, ◌*◌, take}
use Rattle.pm_words.specs.Watch.{WatchStays}
use Rattle.pm_words.specs.Words.{with_words}
use Rattle.pm_values.proofs.stack.push_words.Given as goal

abbrev pub invariant-loop-word : goal.invariant-loop-word
invariant-loop-word l = record {
  place : l.place ≡ l.top + 2 * l.word-index;
  words : l.memory.words ≡ with_words l.fn.memory.words l.top (take l.word-index l.words);
  watch : WatchStays l.fn.memory l.memory;
}
