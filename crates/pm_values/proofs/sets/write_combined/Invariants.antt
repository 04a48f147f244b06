use Rattle.std.proofs.Common.{◌≡◌}
use Rattle.pm_words.specs.Watch.{WatchStays}
use Rattle.pm_words.specs.Words.{with_words, words_at}
use Rattle.pm_values.specs.Combinations.{test_of}
use Rattle.pm_values.specs.Sets.{is_member, set_of}
use Rattle.pm_values.proofs.sets.write_combined.Given as goal

abbrev pub invariant-loop-i : goal.invariant-loop-i
invariant-loop-i l = record {
  words : l.memory.words ≡ with_words l.fn.memory.words l.lower.address (set_of l.i (λ e. test_of l.combination
      (is_member (words_at l.fn.memory.words l.lower.address l.lower.count) e)
      (is_member (words_at l.fn.memory.words l.upper.address l.upper.count) e)));
  watch : WatchStays l.fn.memory l.memory;
}
