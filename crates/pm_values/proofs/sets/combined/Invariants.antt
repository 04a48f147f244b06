use Rattle.std.proofs.Common.{◌≡◌, ◌+◌, ◌∷◌}
use Rattle.arrayvec.specs.ArrayVec.{array_vec_len}
use Rattle.pm_words.specs.Words.{words_at}
use Rattle.pm_values.specs.Combinations.{test_of}
use Rattle.pm_values.specs.Sets.{is_member, set_of}
use Rattle.pm_values.proofs.sets.combined.Given as goal

abbrev pub invariant-loop-i : goal.invariant-loop-i
invariant-loop-i l = record {
  length : array_vec_len l.words ≡ l.i + 1;
  set : l.words.items ≡ l.count ∷ set_of l.i (λ e. test_of l.combination
      (is_member (words_at l.memory.words l.lower.address l.lower.count) e)
      (is_member (words_at l.memory.words l.upper.address l.upper.count) e));
}
