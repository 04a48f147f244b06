use Rattle.std.proofs.Common.{◌≡◌, ◌+◌, ◌∷◌}
use Rattle.std.specs.Prelude.{◌&&◌, nat_le}
use Rattle.arrayvec.specs.ArrayVec.{array_vec_len}
use Rattle.pm_values.specs.Sets.{set_of}
use Rattle.pm_values.proofs.sets.interval.Given as goal

abbrev pub invariant-loop-i : goal.invariant-loop-i
invariant-loop-i l = record {
  length : array_vec_len l.words ≡ l.i + 1;
  set : l.words.items ≡ l.count ∷ set_of l.i (λ e. nat_le l.low e && nat_le e l.high);
}
