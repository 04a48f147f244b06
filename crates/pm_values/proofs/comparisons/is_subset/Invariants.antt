use Rattle.std.proofs.Common.{◌≡◌, ◌*◌, true}
use Rattle.std.specs.Prelude.{◌&&◌, not}
use Rattle.pm_values.specs.Comparisons.{none_from}
use Rattle.pm_values.specs.Sets.{is_member}
use Rattle.pm_values.proofs.comparisons.is_subset.Given as goal

abbrev pub invariant-loop-i : goal.invariant-loop-i
invariant-loop-i l = record {
  none : none_from (λ e. is_member l.left e && not (is_member l.right e)) 0 (16 * l.i) ≡ true;
}
