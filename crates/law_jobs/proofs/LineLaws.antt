-- Lemmas: each line that is shown is a line of the trace, with or without text before it.
use Rattle.std.proofs.Common.{◌≡◌, ◌⊎◌, ℕ, Bool, true, false, List, [], ◌∷◌, ◌++◌, inl, inr, refl, arith, nat_le, if◌then◌else◌}
use Rattle.std.proofs.lemmas.Bool.Decides.{nat_tests}
use Rattle.pm_trace.specs.Trace.{trace_line}
use Rattle.pm_trace.specs.Selected.{front, is_selected, shown_line}
use Rattle.law_jobs.specs.TraceLaws.{AllIsTheTrace, LinesStay}

from_none : (n : ℕ) → nat_le 0 n ≡ true
from_none n = grind (arith, nat_tests)

pub all_is_the_trace : AllIsTheTrace
unfolding shown_line
all_is_the_trace s = rw (from_none s.steps) refl

shown_or_not : (b : Bool) (x y end : List ℕ) → ((if b then x ++ y ++ end else []) ≡ []) ⊎ ((z : List ℕ) × ((if b then x ++ y ++ end else []) ≡ z ++ y ++ end))
shown_or_not true x y end = inr (x, refl)
shown_or_not false x y end = inl refl

pub lines_stay : LinesStay
unfolding shown_line
lines_stay wanted s = shown_or_not (is_selected wanted s) (front wanted s) (trace_line s) (10 ∷ [])
