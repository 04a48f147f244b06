-- Laws of the last line that ends a procedure.
use Rattle.std.proofs.Common.{◌≡◌, ℕ, ◌+◌, ◌≤◌, true, false, List, [], ◌∷◌, ◌++◌, ◌∙◌, length, drop, ap, sym, inl, inr, arith}
use Rattle.std.specs.Prelude.{nat_lt, ◌||◌}
use Rattle.std.specs.List.{list_any}
use Rattle.std.proofs.Math.Bool.{or-false, or-true}
use Rattle.std.proofs.lemmas.Bool.{cases_lt, lt-ltb, le-ltb}
use Rattle.std.proofs.lemmas.List.{drop-append-le, drop_all, length-append}
use Rattle.std.proofs.lemmas.List.Folds.{list_any-append}
use Rattle.pm_source.specs.Line.{Line}
use Rattle.pm_source.specs.Faults.{ends}

-- States that `until` is the number of lines up to the last line that ends a procedure.
abbrev pub IsUntil : List Line → ℕ → Type 0
IsUntil lines until = (at : ℕ) → list_any ends (drop at lines) ≡ nat_lt at until

any_more : (lines : List Line) (line : Line) (at : ℕ) → at ≤ length lines
    → list_any ends (drop at (lines ++ line ∷ [])) ≡ (list_any ends (drop at lines) || ends line)
any_more lines line at h =
    ap (list_any ends) (drop-append-le at lines (line ∷ []) h)
    ∙ (list_any-append ends (drop at lines) (line ∷ []) ∙ ap (λ b. list_any ends (drop at lines) || b) (or-false (ends line)))

none_past : (lines : List Line) (line : Line) (at : ℕ) → length lines + 1 ≤ at → list_any ends (drop at (lines ++ line ∷ [])) ≡ false
none_past lines line at h =
    ap (list_any ends) (drop_all at (lines ++ line ∷ []) (omega (arith, length-append lines (line ∷ []), h)))

pub until_here : (lines : List Line) (line : Line) → ends line ≡ true → IsUntil (lines ++ line ∷ []) (length lines + 1)
until_here lines line e at = elim (cases_lt at (length lines + 1)) [
  | inl h ↦ any_more lines line at (omega (arith, h)) ∙ (ap (λ b. list_any ends (drop at lines) || b) e
      ∙ (or-true (list_any ends (drop at lines)) ∙ sym (lt-ltb at (length lines + 1) h)))
  | inr h ↦ none_past lines line at h ∙ sym (le-ltb at (length lines + 1) h)
]

pub until_before : (lines : List Line) (line : Line) (until : ℕ) → ends line ≡ false → until ≤ length lines → IsUntil lines until
    → IsUntil (lines ++ line ∷ []) until
until_before lines line until e few before at = elim (cases_lt at (length lines + 1)) [
  | inl h ↦ any_more lines line at (omega (arith, h)) ∙ (ap (λ b. list_any ends (drop at lines) || b) e
      ∙ (or-false (list_any ends (drop at lines)) ∙ before at))
  | inr h ↦ none_past lines line at h ∙ sym (le-ltb at until (omega (arith, h, few)))
]
