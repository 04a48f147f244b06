-- A number in three digits.
use Rattle.std.proofs.Common.{◌≡◌, ◌<◌, ℕ, ◌+◌, ◌/◌, ◌%◌, [], ◌∷◌, ◌++◌, refl, ap, ◌∙◌, arith}
use Rattle.std.proofs.lemmas.Fmt.{decimal_digit}
use Rattle.pm_code.specs.Shown.{padded}
use Rattle.pm_trace.proofs.Zeros.{padded_step}

one_digit : (n : ℕ) → n < 10 → padded 1 n ≡ (48 + n) ∷ []
unfolding padded
one_digit n h = rw (decimal_digit n h) refl

pub three_digits : (n : ℕ) → n < 256 → padded 3 n ≡ (48 + n / 10 / 10) ∷ (48 + n / 10 % 10) ∷ (48 + n % 10) ∷ []
three_digits n h =
    padded_step 1 n (omega arith)
    ∙ ap (λ u. u ++ (48 + n % 10) ∷ []) (padded_step 0 (n / 10) (omega arith)
    ∙ ap (λ u. u ++ (48 + n / 10 % 10) ∷ []) (one_digit (n / 10 / 10) (omega arith)))
