-- Numbers of several digits, digit by digit.
use Rattle.std.proofs.Common.{◌≡◌, ◌<◌, ◌≤◌, ℕ, ◌+◌, ◌/◌, ◌%◌, List, [], ◌∷◌, ◌++◌, ap, ◌∙◌, arith}
use Rattle.std.specs.Fmt.{decimal}
use Rattle.std.proofs.lemmas.Fmt.{decimal_digit, decimal_step}

pub one_digit : (n : ℕ) → n < 10 → decimal n ≡ (48 + n) ∷ []
one_digit n h = decimal_digit n h

-- If `front` is the decimal text of `n / 10`, then the decimal text of `n` is `front` followed by the last digit.
further : (n : ℕ) (front : List ℕ) → 10 ≤ n → n < 65536 → decimal (n / 10) ≡ front → decimal n ≡ front ++ (48 + n % 10) ∷ []
further n front low high e = decimal_step n low (omega arith) ∙ ap (λ u. u ++ (48 + n % 10) ∷ []) e

pub two_digits : (n : ℕ) → 10 ≤ n → n < 100 → decimal n ≡ (48 + n / 10) ∷ (48 + n % 10) ∷ []
two_digits n low high = further n _ low (omega arith) (one_digit (n / 10) (omega arith))

pub three_digits : (n : ℕ) → 100 ≤ n → n < 1000 → decimal n ≡ (48 + n / 10 / 10 % 10) ∷ (48 + n / 10 % 10) ∷ (48 + n % 10) ∷ []
three_digits n low high =
    let last : n / 10 / 10 % 10 ≡ n / 10 / 10 = omega arith in
    rw last (further n _ (omega arith) (omega arith) (two_digits (n / 10) (omega arith) (omega arith)))

pub four_digits : (n : ℕ) → 1000 ≤ n → n < 10000 → decimal n ≡ (48 + n / 10 / 10 / 10 % 10) ∷ (48 + n / 10 / 10 % 10) ∷ (48 + n / 10 % 10) ∷ (48 + n % 10) ∷ []
four_digits n low high = further n _ (omega arith) (omega arith) (three_digits (n / 10) (omega arith) (omega arith))

pub five_digits : (n : ℕ) → 10000 ≤ n → n < 65536
    → decimal n ≡ (48 + n / 10 / 10 / 10 / 10) ∷ (48 + n / 10 / 10 / 10 % 10) ∷ (48 + n / 10 / 10 % 10) ∷ (48 + n / 10 % 10) ∷ (48 + n % 10) ∷ []
five_digits n low high =
    let last : n / 10 / 10 / 10 / 10 % 10 ≡ n / 10 / 10 / 10 / 10 = omega arith in
    rw last at (further n _ (omega arith) (omega arith) (four_digits (n / 10) (omega arith) (omega arith)))
