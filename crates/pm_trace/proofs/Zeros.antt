-- Lemmas about numbers with leading zeros, digit by digit.
use Rattle.std.proofs.Common.{◌≡◌, ◌<◌, ◌≤◌, ℕ, zero, suc, ◌+◌, ◌-◌, ◌/◌, ◌%◌, ◌^◌, Bool, true, false, List, []}
use Rattle.std.proofs.Common.{◌∷◌, ◌++◌, length, replicate, refl, sym, ap, ◌∙◌, arith, append_assoc, length-append}
use Rattle.std.specs.Prelude.{nat_lt}
use Rattle.std.specs.Fmt.{decimal}
use Rattle.std.proofs.lemmas.Bool.{ltb-false}
use Rattle.std.proofs.lemmas.Bool.Decides.{nat_tests}
use Rattle.std.proofs.lemmas.Fmt.{decimal_digit, decimal_step}
use Rattle.pm_code.specs.Shown.{padded}

zeros : ℕ → List ℕ
zeros k = replicate k 48

zeros_more : (k : ℕ) → zeros (suc k) ≡ zeros k ++ 48 ∷ []
unfolding zeros
zeros_more zero = refl
zeros_more (suc k) = ap (λ u. 48 ∷ u) (zeros_more k)

below_ten : (k n : ℕ) → n < 10 → padded (suc (suc k)) n ≡ padded (suc k) (n / 10) ++ (48 + n % 10) ∷ []
unfolding padded zeros
below_ten k n h =
    let none : n / 10 ≡ 0 = omega arith in
    let last : n % 10 ≡ n = omega arith in
    let more : suc (suc k) - 1 ≡ suc k = omega arith in
    let fewer : suc k - 1 ≡ k = omega arith in
    rw (decimal_digit n h, none, last, decimal_digit 0 (omega arith), more, fewer) (ap (λ u. u ++ (48 + n) ∷ []) (zeros_more k))

from_ten : (k n : ℕ) → 10 ≤ n → n < 2 ^ 64 → padded (suc (suc k)) n ≡ padded (suc k) (n / 10) ++ (48 + n % 10) ∷ []
unfolding padded
from_ten k n low high =
    let front : List ℕ = decimal (n / 10) in
    let size : suc (suc k) - length (front ++ (48 + n % 10) ∷ []) ≡ suc k - length front = omega (arith, length-append front ((48 + n % 10) ∷ [])) in
    rw (decimal_step n low high, size) (sym (append_assoc (replicate (suc k - length front) 48) front ((48 + n % 10) ∷ [])))

-- A number with leading zeros is the number of its tens with one digit less, followed by its last digit.
pub padded_step : (k n : ℕ) → n < 2 ^ 64 → padded (suc (suc k)) n ≡ padded (suc k) (n / 10) ++ (48 + n % 10) ∷ []
padded_step k n h = go (nat_lt n 10) refl
  where
    go : (b : Bool) → nat_lt n 10 ≡ b → padded (suc (suc k)) n ≡ padded (suc k) (n / 10) ++ (48 + n % 10) ∷ []
    go true e = below_ten k n (grind (arith, nat_tests))
    go false e = from_ten k n (ltb-false _ _ e) h

padded_last : (n : ℕ) → n < 10 → padded 1 n ≡ (48 + n) ∷ []
unfolding padded
padded_last n h = rw (decimal_digit n h) refl

-- If `n` is a word, then these are its five digits.
pub five_digits : (n : ℕ) → n < 65536 → padded 5 n ≡ (48 + n / 10 / 10 / 10 / 10) ∷ (48 + n / 10 / 10 / 10 % 10) ∷ (48 + n / 10 / 10 % 10) ∷ (48 + n / 10 % 10)
    ∷ (48 + n % 10) ∷ []
five_digits n h =
    padded_step 3 n (omega arith)
    ∙ ap (λ u. u ++ (48 + n % 10) ∷ []) (padded_step 2 (n / 10) (omega arith)
    ∙ ap (λ u. u ++ (48 + n / 10 % 10) ∷ []) (padded_step 1 (n / 10 / 10) (omega arith)
    ∙ ap (λ u. u ++ (48 + n / 10 / 10 % 10) ∷ []) (padded_step 0 (n / 10 / 10 / 10) (omega arith)
    ∙ ap (λ u. u ++ (48 + n / 10 / 10 / 10 % 10) ∷ []) (padded_last (n / 10 / 10 / 10 / 10) (omega arith)))))

-- If `n` is a word, then its five digits are one digit and two pairs of digits.
pub digits_by_pairs : (n : ℕ) → n < 65536 → padded 5 n ≡ (48 + n / 100 / 100) ∷ (48 + n / 100 % 100 / 10) ∷ (48 + n / 100 % 100 % 10)
    ∷ (48 + n % 100 / 10) ∷ (48 + n % 100 % 10) ∷ []
digits_by_pairs n h =
    let a : n / 10 / 10 / 10 / 10 ≡ n / 100 / 100 = omega arith in
    let b : n / 10 / 10 / 10 % 10 ≡ n / 100 % 100 / 10 = omega arith in
    let c : n / 10 / 10 % 10 ≡ n / 100 % 100 % 10 = omega arith in
    let d : n / 10 % 10 ≡ n % 100 / 10 = omega arith in
    let e : n % 10 ≡ n % 100 % 10 = omega arith in
    rw (sym a, sym b, sym c, sym d, sym e) (five_digits n h)

-- If `n` is below 10,000,000, then these are its seven digits.
pub seven_digits : (n : ℕ) → n < 10000000 → padded 7 n ≡ (48 + n / 10 / 10 / 10 / 10 / 10 / 10) ∷ (48 + n / 10 / 10 / 10 / 10 / 10 % 10)
    ∷ (48 + n / 10 / 10 / 10 / 10 % 10) ∷ (48 + n / 10 / 10 / 10 % 10) ∷ (48 + n / 10 / 10 % 10) ∷ (48 + n / 10 % 10) ∷ (48 + n % 10) ∷ []
seven_digits n h =
    padded_step 5 n (omega arith)
    ∙ ap (λ u. u ++ (48 + n % 10) ∷ []) (padded_step 4 (n / 10) (omega arith)
    ∙ ap (λ u. u ++ (48 + n / 10 % 10) ∷ []) (padded_step 3 (n / 10 / 10) (omega arith)
    ∙ ap (λ u. u ++ (48 + n / 10 / 10 % 10) ∷ []) (padded_step 2 (n / 10 / 10 / 10) (omega arith)
    ∙ ap (λ u. u ++ (48 + n / 10 / 10 / 10 % 10) ∷ []) (padded_step 1 (n / 10 / 10 / 10 / 10) (omega arith)
    ∙ ap (λ u. u ++ (48 + n / 10 / 10 / 10 / 10 % 10) ∷ []) (padded_step 0 (n / 10 / 10 / 10 / 10 / 10) (omega arith)
    ∙ ap (λ u. u ++ (48 + n / 10 / 10 / 10 / 10 / 10 % 10) ∷ []) (padded_last (n / 10 / 10 / 10 / 10 / 10 / 10) (omega arith)))))))

-- The eight digits of a number are the seven digits of its tens, followed by its last digit.
pub last_of_eight : (n : ℕ) → n < 100000000 → padded 8 n ≡ padded 7 (n / 10) ++ (48 + n % 10) ∷ []
last_of_eight n h = padded_step 6 n (omega arith)
