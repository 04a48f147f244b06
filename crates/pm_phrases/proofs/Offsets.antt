-- Offsets in five digits.
use Rattle.std.proofs.Common.{◌≡◌, ◌≤◌, ◌<◌, ℕ, zero, suc, Bool, true, false, List, [], ◌∷◌, ◌++◌, ◌+◌, ◌-◌, ◌/◌, ◌%◌, ◌^◌}
use Rattle.std.proofs.Common.{arith, length, nat_lt, replicate, append_assoc, refl, sym, ap, ◌∙◌}
use Rattle.std.proofs.lemmas.Bool.Decides.{nat_tests}
use Rattle.std.proofs.lemmas.List.{length-append}
use Rattle.std.specs.Fmt.{decimal}
use Rattle.std.proofs.lemmas.Fmt.{decimal_digit, decimal_step}
use Rattle.pm_code.specs.Shown.{padded}

-- If `first` and then `second` were appended to `old`, then `first ++ second` was appended.
pub text_joined : (old middle new first second : List ℕ) → middle ≡ old ++ first → new ≡ middle ++ second → new ≡ old ++ (first ++ second)
text_joined old middle new first second e f = f ∙ ap (λ t. t ++ second) e ∙ append_assoc old first second

abbrev zero_digit : ℕ
zero_digit = 48

zero_behind : (k : ℕ) → replicate k zero_digit ++ (zero_digit ∷ []) ≡ zero_digit ∷ replicate k zero_digit
zero_behind zero = refl
zero_behind (suc k) = ap (λ cs. zero_digit ∷ cs) (zero_behind k)

-- The padded text of a number `n` below 10 is the padded text of `n / 10` with one digit fewer, followed by the last
-- digit.
low_digit : (v n : ℕ) → n < 10 → padded (suc (suc v)) n ≡ padded (suc v) (n / 10) ++ ((48 + n % 10) ∷ [])
unfolding padded
low_digit v n low =
    let none : n / 10 ≡ 0 = omega (arith, low) in
    let own : n % 10 ≡ n = omega (arith, low) in
    let digit : List ℕ = (48 + n) ∷ [] in
    let last : List ℕ = (48 + n % 10) ∷ [] in
    let full : suc (suc v) - 1 ≡ suc v = omega arith in
    let rest : v ≡ suc v - 1 = omega arith in
    ap (λ cs. replicate (suc (suc v) - length cs) 48 ++ cs) (decimal_digit n low)
    ∙ ap (λ (k : ℕ). replicate k 48 ++ digit) full
    ∙ ap (λ cs. cs ++ digit) (sym (zero_behind v))
    ∙ ap (λ (k : ℕ). (replicate v 48 ++ (zero_digit ∷ [])) ++ ((48 + k) ∷ [])) (sym own)
    ∙ ap (λ (k : ℕ). (replicate k 48 ++ (zero_digit ∷ [])) ++ last) rest
    ∙ ap (λ cs. (replicate (suc v - length cs) 48 ++ cs) ++ last) (sym (decimal_digit 0 (omega arith)))
    ∙ ap (λ (k : ℕ). (replicate (suc v - length (decimal k)) 48 ++ decimal k) ++ last) (sym none)

high_digit : (v n : ℕ) → 10 ≤ n → n < 2 ^ 64 → padded (suc (suc v)) n ≡ padded (suc v) (n / 10) ++ ((48 + n % 10) ∷ [])
unfolding padded
high_digit v n high small =
    let others : List ℕ = decimal (n / 10) in
    let last : List ℕ = (48 + n % 10) ∷ [] in
    let more : length (others ++ last) ≡ length others + 1 = length-append others last in
    let zeros : suc (suc v) - length (others ++ last) ≡ suc v - length others = omega (arith, more) in
    ap (λ cs. replicate (suc (suc v) - length cs) 48 ++ cs) (decimal_step n high small)
    ∙ ap (λ (k : ℕ). replicate k 48 ++ (others ++ last)) zeros
    ∙ sym (append_assoc (replicate (suc v - length others) 48) others last)

last_digit : (v n : ℕ) → n < 2 ^ 64 → padded (suc (suc v)) n ≡ padded (suc v) (n / 10) ++ ((48 + n % 10) ∷ [])
last_digit v n small = go (nat_lt n 10) refl
  where
    go : (is : Bool) → nat_lt n 10 ≡ is → padded (suc (suc v)) n ≡ padded (suc v) (n / 10) ++ ((48 + n % 10) ∷ [])
    go true e = low_digit v n (grind (arith, nat_tests))
    go false e = high_digit v n (grind (arith, nat_tests)) small

one_digit : (n : ℕ) → n < 10 → padded 1 n ≡ (48 + n) ∷ []
unfolding padded
one_digit n low = ap (λ cs. replicate (1 - length cs) 48 ++ cs) (decimal_digit n low)

-- If `n` has at most five digits, then its padded text consists of these five digits.
five_digits : (n : ℕ) → n ≤ 99999 → padded 5 n ≡ (48 + n / 10 / 10 / 10 / 10) ∷ (48 + n / 10 / 10 / 10 % 10)
    ∷ (48 + n / 10 / 10 % 10) ∷ (48 + n / 10 % 10) ∷ (48 + n % 10) ∷ []
five_digits n low =
    last_digit 3 n (omega (arith, low))
    ∙ ap (λ cs. cs ++ ((48 + n % 10) ∷ [])) (last_digit 2 (n / 10) (omega (arith, low))
    ∙ ap (λ cs. cs ++ ((48 + n / 10 % 10) ∷ [])) (last_digit 1 (n / 10 / 10) (omega (arith, low))
    ∙ ap (λ cs. cs ++ ((48 + n / 10 / 10 % 10) ∷ [])) (last_digit 0 (n / 10 / 10 / 10) (omega (arith, low))
    ∙ ap (λ cs. cs ++ ((48 + n / 10 / 10 / 10 % 10) ∷ [])) (one_digit (n / 10 / 10 / 10 / 10) (omega (arith, low))))))

-- If the five digits of `n` were appended one after another, then the padded text of `n` was appended.
pub offset_added : (n : ℕ) (old a b c d e : List ℕ) → n ≤ 99999 → a ≡ old ++ ((48 + n / 10 / 10 / 10 / 10) ∷ [])
    → b ≡ a ++ ((48 + n / 10 / 10 / 10 % 10) ∷ []) → c ≡ b ++ ((48 + n / 10 / 10 % 10) ∷ [])
    → d ≡ c ++ ((48 + n / 10 % 10) ∷ []) → e ≡ d ++ ((48 + n % 10) ∷ []) → e ≡ old ++ padded 5 n
offset_added n old a b c d e low one two three four five =
    text_joined old d e _ _ (text_joined old c d _ _ (text_joined old b c _ _ (text_joined old a b _ _ one two) three) four) five
    ∙ ap (λ cs. old ++ cs) (sym (five_digits n low))
