-- The value of digits, at most 1,000,000.
use Rattle.std.proofs.Common.{◌≡◌, ◌≤◌, ℕ, ◌+◌, ◌*◌, min, Bool, true, false, nat_le, List, [], ◌∷◌, length, arith, refl}
use Rattle.std.specs.Char.{digit_value}
use Rattle.std.specs.Str.Parse.{digits_value}
use Rattle.std.proofs.Math.Nat.{le-mul_of_pos_right}
use Rattle.std.proofs.lemmas.Bool.Decides.{nat_tests}

pub capped : (r v d : ℕ) → 1 ≤ r → min 1000000 (min 1000000 v * r + d) ≡ min 1000000 (v * r + d)
capped r v d h = go (nat_le v 1000000) refl
  where
    go : (b : Bool) → nat_le v 1000000 ≡ b → min 1000000 (min 1000000 v * r + d) ≡ min 1000000 (v * r + d)
    go true e = let low : min 1000000 v ≡ v = grind (arith, nat_tests) in rw low refl
    go false e =
        let high : min 1000000 v ≡ 1000000 = grind (arith, nat_tests) in
        rw high (omega (arith, le-mul_of_pos_right {m = r} 1000000 h, le-mul_of_pos_right {m = r} v h, high))

digit_small : (c : ℕ) → digit_value c ≤ 36
digit_small c = grind (arith, nat_tests)

-- The value of at most four hexadecimal digits is below the limit 1,000,000, so it is not reduced.
pub four_digits : (ds : List ℕ) → length ds ≤ 4 → min 1000000 (digits_value 16 ds) ≡ digits_value 16 ds
four_digits [] h = omega (arith)
four_digits (a ∷ []) h = omega (arith, digit_small a)
four_digits (a ∷ b ∷ []) h = omega (arith, digit_small a, digit_small b)
four_digits (a ∷ b ∷ c ∷ []) h = omega (arith, digit_small a, digit_small b, digit_small c)
four_digits (a ∷ b ∷ c ∷ d ∷ []) h = omega (arith, digit_small a, digit_small b, digit_small c, digit_small d)
four_digits (a ∷ b ∷ c ∷ d ∷ e ∷ ds) h = absurd (omega (arith, h))
