-- Laws of the members of a set that is defined by a test.
use Rattle.std.proofs.Common.{◌≡◌, ℕ, zero, suc, ◌+◌, ◌*◌, ◌/◌, ◌%◌, ◌<◌, ◌≤◌, Bool, true, false, cond, eqb, ltb, List, length, get_or, inl, inr, ap, ◌∙◌, refl}
use Rattle.std.proofs.Common.{arith, max, min}
use Rattle.std.specs.Prelude.{◌||◌, ◌&&◌, not}
use Rattle.std.specs.Int.{bit_at}
use Rattle.std.proofs.lemmas.Bool.{cases_lt}
use Rattle.std.proofs.lemmas.Bool.Decides.{nat_tests}
use Rattle.std.proofs.lemmas.List.{get_or_past}
use Rattle.std.proofs.lemmas.Nat.Bits.{bit_at-suc, bit_at-zero, bit_at_lowest}
use Rattle.pm_values.specs.Laws.{IntersectionCommutes, PartsUnite, SetIsItsTest, UnionCommutes, intersected, set_removed}
use Rattle.pm_values.specs.Sets.{bits_from, is_member, set_from}
use Rattle.pm_values.proofs.SetLaws.{length-set_from}

low_bit : (b : Bool) (r : ℕ) → eqb ((cond b 1 0 + 2 * r) % 2) 1 ≡ b
low_bit true r = let e : (1 + 2 * r) % 2 ≡ 1 = omega arith in rw e refl
low_bit false r = let e : (0 + 2 * r) % 2 ≡ 0 = omega arith in rw e refl

high_bits : (b : Bool) (r : ℕ) → (cond b 1 0 + 2 * r) / 2 ≡ r
high_bits true r = omega arith
high_bits false r = omega arith

-- Bit `b` of `bits_from p s n` is 1 if and only if the test `p` is true for the number `s + b`.
bits_from-bit : (p : ℕ → Bool) (s n b : ℕ) → b < n → eqb (bit_at (bits_from p s n) b) 1 ≡ p (s + b)
unfolding bits_from
bits_from-bit p s zero b h = absurd (omega arith)
bits_from-bit p s (suc n) zero h =
    let place : s + 0 ≡ s = omega arith in
    rw place (ap (λ x. eqb x 1) (bit_at_lowest (cond (p s) 1 0 + 2 * bits_from p (suc s) n)) ∙ low_bit (p s) (bits_from p (suc s) n))
bits_from-bit p s (suc n) (suc b) h =
    let place : s + suc b ≡ suc s + b = omega arith in
    rw place (ap (λ x. eqb x 1) (bit_at-suc (cond (p s) 1 0 + 2 * bits_from p (suc s) n) b ∙ ap (λ x. bit_at x b) (high_bits (p s) (bits_from p (suc s) n)))
    ∙ bits_from-bit p (suc s) n b (omega arith))

-- Word `i` of `set_from p s n` has the bits of the sixteen numbers from `s + 16 * i` on.
pub get_or-set_from : (n s i : ℕ) (p : ℕ → Bool) → i < n → get_or (set_from p s n) i 0 ≡ bits_from p (s + 16 * i) 16
unfolding set_from
get_or-set_from zero s i p h = absurd (omega arith)
get_or-set_from (suc n) s zero p h = let place : s + 16 * 0 ≡ s = omega arith in rw place refl
get_or-set_from (suc n) s (suc i) p h =
    let place : s + 16 * suc i ≡ s + 16 + 16 * i = omega arith in
    rw place (get_or-set_from n (s + 16) i p (omega arith))

get_or-set_from_past : (n s i : ℕ) (p : ℕ → Bool) → n ≤ i → get_or (set_from p s n) i 0 ≡ 0
unfolding set_from
get_or-set_from_past zero s i p h = refl
get_or-set_from_past (suc n) s zero p h = absurd (omega arith)
get_or-set_from_past (suc n) s (suc i) p h = get_or-set_from_past n (s + 16) i p (omega arith)

pub set_is_its_test : SetIsItsTest
unfolding is_member
set_is_its_test n p e = elim (cases_lt (e / 16) n) [
  | inl inside ↦ let whole : 0 + 16 * (e / 16) + e % 16 ≡ e = omega arith in
      let test : ltb e (16 * n) ≡ true = grind (arith, nat_tests) in
      rw (get_or-set_from n 0 (e / 16) p inside, test) (bits_from-bit p (0 + 16 * (e / 16)) 16 (e % 16) (omega arith) ∙ ap p whole)
  | inr past ↦ let test : ltb e (16 * n) ≡ false = grind (arith, nat_tests) in
      rw (get_or-set_from_past n 0 (e / 16) p past, test) (ap (λ x. eqb x 1) (bit_at-zero (e % 16)))
]

bits_from-same : (n s : ℕ) (p q : ℕ → Bool) → ((e : ℕ) → p e ≡ q e) → bits_from p s n ≡ bits_from q s n
unfolding bits_from
bits_from-same zero s p q h = refl
bits_from-same (suc n) s p q h = rw (h s, bits_from-same n (suc s) p q h) refl

-- If two tests have the same result for each number, then they define the same set.
set_from-same : (n s : ℕ) (p q : ℕ → Bool) → ((e : ℕ) → p e ≡ q e) → set_from p s n ≡ set_from q s n
unfolding set_from
set_from-same zero s p q h = refl
set_from-same (suc n) s p q h = rw (bits_from-same 16 s p q h, set_from-same n (s + 16) p q h) refl

or_commutes : (x y : Bool) → x || y ≡ y || x
or_commutes true true = refl
or_commutes true false = refl
or_commutes false true = refl
or_commutes false false = refl

and_commutes : (x y : Bool) → x && y ≡ y && x
and_commutes true true = refl
and_commutes true false = refl
and_commutes false true = refl
and_commutes false false = refl

pub union_commutes : UnionCommutes
union_commutes xs ys =
    let count : max (length xs) (length ys) ≡ max (length ys) (length xs) = omega arith in
    rw count (set_from-same _ 0 _ _ (λ e. or_commutes (is_member xs e) (is_member ys e)))

pub intersection_commutes : IntersectionCommutes
intersection_commutes xs ys =
    let count : min (length xs) (length ys) ≡ min (length ys) (length xs) = omega arith in
    rw count (set_from-same _ 0 _ _ (λ e. and_commutes (is_member xs e) (is_member ys e)))

-- If the number `e` is in the set `xs`, then `e` is below 16 times the number of words of `xs`.
pub member_within : (xs : List ℕ) (e : ℕ) → is_member xs e ≡ true → e < 16 * length xs
unfolding is_member
member_within xs e h = elim (cases_lt e (16 * length xs)) [
  | inl inside ↦ inside
  | inr past ↦ let far : length xs ≤ e / 16 = omega arith in
      let none : eqb (bit_at (get_or xs (e / 16) 0) (e % 16)) 1 ≡ false = rw (get_or_past xs (e / 16) 0 far) (ap (λ x. eqb x 1) (bit_at-zero (e % 16))) in
      absurd (cc (none, h))
]

tested : (e n m : ℕ) → e < 16 * n → n ≤ m → ltb e (16 * m) ≡ true
tested e n m l le = grind (arith, nat_tests)

parts : (a b c x y : Bool) → (x ≡ true → a ≡ true) → (x ≡ true → b ≡ true) → (x ≡ true → y ≡ true → c ≡ true)
    → a && ((b && (x && not y)) || (c && (x && y))) ≡ x
parts a b c true true f g h = rw (f refl, g refl, h refl refl) refl
parts a b c true false f g h = rw (f refl, g refl) refl
parts false b c false y f g h = refl
parts true false false false y f g h = refl
parts true false true false y f g h = refl
parts true true false false y f g h = refl
parts true true true false y f g h = refl

pub parts_unite : PartsUnite
parts_unite xs ys e =
    let rest = set_removed xs ys in
    let taken = intersected xs ys in
    let more : length rest ≡ length xs = length-set_from (length xs) 0 (λ e. is_member xs e && not (is_member ys e)) in
    let fewer : length taken ≡ min (length xs) (length ys) = length-set_from (min (length xs) (length ys)) 0 (λ e. is_member xs e && is_member ys e) in
    set_is_its_test (max (length rest) (length taken)) (λ e. is_member rest e || is_member taken e) e
    ∙ rw (
      set_is_its_test (length xs) (λ e. is_member xs e && not (is_member ys e)) e,
      set_is_its_test (min (length xs) (length ys))
          (λ e. is_member xs e && is_member ys e) e,
    )
    (parts _ _ _ (is_member xs e) (is_member ys e)
    (λ h. tested e (length xs) _ (member_within xs e h) (omega (arith, more)))
    (λ h. tested e (length xs) _ (member_within xs e h) (omega arith))
    (λ h g. tested e (min (length xs) (length ys)) _ (let l = member_within xs e h in let k = member_within ys e g in omega arith) (omega arith)))
