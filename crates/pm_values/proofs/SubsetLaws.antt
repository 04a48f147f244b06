-- Laws of subsets: the test of all numbers, done word by word.
use Rattle.std.proofs.Common.{◌≡◌, ◌≢◌, ℕ, zero, suc, ◌+◌, ◌-◌, ◌*◌, ◌^◌, ◌<◌, Bool, true, false, cond, eqb, List, length, get_or, sym, ap, ◌∙◌, refl, arith}
use Rattle.std.specs.Prelude.{◌&&◌, not, bit_and}
use Rattle.std.specs.Int.{bit_not, w16}
use Rattle.std.proofs.lemmas.Bool.Decides.{nat_tests}
use Rattle.pm_values.specs.declared.sets.Combination.TheVariants.{Difference}
use Rattle.pm_values.specs.Comparisons.{is_subset, none_from}
use Rattle.pm_values.specs.Laws.{SubsetIsOfNumbers}
use Rattle.pm_values.proofs.MemberLaws.{member_within}
use Rattle.pm_values.specs.Sets.{bits_from, is_member}
use Rattle.pm_values.proofs.SetLaws.{combined-word}

-- The test `p` is false for each of `n` numbers if and only if the number with the bits of their results is zero.
none_from-bits : (p : ℕ → Bool) (e n : ℕ) → none_from p e n ≡ eqb (bits_from p e n) 0
unfolding none_from bits_from
none_from-bits p e zero = refl
none_from-bits p e (suc n) = first (p e) (bits_from p (suc e) n) (none_from p (suc e) n) (none_from-bits p (suc e) n)
  where
    first : (b : Bool) (x : ℕ) (t : Bool) → t ≡ eqb x 0 → not b && t ≡ eqb (cond b 1 0 + 2 * x) 0
    first true x t h = grind (arith, nat_tests)
    first false x t h = grind (arith, nat_tests)

-- The test `p` is false for each of `a + b` numbers if and only if it is false for the first `a` and for the next `b`
-- numbers.
none_from-append : (p : ℕ → Bool) (e a b : ℕ) → none_from p e (a + b) ≡ none_from p e a && none_from p (e + a) b
unfolding none_from
none_from-append p e zero b =
    let n : 0 + b ≡ b = omega arith in
    let f : e + 0 ≡ e = omega arith in
    rw (n, f) refl
none_from-append p e (suc a) b =
    let n : suc a + b ≡ suc (a + b) = omega arith in
    let f : e + suc a ≡ suc e + a = omega arith in
    rw (n, f) (both (not (p e)) _ _ _ (none_from-append p (suc e) a b))
  where
    both : (x t u v : Bool) → t ≡ u && v → x && t ≡ (x && u) && v
    both true t u v h = h
    both false t u v h = refl

-- All numbers in word `i` of `xs` are in `ys` if and only if the bits of word `i` of `xs` that are 0 in word `i` of
-- `ys` are all 0.
none_from-word : (xs ys : List ℕ) (i : ℕ) → get_or xs i 0 < 2 ^ 16 → get_or ys i 0 < 2 ^ 16
    → none_from (λ e. is_member xs e && not (is_member ys e)) (16 * i) 16 ≡ eqb (bit_and (get_or xs i 0) (bit_not w16 (get_or ys i 0))) 0
none_from-word xs ys i p q =
    none_from-bits (λ e. is_member xs e && not (is_member ys e)) (16 * i) 16 ∙ ap (λ w. eqb w 0) (combined-word Difference xs ys i p q)

pub subset-none : (p : ℕ → Bool) → none_from p 0 0 ≡ true
unfolding none_from
subset-none p = refl

-- If all numbers in the first `i` words of `xs` are in `ys`, and all numbers in word `i` are, then all numbers in the
-- first `i + 1` words are.
pub subset-more : (xs ys : List ℕ) (i : ℕ) → get_or xs i 0 < 2 ^ 16 → get_or ys i 0 < 2 ^ 16 → bit_and (get_or xs i 0) (bit_not w16 (get_or ys i 0)) ≡ 0
    → none_from (λ e. is_member xs e && not (is_member ys e)) 0 (16 * i) ≡ true → none_from (λ e. is_member xs e && not (is_member ys e)) 0 (16 * (i + 1))
    ≡ true
subset-more xs ys i p q zero_word h =
    let more : 16 * (i + 1) ≡ 16 * i + 16 = omega arith in
    let place : 0 + 16 * i ≡ 16 * i = omega arith in
    rw (more, none_from-append _ 0 (16 * i) 16, h, place, none_from-word xs ys i p q, zero_word) refl

-- If word `i` of `xs` has a bit that is 0 in word `i` of `ys`, then `xs` is not a subset of `ys`.
pub subset-not : (xs ys : List ℕ) (i : ℕ) → get_or xs i 0 < 2 ^ 16 → get_or ys i 0 < 2 ^ 16 → i < length xs
    → bit_and (get_or xs i 0) (bit_not w16 (get_or ys i 0)) ≢ 0 → is_subset xs ys ≡ false
unfolding is_subset
subset-not xs ys i p q inside ne =
    let parts : 16 * length xs ≡ 16 * i + (16 + 16 * (length xs - (i + 1))) = omega arith in
    let place : 0 + 16 * i ≡ 16 * i = omega arith in
    let other : eqb (bit_and (get_or xs i 0) (bit_not w16 (get_or ys i 0))) 0 ≡ false = grind (arith, nat_tests) in
    rw (
      parts,
      none_from-append _ 0 (16 * i) (16 + 16 * (length xs - (i + 1))),
      place,
      none_from-append _ (16 * i) 16 (16 * (length xs - (i + 1))),
      none_from-word xs ys i p q,
      other,
    ) (never _)
  where
    never : (b : Bool) → b && false ≡ false
    never true = refl
    never false = refl

-- If all numbers in all words of `xs` are in `ys`, then `xs` is a subset of `ys`.
pub subset-whole : (xs ys : List ℕ) (n : ℕ) → n ≡ length xs → none_from (λ e. is_member xs e && not (is_member ys e)) 0 (16 * n) ≡ true → is_subset xs ys ≡ true
unfolding is_subset
subset-whole xs ys n e h = rw (← e) h

-- ---- a list of numbers for which a test is false, number by number
off_head : (x t : Bool) → not x && t ≡ true → x ≡ false
off_head true t h = cc
off_head false t h = refl

off_tail : (x t : Bool) → not x && t ≡ true → t ≡ true
off_tail true t h = cc
off_tail false t h = h

none_below : (p : ℕ → Bool) (s n b : ℕ) → none_from p s n ≡ true → b < n → p (s + b) ≡ false
unfolding none_from
none_below p s zero b h l = absurd (omega arith)
none_below p s (suc n) zero h l = let place : s + 0 ≡ s = omega arith in rw place (off_head (p s) (none_from p (suc s) n) h)
none_below p s (suc n) (suc b) h l =
    let place : s + suc b ≡ suc s + b = omega arith in
    rw place (none_below p (suc s) n b (off_tail (p s) (none_from p (suc s) n) h) (omega arith))

none_if : (p : ℕ → Bool) (s n : ℕ) → ((b : ℕ) → b < n → p (s + b) ≡ false) → none_from p s n ≡ true
unfolding none_from
none_if p s zero h = refl
none_if p s (suc n) h = rw (first, none_if p (suc s) n later) refl
  where
    first : p s ≡ false
    first = let place : s + 0 ≡ s = omega arith in ap p (sym place) ∙ h 0 (omega arith)

    later : (b : ℕ) → b < n → p (suc s + b) ≡ false
    later b l = let place : s + suc b ≡ suc s + b = omega arith in ap p (sym place) ∙ h (suc b) (omega arith)

inside_too : (x y : Bool) → x && not y ≡ false → x ≡ true → y ≡ true
inside_too true true h g = refl
inside_too true false h g = cc
inside_too false y h g = cc

none_outside : (x y : Bool) → (x ≡ true → y ≡ true) → x && not y ≡ false
none_outside true y h = rw (h refl) refl
none_outside false y h = refl

forward : (xs ys : List ℕ) (e : ℕ) → is_subset xs ys ≡ true → is_member xs e ≡ true → is_member ys e ≡ true
unfolding is_subset
forward xs ys e h m =
    let p = λ (e : ℕ). is_member xs e && not (is_member ys e) in
    let start : 0 + e ≡ e = omega arith in
    let out : p e ≡ false = ap p (sym start) ∙ none_below p 0 (16 * length xs) e h (member_within xs e m) in
    inside_too (is_member xs e) (is_member ys e) out m

backward : (xs ys : List ℕ) → ((e : ℕ) → is_member xs e ≡ true → is_member ys e ≡ true) → is_subset xs ys ≡ true
unfolding is_subset
backward xs ys h = none_if (λ e. is_member xs e && not (is_member ys e)) 0 (16 * length xs)
    (λ b l. none_outside (is_member xs (0 + b)) (is_member ys (0 + b)) (h (0 + b)))

pub subset_is_of_numbers : SubsetIsOfNumbers
subset_is_of_numbers xs ys = ((λ h e m. forward xs ys e h m), backward xs ys)
