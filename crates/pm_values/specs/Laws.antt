-- Laws of the definitions of sets, fields and strings.
use Rattle.std.specs.Cmp.{IsTotalOrder}
use Rattle.std.specs.Cmp.Lexicographic.{slice_cmp}
use Rattle.std.specs.Int.{bit_at}
use Rattle.std.specs.Ordering.{nat_cmp}
use Rattle.std.specs.Prelude.{◌≡◌, ◌↔◌, true, ◌⊎◌, ◌<◌, ◌≤◌, ℕ, ◌+◌, ◌*◌, ◌%◌, ◌^◌, ◌&&◌, ◌||◌, Bool, not, max, min}
use Rattle.std.specs.Prelude.{List, length, nat_lt}
use Rattle.pm_values.specs.Comparisons.{is_subset}
use Rattle.pm_values.specs.Fields.{field_of, with_field}
use Rattle.pm_values.specs.Sets.{is_member, set_of}

-- The set `set_of n p` contains the number `e` if and only if `e` is below `16 * n` and the test `p` is true for `e`.
abbrev pub SetIsItsTest : Type 0
SetIsItsTest = (n : ℕ) (p : ℕ → Bool) (e : ℕ) → is_member (set_of n p) e ≡ (nat_lt e (16 * n) && p e)

-- The words of the union of the sets with the words `xs` and `ys`.
abbrev pub united : List ℕ → List ℕ → List ℕ
united xs ys = set_of (max (length xs) (length ys)) (λ e. is_member xs e || is_member ys e)

-- The words of the intersection of the sets with the words `xs` and `ys`.
abbrev pub intersected : List ℕ → List ℕ → List ℕ
intersected xs ys = set_of (min (length xs) (length ys)) (λ e. is_member xs e && is_member ys e)

-- The words of the difference of two sets: the numbers of `xs` that are not in `ys`.
abbrev pub set_removed : List ℕ → List ℕ → List ℕ
set_removed xs ys = set_of (length xs) (λ e. is_member xs e && not (is_member ys e))

-- The union of `xs` and `ys` has the same words as the union of `ys` and `xs`.
abbrev pub UnionCommutes : Type 0
UnionCommutes = (xs ys : List ℕ) → united xs ys ≡ united ys xs

abbrev pub IntersectionCommutes : Type 0
IntersectionCommutes = (xs ys : List ℕ) → intersected xs ys ≡ intersected ys xs

-- The union of the difference and the intersection of `xs` and `ys` contains exactly the numbers of `xs`.
abbrev pub PartsUnite : Type 0
PartsUnite = (xs ys : List ℕ) (e : ℕ) → is_member (united (set_removed xs ys) (intersected xs ys)) e ≡ is_member xs e

-- `is_subset xs ys` is true if and only if every number of `xs` is in `ys`, even if the sets differ in their numbers of
-- words.
abbrev pub SubsetIsOfNumbers : Type 0
SubsetIsOfNumbers = (xs ys : List ℕ) → (is_subset xs ys ≡ true) ↔ ((e : ℕ) → is_member xs e ≡ true
    → is_member ys e ≡ true)

-- If a field of `k` bits is loaded after `v` was stored to it, the loaded value is `v` modulo 2 to the power `k`.
abbrev pub StoredIsLoaded : Type 0
StoredIsLoaded = (w r k v : ℕ) → field_of (with_field w r k v) r k ≡ v % 2 ^ k

-- If bit `i` is outside the field, then storing the field does not change bit `i`.
abbrev pub OtherBitsStay : Type 0
OtherBitsStay = (w r k v i : ℕ) → (i < r) ⊎ (r + k ≤ i) → bit_at (with_field w r k v) i ≡ bit_at w i

-- The order in which strings are compared is a total order.
abbrev pub StringsAreOrdered : Type 0
StringsAreOrdered = IsTotalOrder (slice_cmp nat_cmp)
