-- Laws of operands that are in range and of the numbers that are stored for them.
use Rattle.std.proofs.Common.{◌≡◌, ◌<◌, ◌≤◌, ℕ, ◌-◌, ◌%◌, Bool, true, false, List, refl, ap, subst, sym, ◌∙◌, arith, Option, Some, None}
use Rattle.std.specs.Prelude.{nat_le, ◌&&◌, if◌then◌else◌}
use Rattle.std.proofs.lemmas.Bool.{leb-true}
use Rattle.std.proofs.Math.Nat.{mod_self, mod-lt, mod-le}
use Rattle.pm_source.specs.declared.number.Numeral.{Numeral}
use Rattle.pm_source.specs.Words.{within, stored, number}
use Rattle.pm_codefile.specs.Segments.{◌>>=◌}
use Rattle.pm_source.specs.Line.{numeral_operand, segment_number, slot_operand}

-- If a sequence of two readings has the result `y`, then the first reading has a result, and the second one returns `y`
-- for it.
pub record Bound {A B : Type 0} (o : Option A) (f : A → Option B) (y : B) : Type 0 where
  pub value : A
  pub first : o ≡ Some value
  pub next : f value ≡ Some y

pub bound : {A B : Type 0} (o : Option A) (f : A → Option B) (y : B) → (o >>= f) ≡ Some y → Bound o f y
bound None f y e = absurd (cc)
bound (Some x) f y e = record { value = x; first = refl; next = e }

pub both : (a b : Bool) → (a && b) ≡ true → (a ≡ true) × (b ≡ true)
both true b e = (refl, e)
both false b e = absurd (cc)

pub some_is : {A : Type 0} (x y : A) → Some x ≡ Some y → x ≡ y
some_is x y e = cc

-- If two pairs in `Some` are equal, then their items are equal.
pub pair_is : {A B : Type 0} (a c : A) (b d : B) → ◌≡◌ {A = Option (A × B)} (Some (a, b)) (Some (c, d)) → (a ≡ c) × (b ≡ d)
pair_is {A = A} {B = B} a c b d e =
    let x : A × B = (a, b) in
    let y : A × B = (c, d) in
    let p : x ≡ y = some_is x y e in
    (ap (λ z. z.0) p, ap (λ z. z.1) p)

-- If a number is from 0 to `above`, then its value modulo `w` is at most `above`.
small : (negative : Bool) (magnitude above w : ℕ) → above < w → (if negative then nat_le magnitude 0 else nat_le magnitude above) ≡ true
    → (if negative then (w - magnitude) % w else magnitude % w) ≤ above
small true magnitude above w h e =
    let zero_is : magnitude ≤ 0 = leb-true magnitude 0 e in
    let whole : w - magnitude ≡ w = omega (arith, zero_is) in
    let same : (w - magnitude) % w ≡ 0 = ap (λ k. k % w) whole ∙ mod_self w in
    omega (arith, same)
small false magnitude above w h e = omega (arith, leb-true magnitude above e, mod-le magnitude w)

pub stored_small : (above w : ℕ) (n : Numeral) → above < w → within 0 above n ≡ true → stored w n ≤ above
stored_small above w n h e = small n.negative n.magnitude above w h e

-- The value of a number modulo `w` is below `w`.
below : (negative : Bool) (magnitude w : ℕ) → 0 < w → (if negative then (w - magnitude) % w else magnitude % w) < w
below true magnitude w h = mod-lt (w - magnitude) h
below false magnitude w h = mod-lt magnitude h

pub numeral_small : (above w : ℕ) (text : List ℕ) (v : ℕ) → above < w → numeral_operand 0 above w text ≡ Some (v, true) → v ≤ above
numeral_small above w text v h e =
    let b : Bound (number text) (λ n. Some (stored w n, within 0 above n)) (v, true) =
    bound (number text) (λ n. Some (stored w n, within 0 above n)) (v, true) e in
    let n : Numeral = b.value in
    let parts = pair_is (stored w n) v (within 0 above n) true b.next in
    subst (λ k. k ≤ above) parts.0 (small n.negative n.magnitude above w h parts.1)

pub numeral_below : (least above w : ℕ) (text : List ℕ) (v : ℕ) (in_range : Bool) → 0 < w → numeral_operand least above w text ≡ Some (v, in_range) → v < w
numeral_below least above w text v in_range h e =
    let b : Bound (number text) (λ n. Some (stored w n, within least above n)) (v, in_range) =
    bound (number text) (λ n. Some (stored w n, within least above n)) (v, in_range) e in
    let n : Numeral = b.value in
    let parts = pair_is (stored w n) v (within least above n) in_range b.next in
    subst (λ k. k < w) parts.0 (below n.negative n.magnitude w h)

size_within : (negative : Bool) (magnitude above : ℕ) → (if negative then nat_le magnitude 0 else nat_le magnitude above) ≡ true → magnitude ≤ above
size_within true magnitude above e = omega (arith, leb-true magnitude 0 e)
size_within false magnitude above e = leb-true magnitude above e

pub slot_small : (text : List ℕ) (v : ℕ) → slot_operand text ≡ Some (v, true) → v ≤ 15
slot_small text v e =
    let b : Bound (number text) (λ n. Some (segment_number n, within 0 15 n)) (v, true) =
    bound (number text) (λ n. Some (segment_number n, within 0 15 n)) (v, true) e in
    let n : Numeral = b.value in
    let parts = pair_is (segment_number n) v (within 0 15 n) true b.next in
    let same : segment_number n ≡ n.magnitude = ap (λ c. if c then n.magnitude else 16) parts.1 in
    subst (λ k. k ≤ 15) (sym same ∙ parts.0) (size_within n.negative n.magnitude 15 parts.1)
