-- What a line contains, by the places at which a search finds it.
use Rattle.std.proofs.Common.{◌≡◌, ◌+◌, ◌≤◌, ◌<◌, ℕ, zero, suc, inl, inr, ◌||◌, Bool, true, false, List, [], ◌∷◌}
use Rattle.std.proofs.Common.{length, take, drop, Option, None, Some, refl, sym, ap, arith, length-take, length-drop}
use Rattle.std.proofs.lemmas.Bool.{or_left, or_right, cases_Bool}
use Rattle.std.proofs.lemmas.Slice.Eq.{bytes_eq-Decides}
use Rattle.std.specs.Option.{is_some}
use Rattle.memchr.specs.Find.{FindsNeedle, OccursAt}
use Rattle.memchr.proofs.lemmas.MatchLemmas.{OccursAt-from_part, OccursAt-part}
use Rattle.pm_search.specs.Texts.{begins_with, contains}

-- If the bytes after the first `k` begin with the needle, then the line contains the needle.
pub begins_contains : (needle line : List ℕ) (k : ℕ) → begins_with needle (drop k line) ≡ true → contains needle line ≡ true
unfolding contains
begins_contains needle [] zero begins = begins
begins_contains needle [] (suc k) begins = begins
begins_contains needle (byte ∷ rest) zero begins = or_left (begins_with needle (byte ∷ rest)) (contains needle rest) begins
begins_contains needle (byte ∷ rest) (suc k) begins =
    or_right (begins_with needle (byte ∷ rest)) (contains needle rest) (begins_contains needle rest k begins)

-- A place in a line after which the needle begins.
pub record Place (needle line : List ℕ) : Type 0 where
  pub place : ℕ
  pub within : place ≤ length line
  pub begins : begins_with needle (drop place line) ≡ true

one_later : (needle : List ℕ) (byte : ℕ) (rest : List ℕ) → Place needle rest → Place needle (byte ∷ rest)
one_later needle byte rest p =
    let low = p.within in
    record { place = suc p.place; within = omega arith; begins = p.begins }

either : (needle : List ℕ) (byte : ℕ) (rest : List ℕ) (b : Bool) → begins_with needle (byte ∷ rest) ≡ b
    → (b || contains needle rest) ≡ true → (contains needle rest ≡ true → Place needle rest) → Place needle (byte ∷ rest)
either needle byte rest true begins is more = record { place = 0; within = omega arith; begins = begins }
either needle byte rest false begins is more = one_later needle byte rest (more is)

-- If a line contains the needle, then the needle begins after some place.
pub place_of : (needle line : List ℕ) → contains needle line ≡ true → Place needle line
unfolding contains
place_of needle [] is = record { place = 0; within = omega arith; begins = is }
place_of needle (byte ∷ rest) is =
    either needle byte rest (begins_with needle (byte ∷ rest)) refl is (λ later. place_of needle rest later)

-- If the needle occurs at a place, then the line contains it.
pub occurs_contains : (needle line : List ℕ) (k : ℕ) → OccursAt line needle k → contains needle line ≡ true
occurs_contains needle line k occurs =
    begins_contains needle line k ((bytes_eq-Decides _ needle).1 (OccursAt-part line needle k occurs))

-- If the line contains the needle, then the needle occurs at some place.
pub contains_occurs : (needle line : List ℕ) → contains needle line ≡ true → (k : ℕ) × (k < length line + 1) × OccursAt line needle k
contains_occurs needle line is =
    let p = place_of needle line is in
    let same : take (length needle) (drop p.place line) ≡ needle = (bytes_eq-Decides (take (length needle) (drop p.place line)) needle).0 p.begins in
    let low = p.within in
    let size : length (take (length needle) (drop p.place line)) ≡ length needle = ap length same in
    let cut = length-take (length needle) (drop p.place line) in
    let rest = length-drop p.place line in
    let fits : p.place + length needle ≤ length line = omega (arith, size, cut, rest, low) in
    let below : p.place < length line + 1 = omega (arith, low) in
    (p.place, below, OccursAt-from_part line needle p.place fits same)

-- A search that finds a place returns one if and only if the line contains the bytes.
pub found : (needle line : List ℕ) (place : Option ℕ) → FindsNeedle line needle 0 place → is_some place ≡ contains needle line
found needle line (Some k) finds = sym (occurs_contains needle line k finds.1)
found needle line None finds = elim (cases_Bool (contains needle line)) [
  | inl is ↦ absurd (let p = contains_occurs needle line is in finds p.0 (omega arith) p.1 p.2)
  | inr not ↦ sym not
]
