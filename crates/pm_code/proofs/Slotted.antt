-- Lemmas about the segments of a program by their slots.
use Rattle.std.proofs.Common.{◌≡◌, ◌≤◌, ℕ, ◌+◌, true, List, [], ◌∷◌, ◌++◌, length, map, refl, sym, ap}
use Rattle.std.proofs.Common.{subst, ◌∙◌, arith, append_assoc, length-append, append-nil, Option, Some, inl, inr}
use Rattle.std.specs.Prelude.{zero, suc, ◌==◌, nat_le, sum}
use Rattle.std.specs.List.{AllByRecursion}
use Rattle.std.proofs.lemmas.List.Sums.{sum_by-cons}
use Rattle.std.proofs.lemmas.Bool.Decides.{nat_tests}
use Rattle.std.proofs.lemmas.Bool.{cases_Bool, leb-true}
use Rattle.std.proofs.lemmas.List.{map-append}
use Rattle.pm_code.specs.Program.{segment_numbered}
use Rattle.pm_code.specs.Program as program
use Rattle.pm_code.specs.Image.{bytes_of_segment, joined_bytes, slots_of}

-- If all segments `ts` have the property `P`, then the segment with the number `n` has it.
pub numbered_all : (P : program.Segment → Type 0) (n : ℕ) (ts : List program.Segment) (t : program.Segment) → segment_numbered n ts ≡ Some t
    → AllByRecursion P ts → P t
numbered_all P n [] t e h = absurd (cc)
numbered_all P n (u ∷ us) t e h = elim (cases_Bool (u.number == n)) [
  | inl s ↦ (let f = rw s at e in let same : u ≡ t = cc in subst P same h.0)
  | inr s ↦ (let f = rw s at e in numbered_all P n us t f h.1)
]

-- The first `n + 1` slots from slot `k` are the first `n` slots and slot `k + n`.
pub slots_more : (k n : ℕ) (ts : List program.Segment) → slots_of k (n + 1) ts ≡ slots_of k n ts ++ segment_numbered (k + n) ts ∷ []
slots_more k n ts = let one : n + 1 ≡ suc n = omega arith in ap (λ m. slots_of k m ts) one ∙ go k n
  where
    go : (k n : ℕ) → slots_of k (suc n) ts ≡ slots_of k n ts ++ segment_numbered (k + n) ts ∷ []
    go k zero = let same : k ≡ k + 0 = omega arith in ap (λ m. segment_numbered m ts ∷ []) same
    go k (suc n) = let same : (k + 1) + n ≡ k + suc n = omega arith in ap (λ os. segment_numbered k ts ∷ os)
        (go (k + 1) n ∙ ap (λ m. slots_of (k + 1) n ts ++ segment_numbered m ts ∷ []) same)

joined-append : (xs ys : List (Option program.Segment)) → joined_bytes (xs ++ ys) ≡ joined_bytes xs ++ joined_bytes ys
joined-append [] ys = refl
joined-append (x ∷ xs) ys =
    ap (λ bs. bytes_of_segment x ++ bs) (joined-append xs ys) ∙ sym (append_assoc (bytes_of_segment x) (joined_bytes xs) (joined_bytes ys))

pub joined_more : (n : ℕ) (ts : List program.Segment) → joined_bytes (slots_of 0 (n + 1) ts)
    ≡ joined_bytes (slots_of 0 n ts) ++ bytes_of_segment (segment_numbered n ts)
joined_more n ts =
    let same : 0 + n ≡ n = omega arith in
    ap joined_bytes (slots_more 0 n ts ∙ ap (λ m. slots_of 0 n ts ++ segment_numbered m ts ∷ []) same)
    ∙ joined-append (slots_of 0 n ts) (segment_numbered n ts ∷ [])
    ∙ ap (λ bs. joined_bytes (slots_of 0 n ts) ++ bs) (append-nil (bytes_of_segment (segment_numbered n ts)))

pub mapped_more : {B : Type 0} (f : Option program.Segment → B) (n : ℕ) (ts : List program.Segment)
    → map f (slots_of 0 (n + 1) ts) ≡ map f (slots_of 0 n ts) ++ f (segment_numbered n ts) ∷ []
mapped_more f n ts =
    let same : 0 + n ≡ n = omega arith in
    ap (map f) (slots_more 0 n ts ∙ ap (λ m. slots_of 0 n ts ++ segment_numbered m ts ∷ []) same)
    ∙ map-append f (slots_of 0 n ts) (segment_numbered n ts ∷ [])

-- The sum of the lengths of the slots is the length of their joined bytes.
pub lengths_joined : (os : List (Option program.Segment)) → sum (map (λ o. length (bytes_of_segment o)) os) ≡ length (joined_bytes os)
lengths_joined [] = refl
lengths_joined (o ∷ os) =
    omega (
      arith,
      sum_by-cons (λ n. n) (length (bytes_of_segment o)) (map (λ o. length (bytes_of_segment o)) os),
      lengths_joined os,
      length-append (bytes_of_segment o) (joined_bytes os),
    )

pub name_short : (name : List ℕ) → program.is_segment_name name ≡ true → length name ≤ 8
name_short name h = elim (cases_Bool (nat_le (length name) 8)) [
  | inl e ↦ leb-true _ _ e
  | inr e ↦ (let f = rw e at h in absurd (grind (arith, nat_tests)))
]
