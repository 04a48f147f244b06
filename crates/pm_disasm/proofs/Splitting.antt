-- Lemmas about code that is divided into parts.
use Rattle.std.proofs.Common.{◌≡◌, ◌<◌, ◌≤◌, ℕ, zero, suc, ◌+◌, ◌-◌, Bool, true, false, List, [], ◌∷◌, length, drop, get_or, refl}
use Rattle.std.proofs.Common.{sym, ap, ◌∙◌, arith, drop-cons, drop-drop, take, subst, length-take-le, IfSome, Option, Some, None}
use Rattle.std.specs.List.{AllByRecursion}
use Rattle.std.specs.Prelude.{◌||◌, ◌==◌}
use Rattle.pm_code.specs.Item.{Item, IsByte, size}
use Rattle.pm_disasm.specs.Follow.{Follow}
use Rattle.pm_disasm.proofs.Fronts.{Fronts, Spells, fronts}
use Rattle.pm_disasm.proofs.Joined.{still}
use Rattle.pm_code.specs.Program.{is_among}
use Rattle.pm_disasm.specs.Split.{Front, Part, bytes_after_first, ends_of, front, part_of, parts, taken}

-- The parts without the first `skip` bytes are the parts of the bytes after them.
pub parts_behind : (forced : List ℕ) (skip at : ℕ) (bytes : List ℕ) → parts forced skip at bytes ≡ parts forced 0 (at + skip) (drop skip bytes)
parts_behind forced zero at bytes = ap (λ n. parts forced 0 n bytes) (let e : at ≡ at + 0 = omega arith in e)
parts_behind forced (suc skip) at [] = refl
parts_behind forced (suc skip) at (b ∷ bytes) =
    parts_behind forced skip (at + 1) bytes ∙ ap (λ n. parts forced 0 n (drop skip bytes)) (let e : at + 1 + skip ≡ at + suc skip = omega arith in e)

-- The parts from offset `at` on are the part at `at`, followed by the parts after it.
pub next_part : (forced bytes : List ℕ) (at n : ℕ) (p : Part) → at < length bytes → p ≡ part_of at (drop at bytes) (taken forced at (drop at bytes))
    → bytes_after_first (taken forced at (drop at bytes)) + 1 ≡ n
    → parts forced 0 at (drop at bytes) ≡ p ∷ parts forced 0 (at + n) (drop (at + n) bytes)
next_part forced bytes at n p inside same size =
    let front : drop at bytes ≡ get_or bytes at 0 ∷ drop (suc at) bytes = drop-cons bytes at 0 inside in
    let skip : ℕ = bytes_after_first (taken forced at (drop at bytes)) in
    let next : suc at ≡ at + 1 = omega arith in
    let place : at + 1 + skip ≡ at + n = omega (arith, size) in
    let rest : drop skip (drop (suc at) bytes) ≡ drop (at + n) bytes =
    drop-drop skip (suc at) bytes ∙ ap (λ k. drop k bytes) (let e : suc at + skip ≡ at + n = omega (arith, size) in e) in
    ap (parts forced 0 at) front
    ∙ ap (λ bs. part_of at bs (taken forced at bs) ∷ parts forced (bytes_after_first (taken forced at bs)) (at + 1) (drop (suc at) bytes)) (sym front)
    ∙ ap (λ q. q ∷ parts forced skip (at + 1) (drop (suc at) bytes)) (sym same)
    ∙ ap (λ ps. p ∷ ps) (parts_behind forced skip (at + 1) (drop (suc at) bytes) ∙ ap (λ bs. parts forced 0 (at + 1 + skip) bs) rest
    ∙ ap (λ k. parts forced 0 k (drop (at + n) bytes)) place)

place_of_part : (at : ℕ) (bytes : List ℕ) (o : Option Front) → (part_of at bytes o).at ≡ at
place_of_part at bytes None = refl
place_of_part at bytes (Some f) = refl

shuffle : (a b c : Bool) → ((a || b) || c) ≡ (b || (a || c))
shuffle true true c = refl
shuffle true false c = refl
shuffle false b c = refl

-- If the offset of the part at `at` is added to the set, then the set with the offsets of the remaining parts is
-- unchanged.
pub next_places : (forced bytes : List ℕ) (at n end place : ℕ) (p : Part) (before : Bool) → p ≡ part_of at (drop at bytes) (taken forced at (drop at bytes))
    → parts forced 0 at (drop at bytes) ≡ p ∷ parts forced 0 (at + n) (drop (at + n) bytes)
    → (((at == place) || before) || is_among (ends_of end (parts forced 0 (at + n) (drop (at + n) bytes))) place)
    ≡ (before || is_among (ends_of end (parts forced 0 at (drop at bytes))) place)
next_places forced bytes at n end place p before same next =
    let rest : List Part = parts forced 0 (at + n) (drop (at + n) bytes) in
    let here : p.at ≡ at = ap (λ (q : Part). q.at) same ∙ place_of_part at (drop at bytes) (taken forced at (drop at bytes)) in
    shuffle (at == place) before (is_among (ends_of end rest) place)
    ∙ ap (λ k. before || ((k == place) || is_among (ends_of end rest) place)) (sym here)
    ∙ ap (λ ps. before || is_among (ends_of end ps) place) (sym next)

-- The parts of `bytes` are adjacent, and each item has the size of the bytes of its part.
pub parts_follow : (forced : List ℕ) (skip at : ℕ) (bytes : List ℕ) → AllByRecursion IsByte bytes → skip ≤ length bytes
    → Follow (at + skip) (at + length bytes) (parts forced skip at bytes)
parts_follow forced zero at [] h s = refl
parts_follow forced (suc skip) at [] h s = absurd (omega arith)
parts_follow forced (suc skip) at (b ∷ bytes) h s =
    let from : at + 1 + skip ≡ at + suc skip = omega arith in
    let to : at + 1 + length bytes ≡ at + suc (length bytes) = omega arith in
    subst (λ n. Follow n (at + suc (length bytes)) (parts forced skip (at + 1) bytes)) from
    (subst (λ n. Follow (at + 1 + skip) n (parts forced skip (at + 1) bytes)) to (parts_follow forced skip (at + 1) bytes h.1 (omega arith)))
parts_follow forced zero at (b ∷ bytes) h s =
    here (taken forced at (b ∷ bytes)) (still forced at (front at (b ∷ bytes)) (Fronts at (b ∷ bytes)) (fronts at (b ∷ bytes) h))
    (λ n l. subst (λ k. Follow (at + 1 + n) k (parts forced n (at + 1) bytes)) (let to : at + 1 + length bytes ≡ at + suc (length bytes) = omega arith in to)
    (parts_follow forced n (at + 1) bytes h.1 l))
  where
    here : (o : Option Front) → IfSome o (Fronts at (b ∷ bytes)) →
        ((n : ℕ) → n ≤ length bytes → Follow (at + 1 + n) (at + suc (length bytes)) (parts forced n (at + 1) bytes))
        → Follow (at + 0) (at + suc (length bytes)) (part_of at (b ∷ bytes) o ∷ parts forced (bytes_after_first o) (at + 1) bytes)
    here None f next = (
      let e : at ≡ at + 0 = omega arith in e,
      (
        let w : at + 0 + 1 ≤ at + suc (length bytes) = omega arith in w,
        (
          tt,
          let e : at + 1 + 0 ≡ at + 0 + 1 = omega arith in subst (λ k. Follow k (at + suc (length bytes)) (parts forced 0 (at + 1) bytes)) e
              (next 0 (omega arith)),
        ),
      ),
    )
    here (Some f) g next =
        let long : length (take f.size (b ∷ bytes)) ≡ f.size = length-take-le f.size (b ∷ bytes) g.within in (
          let e : at ≡ at + 0 = omega arith in e,
          (
            let w : at + 0 + length (take f.size (b ∷ bytes)) ≤ at + suc (length bytes) = omega (arith, long, g.within) in w,
            (
              item f.item long g.item,
              let e : at + 1 + (f.size - 1) ≡ at + 0 + length (take f.size (b ∷ bytes)) = omega (arith, long, g.some) in
                  subst (λ k. Follow k (at + suc (length bytes)) (parts forced (f.size - 1) (at + 1) bytes)) e
                  (next (f.size - 1) (omega (arith, g.within, g.some))),
            ),
          ),
        )
      where
        item : (o : Option (Item ℕ)) → length (take f.size (b ∷ bytes)) ≡ f.size → IfSome o (Spells at (b ∷ bytes) f.size)
            → IfSome o (λ i. size (at + 0) i ≡ length (take f.size (b ∷ bytes)))
        item None l s = tt
        item (Some i) l s = ap (λ n. size n i) (let e : at + 0 ≡ at = omega arith in e) ∙ s.sized ∙ sym l
