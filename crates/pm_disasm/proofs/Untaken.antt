-- If no instruction of a segment uses a number of entries, then this number fits no procedure of the segment.
use Rattle.std.proofs.Common.{◌≡◌, ◌<◌, ◌≤◌, ℕ, zero, suc, ◌+◌, ◌-◌, ◌*◌, Bool, true, false, max, List, [], ◌∷◌, ◌++◌, length, map, take, drop, get_or}
use Rattle.std.proofs.Common.{refl, sym, ap, ◌∙◌, subst, arith, drop-drop, length-drop, length-take-le, inl, inr, Option, Some, None, option_map}
use Rattle.std.specs.Prelude.{◌&&◌, ◌==◌, nat_le, nat_lt}
use Rattle.std.specs.List.{AllByRecursion, list_any}
use Rattle.std.proofs.Math.ListN.{get_or-map}
use Rattle.std.proofs.lemmas.Bool.{and_parts, cases_Bool, cases_lt, eqb-true, leb-true, true≢false}
use Rattle.std.proofs.lemmas.List.{drop-take, length-map}
use Rattle.pm_codefile.specs.declared.table.Attributes.{Attributes}
use Rattle.pm_disasm.specs.declared.decoded.Decoded.{Decoded}
use Rattle.pm_code.specs.Item.{IsByte, Item}
use Rattle.pm_code.specs.Item.Item.{OneByte}
use Rattle.pm_disasm.specs.Chosen.{IsTable}
use Rattle.pm_disasm.specs.Offsets.{IsDecoded, front_count, item_count, up_to}
use Rattle.pm_code.specs.Program.{entries_needed, entries_used}
use Rattle.pm_disasm.specs.Split.{Front, Part, are_after, bytes_after_first, code_with, end_with, ends_of, entry_places}
use Rattle.pm_disasm.specs.Split.{fits, front, leads, part_of, parts, procedure_with, taken, uncut, written, written_as}
use Rattle.pm_disasm.specs.Views.{front_seen, has}
use Rattle.pm_disasm.proofs.Fronts.{drop-bytes}
use Rattle.pm_disasm.proofs.Offsets.{front_cut, fronts_at, length-fronts_of}

-- Is true if `t` differs from `n`.
abbrev Not : ℕ → ℕ → Type 0
Not t n = n ≡ t → ⊥

-- ---- the items

bytes_need : (bs : List ℕ) (rest : List (Item ℕ)) → entries_needed (map OneByte bs ++ rest) ≡ entries_needed rest
bytes_need [] rest = refl
bytes_need (b ∷ bs) rest = omega (arith, bytes_need bs rest)

greater : (t x y : ℕ) → Not t x → Not t y → Not t (max x y)
greater t x y h k e = elim (cases_lt x y) [
  | inl l ↦ k (omega (arith, e, l))
  | inr l ↦ h (omega (arith, e, l))
]

part_not : (t : ℕ) (ends : List ℕ) (bytes : List ℕ) (o : Option (Item ℕ)) (rest : List (Item ℕ)) → Not t (item_count o) → Not t (entries_needed rest)
    → Not t (entries_needed (written_as ends true bytes o ++ rest))
part_not t ends bytes None rest h k e = k (sym (bytes_need bytes rest) ∙ e)
part_not t ends bytes (Some item) rest h k e = go (leads ends true item) refl
  where
    go : (b : Bool) → leads ends true item ≡ b → ⊥
    go true w = greater t (entries_used item) (entries_needed rest) h k (let f : entries_needed (item ∷ rest) ≡ t = rw w at e in f)
    go false w = k (sym (bytes_need bytes rest) ∙ (let f : entries_needed (map OneByte bytes ++ rest) ≡ t = rw w at e in f))

abbrev PartNot : ℕ → Part → Type 0
PartNot t p = Not t (item_count p.item)

written_not : (t : ℕ) (ends : List ℕ) (ps : List Part) → Not t 0 → AllByRecursion (PartNot t) ps → Not t (entries_needed (written ends true ps))
written_not t ends [] z h = z
written_not t ends (p ∷ ps) z h = part_not t ends p.bytes p.item (written ends true ps) h.0 (written_not t ends ps z h.1)

-- ---- the parts

-- Is true if no instruction at an offset of `bytes` uses exactly `t` entries.
abbrev Nowhere : ℕ → ℕ → List ℕ → Type 0
Nowhere t at bytes = (k : ℕ) → k < length bytes → Not t (front_count (front (at + k) (drop k bytes)))

later : (t at : ℕ) (b : ℕ) (bytes : List ℕ) → Nowhere t at (b ∷ bytes) → Nowhere t (at + 1) bytes
later t at b bytes h k l =
    subst (λ n. Not t (front_count (front n (drop k bytes)))) (let e : at + suc k ≡ at + 1 + k = omega arith in e) (h (suc k) (omega (arith, l)))

uncut_not : (t : ℕ) (forced : List ℕ) (at : ℕ) (o : Option Front) → Not t 0 → Not t (front_count o) → Not t (front_count (uncut forced at o))
uncut_not t forced at None z h = z
uncut_not t forced at (Some f) z h = elim (cases_Bool (list_any (λ place. nat_lt at place && nat_lt place (at + f.size)) forced)) [
  | inl e ↦ rw e z
  | inr e ↦ rw e h
]

part_counts : (t at : ℕ) (bytes : List ℕ) (o : Option Front) → Not t (front_count o) → PartNot t (part_of at bytes o)
part_counts t at bytes None h = h
part_counts t at bytes (Some f) h = h

parts_not : (t : ℕ) (forced : List ℕ) (skip at : ℕ) (bytes : List ℕ) → Not t 0 → Nowhere t at bytes → AllByRecursion (PartNot t) (parts forced skip at bytes)
parts_not t forced zero at [] z h = tt
parts_not t forced (suc skip) at [] z h = tt
parts_not t forced (suc skip) at (b ∷ bytes) z h = parts_not t forced skip (at + 1) bytes z (later t at b bytes h)
parts_not t forced zero at (b ∷ bytes) z h =
    let here : Not t (front_count (front at (b ∷ bytes))) = subst (λ n. Not t (front_count (front n (b ∷ bytes)))) (let e : at + 0 ≡ at = omega arith in e)
    (h 0 (omega arith)) in (
      part_counts t at (b ∷ bytes) (taken forced at (b ∷ bytes)) (uncut_not t forced at (front at (b ∷ bytes)) z here),
      parts_not t forced (bytes_after_first (taken forced at (b ∷ bytes))) (at + 1) bytes z (later t at b bytes h),
    )

-- ---- the segment

up_to_not : (t n : ℕ) (o : Option Front) → Not t 0 → Not t (front_count o) → Not t (front_count (up_to n o))
up_to_not t n None z h = z
up_to_not t n (Some f) z h = elim (cases_Bool (nat_le f.size n)) [ inl e ↦ rw e h | inr e ↦ rw e z ]

-- If no instruction of a segment uses `t` entries, then no instruction of the `m` bytes from `enter` on does.
code_not : (t enter m : ℕ) (segment : List ℕ) → AllByRecursion IsByte segment → Not t 0 → Nowhere t 0 segment → enter + m ≤ length segment
    → Nowhere t enter (take m (drop enter segment))
code_not t enter m segment b z h l k i =
    let long : length (take m (drop enter segment)) ≡ m = length-take-le m (drop enter segment) (omega (arith, length-drop enter segment, l)) in
    let all : m ≡ k + (m - k) = omega (arith, i, long) in
    let there : drop k (take m (drop enter segment)) ≡ take (m - k) (drop (enter + k) segment) =
    ap (λ n. drop k (take n (drop enter segment))) all ∙ drop-take k (m - k) (drop enter segment) ∙ ap (take (m - k)) (drop-drop k enter segment) in
    let same : front (enter + k) (drop k (take m (drop enter segment))) ≡ up_to (m - k) (front (enter + k) (drop (enter + k) segment)) =
    ap (front (enter + k)) there ∙ front_cut (enter + k) (m - k) (drop (enter + k) segment) (drop-bytes (enter + k) segment b) in
    let here : Not t (front_count (front (enter + k) (drop (enter + k) segment))) =
    subst (λ n. Not t (front_count (front n (drop (enter + k) segment)))) (let e : 0 + (enter + k) ≡ enter + k = omega arith in e)
    (h (enter + k) (omega (arith, i, long, l))) in
    λ e. up_to_not t (m - k) (front (enter + k) (drop (enter + k) segment)) z here (sym (ap front_count same) ∙ e)

decoded_not : (d : Decoded) (segment : List ℕ) (t : ℕ) → IsDecoded d segment → t ≤ 60 → has d.counts t ≡ false → Nowhere t 0 segment
decoded_not d segment t h few none k l e =
    let seen = option_map front_seen in
    let fs = d.fronts.items in
    let all : length fs ≡ length segment = sym (length-map fs seen) ∙ ap length h.fronts ∙ length-fronts_of 0 segment in
    let one : seen (get_or fs k None) ≡ front (0 + k) (drop k segment) =
    sym (get_or-map seen fs k None) ∙ ap (λ gs. get_or gs k None) h.fronts ∙ fronts_at 0 k segment l in
    let count : front_count (seen (get_or fs k None)) ≡ t = ap front_count one ∙ e in
    true≢false (sym (h.counts k (omega (arith, all, l)) (omega (arith, count, few))) ∙ ap (has d.counts) count ∙ none)

needed_of : (segment : List ℕ) (a : Attributes) (t : ℕ) → fits segment a t ≡ true
    → (t ≡ entries_needed (procedure_with segment a true t).items) × (a.enter ≤ end_with a t)
needed_of segment a t h =
    let p = procedure_with segment a true t in
    let one = and_parts (nat_le (a.enter + 8 + 2 * t) a.jtab) _ h in
    let two = and_parts (nat_le a.enter a.exit) _ one.1 in
    let three = and_parts (are_after segment a.enter a.jtab 0 t) _ two.1 in
    let four = and_parts _ (t == entries_needed p.items) three.1 in
    (eqb-true _ _ four.1, omega (arith, leb-true _ _ one.0))

-- If a number `t` from 0 to 60 is not in the set of a decoded segment, then `t` fits no procedure of the segment.
pub not_told : (d : Decoded) (segment : List ℕ) (a : Attributes) (t : ℕ) → IsDecoded d segment → AllByRecursion IsByte segment → IsTable segment a → t ≤ 60
    → has d.counts t ≡ false → false ≡ fits segment a t
not_told d segment a t h b w few none = go (fits segment a t) refl
  where
    zero_not : Not t 0
    zero_not e = true≢false (sym h.none ∙ ap (has d.counts) e ∙ none)

    go : (r : Bool) → fits segment a t ≡ r → false ≡ r
    go false e = refl
    go true e =
        let needed = needed_of segment a t e in
        let code : List ℕ = code_with segment a t in
        let ps : List Part = parts (a.exit ∷ entry_places segment a.jtab 0 t) 0 a.enter code in
        let nowhere : Nowhere t a.enter code = code_not t a.enter (end_with a t - a.enter) segment b zero_not (decoded_not d segment t h few none)
        (omega (arith, needed.1, w.within)) in
        absurd (written_not t (ends_of (a.enter + length code) ps) ps zero_not
        (parts_not t (a.exit ∷ entry_places segment a.jtab 0 t) 0 a.enter code zero_not nowhere) (sym needed.0))
