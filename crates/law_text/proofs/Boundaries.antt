-- Lemmas: each forced offset, and each offset to which a written jump refers, is a boundary of the written items. A
-- *boundary* is an offset at which an item begins, or the end. A *forced offset* is an offset at which an item must
-- begin.
use Rattle.std.proofs.Common.{◌≡◌, ◌<◌, ◌≤◌, ℕ, zero, suc, ◌+◌, ◌-◌, Bool, true, false, cond, ltb, eqb, List, [], ◌∷◌}
use Rattle.std.proofs.Common.{◌++◌, length, map, take, refl, sym, ◌∙◌, subst, arith, inl, inr, IfSome, Option, Some, None}
use Rattle.std.specs.Prelude.{◌&&◌, ◌||◌, nat_lt}
use Rattle.std.specs.List.{list_any, list_all, AllByRecursion}
use Rattle.std.proofs.lemmas.Bool.{lt-ltb, eq-eqb, eqb-true, and_parts, cases_lt, true≢false}
use Rattle.std.proofs.lemmas.Grind.{common_steps}
use Rattle.pm_code.specs.Item.{Item, size, IsByte}
use Rattle.pm_code.specs.Item.Item.{OneByte}
use Rattle.pm_code.specs.Program.{boundaries, end_of, is_among, IsIn, NamesWithin, item_places}
use Rattle.pm_disasm.specs.Split.{Front, front, uncut, taken, Part, part_of, bytes_after_first, parts}
use Rattle.pm_disasm.specs.Split.{is_allowed_item, leads, written_as, written, ends_of, items_in}
use Rattle.pm_code.proofs.ItemBytes.{all-append, either}
use Rattle.pm_disasm.proofs.Fronts.{Fronts, fronts}
use Rattle.pm_disasm.proofs.Joined.{still, Joins, part_joins}

-- No forced offset is inside the instruction that is read at `at`.
abbrev Whole : List ℕ → ℕ → Front → Type 0
Whole forced at f = (place : ℕ) → IsIn forced place → at < place → at + f.size ≤ place

none_of : (forced : List ℕ) (at n place : ℕ) → list_any (λ p. nat_lt at p && nat_lt p (at + n)) forced ≡ false → IsIn forced place → at < place → at + n ≤ place
none_of [] at n place e h l = absurd (true≢false (sym h))
none_of (f ∷ forced) at n place e h l =
    pick (λ t k. none_of forced at n place t k l) (eqb f place) refl
    (first (nat_lt at f && nat_lt f (at + n)) (list_any (λ p. nat_lt at p && nat_lt p (at + n)) forced) e)
  where
    first : (a b : Bool) → (a || b) ≡ false → (a ≡ false) × (b ≡ false)
    first true b e = absurd (true≢false e)
    first false b e = (refl, e)

    high : f ≡ place → (nat_lt at f && nat_lt f (at + n)) ≡ false → at + n ≤ place
    high e t = elim (cases_lt f (at + n)) [
      | inl low ↦ absurd (let s : ltb at f ≡ true = lt-ltb _ _ (omega arith) in let u : ltb f (at + n) ≡ true = lt-ltb _ _ low in let k : true
          ≡ false = rw (s, u) at t in true≢false k)
      | inr more ↦ omega arith
    ]

    behind : (b : Bool) → b ≡ false → (b || is_among forced place) ≡ true → IsIn forced place
    behind true t k = absurd (true≢false t)
    behind false t k = k

    pick : (list_any (λ p. nat_lt at p && nat_lt p (at + n)) forced ≡ false → IsIn forced place → at + n ≤ place) → (b : Bool) → eqb f place ≡ b
        → ((nat_lt at f && nat_lt f (at + n)) ≡ false) × (list_any (λ p. nat_lt at p && nat_lt p (at + n)) forced ≡ false) → at + n ≤ place
    pick more true t p = high (eqb-true _ _ t) p.0
    pick more false t p = more p.1 (behind (eqb f place) t h)

whole : (forced : List ℕ) (at : ℕ) (o : Option Front) → IfSome (uncut forced at o) (Whole forced at)
whole forced at None = tt
whole forced at (Some f) = kept (list_any (λ place. nat_lt at place && nat_lt place (at + f.size)) forced) refl
  where
    kept : (b : Bool) → list_any (λ place. nat_lt at place && nat_lt place (at + f.size)) forced ≡ b → IfSome (cond b None (Some f)) (Whole forced at)
    kept true e = tt
    kept false e = λ place h l. none_of forced at f.size place e h l

pub or_right : (a b : Bool) → b ≡ true → (a || b) ≡ true
or_right true b e = refl
or_right false b e = e

-- If a forced offset is in the code or at its end, then a part begins at this offset, or the code ends there.
forced_ends : (forced : List ℕ) (skip at : ℕ) (bytes : List ℕ) (place end : ℕ) → AllByRecursion IsByte bytes → IsIn forced place → at + skip ≤ place
    → place ≤ end → end ≡ at + length bytes → IsIn (ends_of end (parts forced skip at bytes)) place
forced_ends forced skip at [] place end b h low high e = let t : eqb end place ≡ true = eq-eqb _ _ (omega arith) in rw t refl
forced_ends forced (suc skip) at (x ∷ bytes) place end b h low high e = forced_ends forced skip (at + 1) bytes place end b.1 h (omega arith) high (omega arith)
forced_ends forced zero at (x ∷ bytes) place end b h low high e =
    here (taken forced at (x ∷ bytes)) (whole forced at (front at (x ∷ bytes)))
    (still forced at (front at (x ∷ bytes)) (Fronts at (x ∷ bytes)) (fronts at (x ∷ bytes) b))
    (λ n l. forced_ends forced n (at + 1) bytes place end b.1 h l high (omega arith))
  where
    begins : (o : Option Front) → at ≡ place → IsIn (ends_of end (part_of at (x ∷ bytes) o ∷ parts forced (bytes_after_first o) (at + 1) bytes)) place
    begins None e = let t : eqb at place ≡ true = eq-eqb _ _ e in rw t refl
    begins (Some f) e = let t : eqb at place ≡ true = eq-eqb _ _ e in rw t refl

    here : (o : Option Front) → IfSome o (Whole forced at) → IfSome o (Fronts at (x ∷ bytes))
        → ((n : ℕ) → at + 1 + n ≤ place → IsIn (ends_of end (parts forced n (at + 1) bytes)) place)
        → IsIn (ends_of end (part_of at (x ∷ bytes) o ∷ parts forced (bytes_after_first o) (at + 1) bytes)) place
    here o w f next = elim (cases_lt at place) [
      | inl less ↦ behind o w f next less
      | inr more ↦ begins o (omega arith)
    ]
      where
        behind : (o : Option Front) → IfSome o (Whole forced at) → IfSome o (Fronts at (x ∷ bytes))
            → ((n : ℕ) → at + 1 + n ≤ place → IsIn (ends_of end (parts forced n (at + 1) bytes)) place) → at < place
            → IsIn (ends_of end (part_of at (x ∷ bytes) o ∷ parts forced (bytes_after_first o) (at + 1) bytes)) place
        behind None w f next l = or_right (eqb at place) (is_among (ends_of end (parts forced 0 (at + 1) bytes)) place) (next 0 (omega arith))
        behind (Some g) w f next l = or_right (eqb at place) (is_among (ends_of end (parts forced (g.size - 1) (at + 1) bytes)) place)
            (next (g.size - 1) (let m : at + g.size ≤ place = w place h l in omega (arith, m, f.some)))

starts_in : (n : ℕ) (items : List (Item ℕ)) → IsIn (boundaries n items) n
starts_in n [] = let t : eqb n n ≡ true = eq-eqb _ _ refl in rw t refl
starts_in n (item ∷ items) = let t : eqb n n ≡ true = eq-eqb _ _ refl in rw t refl

bounds_behind : (n m : ℕ) (xs ys : List (Item ℕ)) (place : ℕ) → m ≡ end_of n xs → IsIn (boundaries m ys) place → IsIn (boundaries n (xs ++ ys)) place
bounds_behind n m [] ys place e h = subst (λ k. IsIn (boundaries k ys) place) e h
bounds_behind n m (x ∷ xs) ys place e h =
    or_right (eqb n place) (is_among (boundaries (n + size n x) (xs ++ ys)) place) (bounds_behind (n + size n x) m xs ys place e h)

-- The beginnings of parts, and the end, are boundaries of the written items.
ends_written : (forced ends : List ℕ) (allowed : Bool) (skip at : ℕ) (bytes : List ℕ) (place end : ℕ) → AllByRecursion IsByte bytes → skip ≤ length bytes
    → end ≡ at + length bytes → IsIn (ends_of end (parts forced skip at bytes)) place
    → IsIn (boundaries (at + skip) (written ends allowed (parts forced skip at bytes))) place
ends_written forced ends allowed skip at [] place end b s e h = subst (λ n. IsIn (boundaries n []) place) (omega arith) h
ends_written forced ends allowed (suc skip) at (x ∷ bytes) place end b s e h =
    subst (λ n. IsIn (boundaries n (written ends allowed (parts forced skip (at + 1) bytes))) place) (omega arith)
    (ends_written forced ends allowed skip (at + 1) bytes place end b.1 (omega arith) (omega arith) h)
ends_written forced ends allowed zero at (x ∷ bytes) place end b s e h =
    subst (λ n. IsIn (boundaries n (written ends allowed (parts forced 0 at (x ∷ bytes)))) place) zero_more
    (here (taken forced at (x ∷ bytes)) (still forced at (front at (x ∷ bytes)) (Fronts at (x ∷ bytes)) (fronts at (x ∷ bytes) b)) h
    (λ n l k. ends_written forced ends allowed n (at + 1) bytes place end b.1 l (omega arith) k))
  where
    zero_more : at ≡ at + 0
    zero_more = omega arith

    joined : (o : Option Front) → IfSome o (Fronts at (x ∷ bytes))
        → (bytes_after_first o ≤ length bytes) × (end_of at (written_as ends allowed (part_of at (x ∷ bytes) o).bytes (part_of at (x ∷ bytes) o).item)
        ≡ at + 1 + bytes_after_first o)
    joined None f = (omega arith, omega arith)
    joined (Some g) f =
        let long : g.size ≡ length (take g.size (x ∷ bytes)) = grind (arith, common_steps, f.within) in
        let one : Joins at (take g.size (x ∷ bytes)) (written_as ends allowed (take g.size (x ∷ bytes)) g.item) =
        part_joins ends allowed at (x ∷ bytes) g.size g.item b long f.item in
        (omega (arith, f.some, f.within), omega (arith, one.ends, long, f.some))

    front_at : (o : Option Front) → (part_of at (x ∷ bytes) o).at ≡ at
    front_at None = refl
    front_at (Some g) = refl

    here : (o : Option Front) → IfSome o (Fronts at (x ∷ bytes)) → IsIn
        (ends_of end (part_of at (x ∷ bytes) o ∷ parts forced (bytes_after_first o) (at + 1) bytes)) place
        → ((n : ℕ) → n ≤ length bytes → IsIn (ends_of end (parts forced n (at + 1) bytes)) place
        → IsIn (boundaries (at + 1 + n) (written ends allowed (parts forced n (at + 1) bytes))) place)
        → IsIn (boundaries at (written ends allowed (part_of at (x ∷ bytes) o ∷ parts forced (bytes_after_first o) (at + 1) bytes))) place
    here o f h next =
        let j = joined o f in
        let w : List (Item ℕ) = written_as ends allowed (part_of at (x ∷ bytes) o).bytes (part_of at (x ∷ bytes) o).item in
        let more : List (Item ℕ) = written ends allowed (parts forced (bytes_after_first o) (at + 1) bytes) in
        elim (either (eqb (part_of at (x ∷ bytes) o).at place) (is_among (ends_of end (parts forced (bytes_after_first o) (at + 1) bytes)) place) h) [
          | inl e ↦ (let same : at ≡ place = sym (front_at o) ∙ eqb-true _ _ e in subst (λ n. IsIn (boundaries at (w ++ more)) n) same
              (starts_in at (w ++ more)))
          | inr e ↦ bounds_behind at (at + 1 + bytes_after_first o) w more place (sym j.1) (next (bytes_after_first o) j.0 e)
        ]

-- Each forced offset within the code is a boundary of the written items.
pub forced_written : (forced : List ℕ) (allowed : Bool) (at : ℕ) (code : List ℕ) (place : ℕ) → AllByRecursion IsByte code → IsIn forced place → at ≤ place
    → place ≤ at + length code → IsIn (boundaries at (items_in forced allowed at code)) place
forced_written forced allowed at code place b h low high =
    let ends : List ℕ = ends_of (at + length code) (parts forced 0 at code) in
    let e : IsIn ends place = forced_ends forced 0 at code place (at + length code) b h (omega arith) high refl in
    subst (λ n. IsIn (boundaries n (written ends allowed (parts forced 0 at code))) place) (omega arith)
    (ends_written forced ends allowed 0 at code place (at + length code) b (omega arith) refl e)

-- If every number of `ps` passes the test, each of them is in `xs`.
all_passed : (xs ps : List ℕ) → list_all (is_among xs) ps ≡ true → AllByRecursion (IsIn xs) ps
all_passed xs [] h = tt
all_passed xs (p ∷ ps) h = let both = and_parts (is_among xs p) (list_all (is_among xs) ps) h in (both.0, all_passed xs ps both.1)

leads_named : (ends : List ℕ) (allowed : Bool) (item : Item ℕ) → leads ends allowed item ≡ true → NamesWithin ends item
leads_named ends allowed item h =
    all_passed ends (item_places item) (and_parts (is_allowed_item allowed item) (list_all (is_among ends) (item_places item)) h).1

bytes_named : (ends bs : List ℕ) → AllByRecursion (NamesWithin ends) (map OneByte bs)
bytes_named ends [] = tt
bytes_named ends (b ∷ bs) = (tt, bytes_named ends bs)

part_named : (ends : List ℕ) (allowed : Bool) (bytes : List ℕ) (item : Option (Item ℕ)) → AllByRecursion (NamesWithin ends) (written_as ends allowed bytes item)
part_named ends allowed bytes None = bytes_named ends bytes
part_named ends allowed bytes (Some item) = chosen (leads ends allowed item) refl
  where
    chosen : (b : Bool) → leads ends allowed item ≡ b → AllByRecursion (NamesWithin ends) (cond b (item ∷ []) (map OneByte bytes))
    chosen true e = (leads_named ends allowed item e, tt)
    chosen false e = bytes_named ends bytes

all_named : (ends : List ℕ) (allowed : Bool) (ps : List Part) → AllByRecursion (NamesWithin ends) (written ends allowed ps)
all_named ends allowed [] = tt
all_named ends allowed (p ∷ ps) =
    all-append (NamesWithin ends) (written_as ends allowed p.bytes p.item) (written ends allowed ps) (part_named ends allowed p.bytes p.item)
    (all_named ends allowed ps)

pub all-map : {A : Type 0} (P Q : A → Type 0) (xs : List A) → ((x : A) → P x → Q x) → AllByRecursion P xs → AllByRecursion Q xs
all-map P Q [] f h = tt
all-map P Q (x ∷ xs) f h = (f x h.0, all-map P Q xs f h.1)

-- If items refer only to offsets in `xs`, and `xs` is contained in `ys`, then they refer only to offsets in `ys`.
pub named_then : (xs ys : List ℕ) (items : List (Item ℕ)) → ((place : ℕ) → IsIn xs place → IsIn ys place) → AllByRecursion (NamesWithin xs) items
    → AllByRecursion (NamesWithin ys) items
named_then xs ys items f h = all-map (NamesWithin xs) (NamesWithin ys) items (λ item k. all-map (IsIn xs) (IsIn ys) (item_places item) f k) h

-- Each offset to which a written jump refers is a boundary of the written items.
pub jumps_written : (forced : List ℕ) (allowed : Bool) (at : ℕ) (code : List ℕ) → AllByRecursion IsByte code
    → AllByRecursion (NamesWithin (boundaries at (items_in forced allowed at code))) (items_in forced allowed at code)
jumps_written forced allowed at code b =
    let ends : List ℕ = ends_of (at + length code) (parts forced 0 at code) in
    let items : List (Item ℕ) = written ends allowed (parts forced 0 at code) in
    named_then ends (boundaries at items) items
    (λ place h. subst (λ n. IsIn (boundaries n items) place) (omega arith)
    (ends_written forced ends allowed 0 at code place (at + length code) b (omega arith) refl h))
    (all_named ends allowed (parts forced 0 at code))
