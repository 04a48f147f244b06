-- Lemmas about code that is decoded with a number of jump table entries.
use Rattle.std.proofs.Common.{◌≡◌, ◌<◌, ◌≤◌, ℕ, zero, suc, ◌+◌, ◌-◌, ◌*◌, Bool, true, false, List, [], ◌∷◌, ◌++◌, length, map}
use Rattle.std.proofs.Common.{take, drop, refl, sym, ap, ◌∙◌, arith, length-drop, length-take-le, subst, IfSome, Option, Some, None}
use Rattle.std.specs.Prelude.{◌&&◌, ◌==◌, nat_le, codes}
use Rattle.std.specs.List.{AllByRecursion, list_all}
use Rattle.std.proofs.lemmas.Bool.{and_from, and_parts, eq-eqb, eqb-true, leb-true, le-leb}
use Rattle.std.proofs.lemmas.List.{drop-take}
use Rattle.pm_codefile.specs.declared.table.Attributes.{Attributes}
use Rattle.pm_codefile.specs.Dictionary.{word_in}
use Rattle.pm_disasm.specs.declared.counts.Reading.{Reading}
use Rattle.pm_code.specs.Item.{Item, size}
use Rattle.pm_code.specs.Program.{entries_needed, is_among, item_places}
use Rattle.pm_code.specs.Shown.{code_lines, lines_at, put_if, shown_item, label_text}
use Rattle.pm_disasm.specs.Split.{Part, are_after, code_with, end_with, ends_of, entry_places, fits, is_allowed_item}
use Rattle.pm_disasm.specs.Split.{least_from, parts, procedure_of, procedure_with, with_count, written, written_as}
use Rattle.pm_disasm.specs.Follow.{Follow, code_lines_by, item_led, items_or_bytes, leading, lines_at_by, written_by}
use Rattle.pm_disasm.specs.Chosen.{IsReading, IsTable, are_inside, can_read, forced_with, parts_with}
use Rattle.pm_disasm.specs.Views.{IsSetOf, has, part_seen}

-- The bytes of the segment from `a.enter` to the end of the code are the code of the procedure `a`.
pub code_there : (segment : List ℕ) (a : Attributes) (t : ℕ) → a.enter ≤ end_with a t → drop a.enter (take (end_with a t) segment) ≡ code_with segment a t
code_there segment a t h =
    let size : end_with a t ≡ a.enter + (end_with a t - a.enter) = omega (arith, h) in
    ap (λ n. drop a.enter (take n segment)) size ∙ drop-take a.enter (end_with a t - a.enter) segment

-- If `are_inside` is true, then each target of the `count` entries from `k` on is inside the code.
pub entries_inside : (segment : List ℕ) (a : Attributes) (end jtab k count : ℕ) → are_inside segment a end jtab k count ≡ true
    → AllByRecursion (λ place. (a.enter ≤ place) × (place ≤ end)) (entry_places segment jtab k count)
entries_inside segment a end jtab k zero h = tt
entries_inside segment a end jtab k (suc count) h =
    let at : ℕ = jtab - 10 - 2 * k in
    let both = and_parts (are_after segment a.enter jtab k (suc count)) (list_all (λ place. nat_le place end) (entry_places segment jtab k (suc count))) h in
    let low = and_parts (nat_le (a.enter + word_in segment at) at) (are_after segment a.enter jtab (k + 1) count) both.0 in
    let high = and_parts (nat_le (at - word_in segment at) end) (list_all (λ place. nat_le place end) (entry_places segment jtab (k + 1) count)) both.1 in
    let below : a.enter + word_in segment at ≤ at = leb-true _ _ low.0 in
    let above : at - word_in segment at ≤ end = leb-true _ _ high.0 in
    ((omega (arith, below), above), entries_inside segment a end jtab (k + 1) count (and_from _ _ low.1 high.1))

same_all : (f g : ℕ → Bool) (xs : List ℕ) → ((x : ℕ) → f x ≡ g x) → list_all f xs ≡ list_all g xs
same_all f g [] e = refl
same_all f g (x ∷ xs) e = ap (λ b. b && list_all f xs) (e x) ∙ ap (λ b. g x && b) (same_all f g xs e)

same_part : (test : ℕ → Bool) (ends : List ℕ) (allowed : Bool) (bytes : List ℕ) (o : Option (Item ℕ)) → ((x : ℕ) → test x ≡ is_among ends x)
    → items_or_bytes bytes (item_led test allowed o) ≡ written_as ends allowed bytes o
same_part test ends allowed bytes None e = refl
same_part test ends allowed bytes (Some item) e = go (leading (is_among ends) allowed item) refl
  where
    same : leading test allowed item ≡ leading (is_among ends) allowed item
    same = ap (λ b. is_allowed_item allowed item && b) (same_all test (is_among ends) (item_places item) e)

    go : (b : Bool) → leading (is_among ends) allowed item ≡ b → items_or_bytes bytes (item_led test allowed (Some item))
        ≡ written_as ends allowed bytes (Some item)
    go true h = rw (same ∙ h, h) refl
    go false h = rw (same ∙ h, h) refl

-- If `test` holds exactly for the offsets `ends`, then both definitions of the items of `ps` are equal.
pub same_written : (test : ℕ → Bool) (ends : List ℕ) (allowed : Bool) (ps : List Part) → ((x : ℕ) → test x ≡ is_among ends x)
    → written_by test allowed ps ≡ written ends allowed ps
same_written test ends allowed [] e = refl
same_written test ends allowed (p ∷ ps) e =
    ap (λ xs. xs ++ written_by test allowed ps) (same_part test ends allowed p.bytes p.item e)
    ∙ ap (λ xs. written_as ends allowed p.bytes p.item ++ xs) (same_written test ends allowed ps e)

same_at : (test : ℕ → Bool) (used : List ℕ) (exit at : ℕ) (rest : List (List ℕ)) → ((x : ℕ) → test x ≡ is_among used x)
    → lines_at_by test exit at rest ≡ lines_at used exit at rest
same_at test used exit at rest e = ap (λ b. put_if b (label_text at ++ 58 ∷ []) (put_if (exit == at) (codes ".EXIT") rest)) (e at)

pub same_lines : (test : ℕ → Bool) (used : List ℕ) (exit at : ℕ) (items : List (Item ℕ)) → ((x : ℕ) → test x ≡ is_among used x)
    → code_lines_by test exit at items ≡ code_lines used exit at items
same_lines test used exit at [] e = same_at test used exit at [] e
same_lines test used exit at (item ∷ items) e =
    ap (λ ls. lines_at_by test exit at ((32 ∷ 32 ∷ shown_item item) ∷ ls)) (same_lines test used exit (at + size at item) items e)
    ∙ same_at test used exit at ((32 ∷ 32 ∷ shown_item item) ∷ code_lines used exit (at + size at item) items) e

-- If `r` is the code decoded with `t` entries, then its items are those of the procedure that is decoded with `t`
-- entries.
pub items_read : (segment : List ℕ) (a : Attributes) (t : ℕ) (r : Reading) (allowed : Bool) → IsTable segment a → IsReading segment a t r
    → written_by (has r.code.boundaries) allowed (map part_seen r.code.parts.items) ≡ (procedure_with segment a allowed t).items
items_read segment a t r allowed w h =
    let ps : List Part = parts_with segment a t in
    let long : a.enter + length (code_with segment a t) ≡ end_with a t =
    omega (arith, length-take-le (end_with a t - a.enter) (drop a.enter segment) (omega (arith, length-drop a.enter segment, w.within)), h.order, h.end) in
    ap (written_by (has r.code.boundaries) allowed) h.parts
    ∙ same_written (has r.code.boundaries) (ends_of (end_with a t) ps) allowed ps h.boundaries
    ∙ ap (λ n. written (ends_of n ps) allowed ps) (sym long)

order : (r x f l n : Bool) → (r && (true && (f && ((x && l) && n)))) ≡ ((r && (x && (f && l))) && n)
order true true true l n = refl
order true true false l n = refl
order true false true l n = refl
order true false false l n = refl
order false x f l n = refl

-- The number `t` fits if and only if the code can be decoded with `t` entries and its items use exactly `t` entries.
pub fits_if : (segment : List ℕ) (a : Attributes) (t : ℕ) → a.enter ≤ a.exit
    → fits segment a t ≡ (can_read segment a t && (t == entries_needed (procedure_with segment a true t).items))
fits_if segment a t h =
    let in_order : nat_le a.enter a.exit ≡ true = le-leb _ _ h in
    let end : ℕ = end_with a t in
    let n : Bool = t == entries_needed (procedure_with segment a true t).items in
    let after : Bool = are_after segment a.enter a.jtab 0 t in
    let before : Bool = list_all (λ place. nat_le place end) (entry_places segment a.jtab 0 t) in
    ap (λ b. nat_le (a.enter + 8 + 2 * t) a.jtab && (b && (after && ((nat_le a.exit end && before) && n)))) in_order
    ∙ order (nat_le (a.enter + 8 + 2 * t) a.jtab) (nat_le a.exit end) after before n

abbrev parts_from : List ℕ → ℕ → List ℕ → List Part
parts_from fs begin bs = parts fs 0 begin (drop begin bs)

-- States that `r` has the parts and the boundaries of the bytes `bs` from offset `begin` on.
pub record Pieces (fs bs : List ℕ) (r : Reading) (begin : ℕ) : Type 0 where
  pub parts : map part_seen r.code.parts.items ≡ parts fs 0 begin (drop begin bs)
  pub boundaries : IsSetOf r.code.boundaries (ends_of (length bs) (parts_from fs begin bs))
  pub follow : Follow begin (length bs) (map part_seen r.code.parts.items)
  pub from : r.code.boundaries.begin ≡ begin
  pub size : length r.code.boundaries.marks.items ≡ length bs - begin + 1

reading_from : (segment : List ℕ) (a : Attributes) (t : ℕ) (r : Reading) (fs bs : List ℕ) → IsTable segment a → length segment ≤ 65534
    → r.forced.items ≡ forced_with segment a t → r.end ≡ end_with a t → a.enter + 8 + 2 * t ≤ a.jtab → are_inside segment a (end_with a t) a.jtab 0 t ≡ true
    → fs ≡ r.forced.items → bs ≡ take r.end segment → Pieces fs bs r a.enter → IsReading segment a t r
reading_from segment a t r fs bs w short f e room within same_forced same_bytes ps =
    let order : a.enter ≤ r.end = omega (arith, e, room) in
    let long : length bs ≡ r.end = ap length same_bytes ∙ length-take-le r.end segment (omega (arith, e, w.within)) in
    let places : fs ≡ forced_with segment a t = same_forced ∙ f in
    let code : drop a.enter bs ≡ code_with segment a t = ap (drop a.enter) (same_bytes ∙ ap (λ n. take n segment) e)
    ∙ code_there segment a t (omega (arith, order, e)) in
    let whole : parts fs 0 a.enter (drop a.enter bs) ≡ parts_with segment a t =
    ap (λ xs. parts xs 0 a.enter (drop a.enter bs)) places ∙ ap (parts (forced_with segment a t) 0 a.enter) code in
    record {
      forced = f;
      end = e;
      room = room;
      order = order;
      short = omega (arith, e, w.within, short);
      parts = ps.parts ∙ whole;
      boundaries = λ place. ps.boundaries place ∙ ap (λ n. is_among (ends_of n (parts fs 0 a.enter (drop a.enter bs))) place) (long ∙ e)
          ∙ ap (λ qs. is_among (ends_of (end_with a t) qs) place) whole;
      begin = ps.from;
      size = ps.size ∙ ap (λ n. n - a.enter + 1) long;
      follow = subst (λ n. Follow a.enter n (map part_seen r.code.parts.items)) long ps.follow;
      inside = subst (λ n. AllByRecursion (λ place. (a.enter ≤ place) × (place ≤ n)) (entry_places segment a.jtab 0 t)) (sym e)
          (entries_inside segment a (end_with a t) a.jtab 0 t within);
    }

-- If `r` has the right forced offsets, end, parts and boundaries, then `r` is the code decoded with `t` entries.
pub is_reading : (segment : List ℕ) (a : Attributes) (t : ℕ) (r : Reading) (fs bs : List ℕ) (begin : ℕ) → begin ≡ a.enter → IsTable segment a
    → length segment ≤ 65534 → r.forced.items ≡ forced_with segment a t → r.end ≡ end_with a t → a.enter + 8 + 2 * t ≤ a.jtab
    → are_inside segment a (end_with a t) a.jtab 0 t ≡ true
    → fs ≡ r.forced.items → bs ≡ take r.end segment → Pieces fs bs r begin → IsReading segment a t r
is_reading segment a t r fs bs begin at w short f e room within same_forced same_bytes ps =
    reading_from segment a t r fs bs w short f e room within same_forced same_bytes (subst (Pieces fs bs r) at ps)

-- If no number below `k` fits and `k` fits, then the shown procedure is the one that is decoded with `k` entries.
pub count_fits : (segment : List ℕ) (a : Attributes) (k : ℕ) → k < 61 → true ≡ fits segment a k → least_from segment a k (61 - k) ≡ least_from segment a 0 61
    → procedure_of segment a ≡ procedure_with segment a true k
unfolding procedure_of
count_fits segment a k h f i =
    let more : 61 - k ≡ suc (60 - k) = omega arith in
    let least : least_from segment a k (61 - k) ≡ Some k = ap (least_from segment a k) more ∙ rw (sym f) refl in
    ap (with_count segment a) (sym i ∙ least)

pub count_fails : (segment : List ℕ) (a : Attributes) (k : ℕ) (whole : Option ℕ) → k < 61 → false ≡ fits segment a k → least_from segment a k (61 - k) ≡ whole
    → least_from segment a (k + 1) (61 - (k + 1)) ≡ whole
count_fails segment a k whole h f i =
    let more : 61 - k ≡ suc (61 - (k + 1)) = omega arith in
    let least : least_from segment a k (suc (61 - (k + 1))) ≡ least_from segment a (k + 1) (61 - (k + 1)) = rw (sym f) refl in
    sym least ∙ ap (least_from segment a k) (sym more) ∙ i

pub none_fits : (segment : List ℕ) (a : Attributes) (k : ℕ) → 61 ≤ k → least_from segment a k (61 - k) ≡ least_from segment a 0 61
    → procedure_of segment a ≡ procedure_with segment a false 0
unfolding procedure_of
none_fits segment a k h i =
    let none : 61 - k ≡ 0 = omega arith in
    ap (with_count segment a) (sym i ∙ ap (least_from segment a k) none)

pub given : {A : Type 0} (P : A → Type 0) (o : Option A) (x : A) → o ≡ Some x → IfSome o P → P x
given P o x e h = let g : IfSome (Some x) P = subst (λ k. IfSome k P) e h in g

differ : (a b : ℕ) → (a ≡ b → ⊥) → (a == b) ≡ false
differ a b h = go (a == b) refl
  where
    go : (v : Bool) → (a == b) ≡ v → (a == b) ≡ false
    go true e = absurd (h (eqb-true _ _ e))
    go false e = e

and_false : (b : Bool) → (b && false) ≡ false
and_false true = refl
and_false false = refl

abbrev Needed : Reading → ℕ
Needed r = entries_needed (written_by (has r.code.boundaries) true (map part_seen r.code.parts.items))

pub not_taken : (segment : List ℕ) (a : Attributes) (t n : ℕ) (r : Reading) → IsTable segment a → a.enter ≤ a.exit → IsReading segment a t r → n ≡ Needed r
    → (n ≡ t → ⊥) → false ≡ fits segment a t
not_taken segment a t n r w h s e d =
    let m : n ≡ entries_needed (procedure_with segment a true t).items = e ∙ ap entries_needed (items_read segment a t r true w s) in
    sym (and_false (can_read segment a t))
    ∙ ap (λ b. can_read segment a t && b) (sym (differ t n (λ f. d (sym f))) ∙ ap (λ k. t == k) m)
    ∙ sym (fits_if segment a t h)

pub is_taken : (segment : List ℕ) (a : Attributes) (t n : ℕ) (r : Reading) → IsTable segment a → a.enter ≤ a.exit → IsReading segment a t r
    → can_read segment a t ≡ true → n ≡ Needed r → n ≡ t → true ≡ fits segment a t
is_taken segment a t n r w h s c e d =
    let m : n ≡ entries_needed (procedure_with segment a true t).items = e ∙ ap entries_needed (items_read segment a t r true w s) in
    let same : (t == entries_needed (procedure_with segment a true t).items) ≡ true = eq-eqb _ _ (sym d ∙ m) in
    sym (fits_if segment a t h ∙ rw (c, same) refl)

-- If the items use more than `t` entries for any test of boundaries, then `t` does not fit.
pub more_taken : (segment : List ℕ) (a : Attributes) (t : ℕ) (fs bs : List ℕ) → a.enter ≤ a.exit → a.enter ≤ end_with a t
    → fs ≡ forced_with segment a t → bs ≡ take (end_with a t) segment
    → ((test : ℕ → Bool) → t < entries_needed (written_by test true (parts fs 0 a.enter (drop a.enter bs))))
    → fits segment a t ≡ false
more_taken segment a t fs bs h inside placed cut more =
    let ps : List Part = parts_with segment a t in
    let code : drop a.enter bs ≡ code_with segment a t = ap (drop a.enter) cut ∙ code_there segment a t inside in
    let whole : parts fs 0 a.enter (drop a.enter bs) ≡ ps =
    ap (λ xs. parts xs 0 a.enter (drop a.enter bs)) placed ∙ ap (parts (forced_with segment a t) 0 a.enter) code in
    let ends : List ℕ = ends_of (a.enter + length (code_with segment a t)) ps in
    let above : t < entries_needed (written_by (is_among ends) true ps) =
    subst (λ qs. t < entries_needed (written_by (is_among ends) true qs)) whole (more (is_among ends)) in
    let beyond : t < entries_needed (procedure_with segment a true t).items =
    subst (λ items. t < entries_needed items) (same_written (is_among ends) ends true ps (λ x. refl)) above in
    fits_if segment a t h
    ∙ ap (λ b. can_read segment a t && b) (differ t (entries_needed (procedure_with segment a true t).items) (λ e. absurd (omega (arith, beyond, e))))
    ∙ and_false (can_read segment a t)
