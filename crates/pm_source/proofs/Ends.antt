-- The offsets at which procedures end after their labels are replaced by offsets, and the segments of a text by number.
use Rattle.std.proofs.Common.{◌≡◌, ◌<◌, ◌≤◌, ℕ, ◌+◌, Bool, true, false, List, [], ◌∷◌, ◌++◌, length}
use Rattle.std.proofs.Common.{map, refl, sym, ap, subst, ◌∙◌, arith, append_assoc, Some, inl, inr}
use Rattle.std.specs.Prelude.{zero, suc, nat_eq, ◌==◌, if◌then◌else◌}
use Rattle.std.specs.List.{AllByRecursion, IsDistinct, list_any}
use Rattle.std.specs.Option.{option_to_list}
use Rattle.std.proofs.lemmas.Bool.{eq-eqb, cases_lt}
use Rattle.pm_code.specs.Item.{Item, size}
use Rattle.pm_code.specs.Program.{end_of, jtab_of}
use Rattle.pm_source.specs.Source.{Name, Row, Source, SourceSegment, items_of, row_items, code_end}
use Rattle.pm_source.specs.Faults.{Places, place_of, source_end}
use Rattle.pm_source.specs.Meaning.{found_item, found_label, found_procedure, segment_with, segments_from, ascending}
use Rattle.pm_source.proofs.Complete.{map_append, new_among}
use Rattle.pm_source.proofs.Labels.{found_size, map_length, neither}
use Rattle.pm_source.proofs.Sound.{all_append}

found_end : (places : Places) (at : ℕ) (items : List (Item Name)) → end_of at (map (found_item places) items) ≡ end_of at items
found_end places at [] = refl
found_end places at (item ∷ items) =
    ap (λ k. end_of (at + k) (map (found_item places) items)) (found_size places at item) ∙ found_end places (at + size at item) items

end_append : (at : ℕ) (xs ys : List (Item Name)) → end_of at (xs ++ ys) ≡ end_of (end_of at xs) ys
end_append at [] ys = refl
end_append at (x ∷ xs) ys = end_append (at + size at x) xs ys

pub end_of_items : (at : ℕ) (rows : List Row) → end_of at (items_of rows) ≡ code_end at rows
end_of_items at [] = refl
end_of_items at (row ∷ rows) = end_append at (row_items row) (items_of rows) ∙ end_of_items (end_of at (row_items row)) rows

-- Replacing the labels of a procedure by offsets does not change the end of its code.
pub found_code_end : (at : ℕ) (p : Source) → end_of at (map (found_item (place_of at p.code)) (items_of p.code)) ≡ code_end at p.code
found_code_end at p = found_end (place_of at p.code) at (items_of p.code) ∙ end_of_items at p.code

-- Replacing the labels of a procedure by offsets does not change the offset at which the next procedure begins.
pub found_behind : (at : ℕ) (p : Source) → jtab_of (found_procedure at p) + 2 ≡ source_end at p
found_behind at p =
    let entries : length (map (λ e. found_label (place_of at p.code) e.1) p.entries) ≡ length p.entries =
    map_length (λ e. found_label (place_of at p.code) e.1) p.entries in
    omega (arith, found_code_end at p, entries)

-- If a property is true for all segments, then it is true for the segments with the number `n`.
all_with : (P : SourceSegment → Type 0) (n : ℕ) (ss : List SourceSegment) → AllByRecursion P ss → AllByRecursion P (option_to_list (segment_with n ss))
all_with P n [] h = tt
all_with P n (s ∷ ss) h = by (s.number == n) (all_with P n ss h.1)
  where
    by : (b : Bool) → AllByRecursion P (option_to_list (segment_with n ss)) → AllByRecursion P (option_to_list (if b then Some s else segment_with n ss))
    by true more = (h.0, tt)
    by false more = more

all_from : (P : SourceSegment → Type 0) (n count : ℕ) (ss : List SourceSegment) → AllByRecursion P ss → AllByRecursion P (segments_from n count ss)
all_from P n zero ss h = tt
all_from P n (suc count) ss h =
    all_append P (option_to_list (segment_with n ss)) (segments_from (n + 1) count ss) (all_with P n ss h) (all_from P (n + 1) count ss h)

pub all_ascending : (P : SourceSegment → Type 0) (ss : List SourceSegment) → AllByRecursion P ss → AllByRecursion P (ascending ss)
all_ascending P ss h = all_from P 0 16 ss h

-- If a property is true for all items of two joined lists, then it is true for all items of each list.
pub all_split : {A : Type 0} (P : A → Type 0) (xs ys : List A) → AllByRecursion P (xs ++ ys) → AllByRecursion P xs × AllByRecursion P ys
all_split P [] ys h = (tt, h)
all_split P (x ∷ xs) ys h = let more = all_split P xs ys h.1 in ((h.0, more.0), more.1)

taken : (P : SourceSegment → Type 0) (n count : ℕ) (ss : List SourceSegment) (m : ℕ) (s : SourceSegment) → AllByRecursion P (segments_from n count ss) → n ≤ m
    → m < n + count → segment_with m ss ≡ Some s → P s
taken P n zero ss m s h low high e = absurd (omega (arith, low, high))
taken P n (suc count) ss m s h low high e =
    let parts = all_split P (option_to_list (segment_with n ss)) (segments_from (n + 1) count ss) h in
    elim (cases_lt n m) [
      | inl less ↦ taken P (n + 1) count ss m s parts.1 (omega (arith, less)) (omega (arith, high)) e
      | inr more ↦ (
          let same : n ≡ m = omega (arith, low, more) in
          let here : segment_with n ss ≡ Some s = ap (λ k. segment_with k ss) same ∙ e in
          let first : AllByRecursion P (s ∷ []) = subst (λ o. AllByRecursion P (option_to_list o)) here parts.0 in
          first.0)
    ]

-- If the segments before `s` have other numbers, then `s` is the first segment with its number.
first_with : (done : List SourceSegment) (s : SourceSegment) (rest : List SourceSegment) → list_any (λ n. nat_eq n s.number) (map (λ t. t.number) done) ≡ false
    → segment_with s.number (done ++ s ∷ rest) ≡ Some s
first_with [] s rest h = let same : nat_eq s.number s.number ≡ true = eq-eqb _ _ refl in rw same refl
first_with (d ∷ done) s rest h =
    let parts = neither (nat_eq d.number s.number) (list_any (λ n. nat_eq n s.number) (map (λ t. t.number) done)) h in
    let other : nat_eq d.number s.number ≡ false = parts.0 in
    rw other (first_with done s rest parts.1)

all_taken : (P : SourceSegment → Type 0) (whole done ss : List SourceSegment) → whole ≡ done ++ ss → IsDistinct nat_eq (map (λ s. s.number) whole)
    → AllByRecursion (λ s. s.number < 16) ss → AllByRecursion P (ascending whole) → AllByRecursion P ss
all_taken P whole done [] e d n h = tt
all_taken P whole done (s ∷ ss) e d n h =
    let apart : IsDistinct nat_eq (map (λ t. t.number) done ++ s.number ∷ map (λ t. t.number) ss) =
    subst (IsDistinct nat_eq) (ap (map (λ t. t.number)) e ∙ map_append (λ t. t.number) done (s ∷ ss)) d in
    let new = new_among nat_eq (map (λ t. t.number) done) s.number (map (λ t. t.number) ss) apart in
    let there : segment_with s.number whole ≡ Some s = ap (segment_with s.number) e ∙ first_with done s ss new in (
      taken P 0 16 whole s.number s h (omega arith) n.0 there,
      all_taken P whole (done ++ s ∷ []) ss (e ∙ sym (append_assoc done (s ∷ []) ss)) d n.1 h,
    )

pub ascending_all : (P : SourceSegment → Type 0) (ss : List SourceSegment) → IsDistinct nat_eq (map (λ s. s.number) ss)
    → AllByRecursion (λ s. s.number < 16) ss → AllByRecursion P (ascending ss) → AllByRecursion P ss
ascending_all P ss d n h = all_taken P ss [] ss refl d n h
