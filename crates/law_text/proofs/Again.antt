-- Lemmas: the instructions of a procedure are read from its code again, for any bytes after it. A *part* is a piece of
-- the bytes that is read as one item. A *forced offset* is an offset at which an item must begin.
use Rattle.std.proofs.Common.{◌≡◌, ◌<◌, ◌≤◌, ℕ, ◌+◌, ◌-◌, ◌⊎◌, Bool, true, false, ltb, eqb, List, [], ◌∷◌, ◌++◌}
use Rattle.std.proofs.Common.{length, take, refl, sym, ap, ◌∙◌, arith, inl, inr, append_assoc, Option, Some}
use Rattle.std.specs.Prelude.{◌&&◌, nat_lt}
use Rattle.std.specs.List.{list_any, AllByRecursion}
use Rattle.std.proofs.Math.Seq.{take-append_seam}
use Rattle.std.proofs.lemmas.Bool.{le-ltb, eqb-true}
use Rattle.std.proofs.lemmas.Bool.Decides.{nat_tests}
use Rattle.pm_code.specs.Item.{Item, item_bytes, size}
use Rattle.pm_code.specs.Program.{code_bytes, end_of, boundaries, is_among, IsIn, AreItems, AreInstructions}
use Rattle.pm_disasm.specs.Split.{uncut, taken, Part, part_of, bytes_after_first, parts}
use Rattle.pm_code.proofs.Sizes.{length-item, size-some, length-code}
use Rattle.pm_disasm.proofs.Read.{instruction_is_read}
use Rattle.pm_code.proofs.ItemBytes.{either}

-- Returns the parts that the bytes of the items are read as, from the offset `at` on.
abbrev pub parts_of_items : ℕ → List (Item ℕ) → List Part
parts_of_items at [] = []
parts_of_items at (item ∷ items) = record { at = at; bytes = item_bytes at item; item = Some item } ∷ parts_of_items (at + size at item) items

-- No forced offset is strictly inside an item.
abbrev pub AreWhole : List ℕ → ℕ → List (Item ℕ) → Type 0
AreWhole forced at [] = Unit {0}
AreWhole forced at (item ∷ items) =
    (list_any (λ place. nat_lt at place && nat_lt place (at + size at item)) forced ≡ false) × AreWhole forced (at + size at item) items

passed : (forced : List ℕ) (at : ℕ) (xs ys : List ℕ) (next : ℕ) → next ≡ at + length xs → parts forced (length xs) at (xs ++ ys) ≡ parts forced 0 next ys
passed forced at [] ys next e = ap (λ n. parts forced 0 n ys) (omega arith)
passed forced at (x ∷ xs) ys next e = passed forced (at + 1) xs ys next (omega arith)

-- If an instruction is read from the bytes `xs`, then these bytes are one part.
one_part : (forced : List ℕ) (at : ℕ) (xs ys : List ℕ) (n : ℕ) (item : Option (Item ℕ)) → length xs ≡ n → 0 < n
    → taken forced at (xs ++ ys) ≡ Some (record { size = n; item = item })
    → parts forced 0 at (xs ++ ys) ≡ record { at = at; bytes = xs; item = item } ∷ parts forced 0 (at + n) ys
one_part forced at [] ys n item e some t = absurd (omega arith)
one_part forced at (x ∷ xs) ys n item e some t =
    let whole : take n (x ∷ (xs ++ ys)) ≡ x ∷ xs = ap (λ k. take k (x ∷ (xs ++ ys))) (sym e) ∙ ap (λ zs. x ∷ zs) (take-append_seam xs ys) in
    let less : n - 1 ≡ length xs = omega arith in
    ap (λ o. part_of at (x ∷ (xs ++ ys)) o ∷ parts forced (bytes_after_first o) (at + 1) (xs ++ ys)) t
    ∙ ap (λ zs. record { at = at; bytes = zs; item = item } ∷ parts forced (n - 1) (at + 1) (xs ++ ys)) whole
    ∙ ap (λ ps. record { at = at; bytes = x ∷ xs; item = item } ∷ ps)
    (ap (λ k. parts forced k (at + 1) (xs ++ ys)) less ∙ passed forced (at + 1) xs ys (at + n) (omega arith))

uncut_is : (forced : List ℕ) (at : ℕ) (n : ℕ) (item : Option (Item ℕ)) → (list_any (λ place. nat_lt at place && nat_lt place (at + n)) forced ≡ false)
    → uncut forced at (Some (record { size = n; item = item })) ≡ Some (record { size = n; item = item })
uncut_is forced at n item e = rw e refl

-- The bytes of the items are read as the parts of these items, followed by the parts of the bytes after them.
pub split_again : (forced : List ℕ) (at : ℕ) (items : List (Item ℕ)) (rest : List ℕ) → AreItems at items → AreInstructions items → AreWhole forced at items
    → parts forced 0 at (code_bytes at items ++ rest) ≡ parts_of_items at items ++ parts forced 0 (end_of at items) rest
split_again forced at [] rest h i w = refl
split_again forced at (item ∷ items) rest h i w =
    let more : List ℕ = code_bytes (at + size at item) items ++ rest in
    let here : parts forced 0 at (item_bytes at item ++ more) ≡ record { at = at; bytes = item_bytes at item; item = Some item }
    ∷ parts forced 0 (at + size at item) more =
    one_part forced at (item_bytes at item) more (size at item) (Some item) (length-item at item) (size-some at item)
    (ap (uncut forced at) (instruction_is_read at item more h.0 i.0) ∙ uncut_is forced at (size at item) (Some item) w.0) in
    ap (parts forced 0 at) (append_assoc (item_bytes at item) (code_bytes (at + size at item) items) rest)
    ∙ here
    ∙ ap (λ ps. record { at = at; bytes = item_bytes at item; item = Some item } ∷ ps) (split_again forced (at + size at item) items rest h.1 i.1 w.1)

pub later : (at : ℕ) (items : List (Item ℕ)) (place : ℕ) → IsIn (boundaries at items) place → at ≤ place
later at [] place h = elim (either (eqb at place) false h) [ inl e ↦ (let f : at ≡ place = eqb-true _ _ e in omega arith) | inr e ↦ absurd (cc) ]
later at (item ∷ items) place h = elim (either (eqb at place) (is_among (boundaries (at + size at item) items) place) h) [
  | inl e ↦ (let f : at ≡ place = eqb-true _ _ e in omega arith)
  | inr e ↦ omega (arith, later (at + size at item) items place e)
]

end_after : (at : ℕ) (items : List (Item ℕ)) → at ≤ end_of at items
end_after at items = omega (arith, length-code at items)

pub earlier : (at : ℕ) (items : List (Item ℕ)) (place : ℕ) → IsIn (boundaries at items) place → place ≤ end_of at items
earlier at [] place h = elim (either (eqb at place) false h) [ inl e ↦ (let f : at ≡ place = eqb-true _ _ e in omega arith) | inr e ↦ absurd (cc) ]
earlier at (item ∷ items) place h = elim (either (eqb at place) (is_among (boundaries (at + size at item) items) place) h) [
  | inl e ↦ (let f : at ≡ place = eqb-true _ _ e in omega (arith, end_after (at + size at item) items))
  | inr e ↦ earlier (at + size at item) items place e
]

-- The offset is a boundary of the items, or is not after the beginning of the code.
abbrev Clear : ℕ → List (Item ℕ) → ℕ → Type 0
Clear at items place = (place ≤ at) ⊎ IsIn (boundaries at items) place

clear_of_first : (at : ℕ) (item : Item ℕ) (items : List (Item ℕ)) (place : ℕ) → Clear at (item ∷ items) place
    → (nat_lt at place && nat_lt place (at + size at item)) ≡ false
clear_of_first at item items place (inl h) = grind (arith, nat_tests)
clear_of_first at item items place (inr h) = elim (either (eqb at place) (is_among (boundaries (at + size at item) items) place) h) [
  | inl e ↦ (let f : at ≡ place = eqb-true _ _ e in let g : place ≤ at = omega arith in low g)
  | inr e ↦ high (later (at + size at item) items place e)
]
  where
    low : place ≤ at → (nat_lt at place && nat_lt place (at + size at item)) ≡ false
    low g = let t : ltb at place ≡ false = le-ltb _ _ g in rw t refl

    both : (a : Bool) → (a && false) ≡ false
    both true = refl
    both false = refl

    high : at + size at item ≤ place → (nat_lt at place && nat_lt place (at + size at item)) ≡ false
    high g = let t : ltb place (at + size at item) ≡ false = le-ltb _ _ g in rw t (both (nat_lt at place))

clear_of_rest : (at : ℕ) (item : Item ℕ) (items : List (Item ℕ)) (place : ℕ) → Clear at (item ∷ items) place → Clear (at + size at item) items place
clear_of_rest at item items place (inl h) = inl (omega arith)
clear_of_rest at item items place (inr h) = elim (either (eqb at place) (is_among (boundaries (at + size at item) items) place) h) [
  | inl e ↦ (let f : at ≡ place = eqb-true _ _ e in inl (omega arith))
  | inr e ↦ inr e
]

none_inside : (at : ℕ) (item : Item ℕ) (items : List (Item ℕ)) (forced : List ℕ) → AllByRecursion (Clear at (item ∷ items)) forced
    → list_any (λ place. nat_lt at place && nat_lt place (at + size at item)) forced ≡ false
none_inside at item items [] h = refl
none_inside at item items (f ∷ forced) h = let e = clear_of_first at item items f h.0 in rw e (none_inside at item items forced h.1)

rest_clear : (at : ℕ) (item : Item ℕ) (items : List (Item ℕ)) (forced : List ℕ) → AllByRecursion (Clear at (item ∷ items)) forced
    → AllByRecursion (Clear (at + size at item) items) forced
rest_clear at item items [] h = tt
rest_clear at item items (f ∷ forced) h = (clear_of_rest at item items f h.0, rest_clear at item items forced h.1)

-- No forced offset is strictly inside an item if each is a boundary or before the code.
are_whole : (at : ℕ) (items : List (Item ℕ)) (forced : List ℕ) → AllByRecursion (Clear at items) forced → AreWhole forced at items
are_whole at [] forced h = tt
are_whole at (item ∷ items) forced h = (none_inside at item items forced h, are_whole (at + size at item) items forced (rest_clear at item items forced h))

forced_clear : (at : ℕ) (items : List (Item ℕ)) (forced : List ℕ) → AllByRecursion (IsIn (boundaries at items)) forced → AllByRecursion (Clear at items) forced
forced_clear at items [] h = tt
forced_clear at items (f ∷ forced) h = (inr h.0, forced_clear at items forced h.1)

pub forced_whole : (at : ℕ) (items : List (Item ℕ)) (forced : List ℕ) → AllByRecursion (IsIn (boundaries at items)) forced → AreWhole forced at items
forced_whole at items forced h = are_whole at items forced (forced_clear at items forced h)
