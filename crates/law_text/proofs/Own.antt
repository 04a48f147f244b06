-- Lemmas: with its own count of jump table entries, a procedure is read as its own items. A smaller count needs as many
-- entries.
use Rattle.std.proofs.Common.{◌≡◌, ◌≤◌, ℕ, ◌+◌, Bool, true, false, eqb, List, [], ◌∷◌, ◌++◌, length, refl, sym, ap}
use Rattle.std.proofs.Common.{◌∙◌, subst, arith, inl, inr, append-nil, append_assoc, length-append, Option, Some, None}
use Rattle.std.specs.List.{list_all, AllByRecursion}
use Rattle.std.proofs.lemmas.Bool.{and_from, eq-eqb, eqb-true, true≢false}
use Rattle.pm_code.specs.Item.{Item, Target, item_bytes, size}
use Rattle.pm_code.specs.Item.Item.{Plain, Jump, Case, OneByte}
use Rattle.pm_code.specs.Item.Target.{To, Through}
use Rattle.pm_code.specs.Program.{code_bytes, end_of, boundaries, is_among, IsIn, AreItems, AreInstructions, NamesWithin, item_places, entries_needed}
use Rattle.pm_disasm.specs.Split.{Front, Part, part_of, bytes_after_first, taken, parts, is_allowed}
use Rattle.pm_disasm.specs.Split.{is_allowed_item, leads, written_as, written, ends_of, items_in}
use Rattle.pm_code.proofs.Sizes.{length-code}
use Rattle.pm_code.proofs.ItemBytes.{either}
use Rattle.law_text.proofs.Boundaries.{or_right, named_then}
use Rattle.law_text.proofs.Again.{parts_of_items, split_again, forced_whole}

all_pass : (xs ps : List ℕ) → AllByRecursion (IsIn xs) ps → list_all (is_among xs) ps ≡ true
all_pass xs [] h = refl
all_pass xs (p ∷ ps) h = and_from _ _ h.0 (all_pass xs ps h.1)

any_target : (t : Target ℕ) → is_allowed true t ≡ true
any_target (To place) = refl
any_target (Through k) = refl

any_item : (item : Item ℕ) → is_allowed_item true item ≡ true
any_item (Plain i named) = refl
any_item (Jump op target) = any_target target
any_item (Case low high otherwise places) = any_target otherwise
any_item (OneByte b) = refl

written_item : (ends bytes : List ℕ) (item : Item ℕ) → NamesWithin ends item → written_as ends true bytes (Some item) ≡ item ∷ []
written_item ends bytes item h = let t : leads ends true item ≡ true = and_from _ _ (any_item item) (all_pass ends (item_places item) h) in rw t refl

all_written : (ends : List ℕ) (at : ℕ) (items : List (Item ℕ)) → AllByRecursion (NamesWithin ends) items → written ends true (parts_of_items at items) ≡ items
all_written ends at [] h = refl
all_written ends at (item ∷ items) h =
    ap (λ xs. xs ++ written ends true (parts_of_items (at + size at item) items)) (written_item ends (item_bytes at item) item h.0)
    ∙ ap (λ xs. item ∷ xs) (all_written ends (at + size at item) items h.1)

written-append : (ends : List ℕ) (allowed : Bool) (ps qs : List Part) → written ends allowed (ps ++ qs) ≡ written ends allowed ps ++ written ends allowed qs
written-append ends allowed [] qs = refl
written-append ends allowed (p ∷ ps) qs =
    ap (λ xs. written_as ends allowed p.bytes p.item ++ xs) (written-append ends allowed ps qs)
    ∙ sym (append_assoc (written_as ends allowed p.bytes p.item) (written ends allowed ps) (written ends allowed qs))

-- The boundaries of items are the beginnings of their parts and of the next part.
ends_behind : (at : ℕ) (items : List (Item ℕ)) (ps : List Part) (end place : ℕ) → IsIn (ends_of end ps) (end_of at items) → IsIn (boundaries at items) place
    → IsIn (ends_of end (parts_of_items at items ++ ps)) place
ends_behind at [] ps end place h k =
    elim (either (eqb at place) false k) [ inl e ↦ subst (λ n. IsIn (ends_of end ps) n) (eqb-true at place e) h | inr e ↦ absurd (true≢false (sym e)) ]
ends_behind at (item ∷ items) ps end place h k = elim (either (eqb at place) (is_among (boundaries (at + size at item) items) place) k) [
  | inl e ↦ rw e refl
  | inr e ↦ or_right (eqb at place) (is_among (ends_of end (parts_of_items (at + size at item) items ++ ps)) place)
      (ends_behind (at + size at item) items ps end place h e)
]

-- The first part begins where the bytes begin.
first_begins : (at end : ℕ) (b : ℕ) (bytes : List ℕ) (ps : List Part) (o : Option Front) → IsIn (ends_of end (part_of at (b ∷ bytes) o ∷ ps)) at
first_begins at end b bytes ps None = let t : eqb at at ≡ true = eq-eqb _ _ refl in rw t refl
first_begins at end b bytes ps (Some f) = let t : eqb at at ≡ true = eq-eqb _ _ refl in rw t refl

begins : (forced : List ℕ) (at end : ℕ) (bytes : List ℕ) → end ≡ at + length bytes → IsIn (ends_of end (parts forced 0 at bytes)) at
begins forced at end [] e = let t : eqb end at ≡ true = eq-eqb _ _ (omega arith) in rw t refl
begins forced at end (b ∷ bytes) e =
    first_begins at end b bytes (parts forced (bytes_after_first (taken forced at (b ∷ bytes))) (at + 1) bytes) (taken forced at (b ∷ bytes))

pub needed-append : (xs ys : List (Item ℕ)) → entries_needed xs ≤ entries_needed (xs ++ ys)
needed-append [] ys = omega arith
needed-append (x ∷ xs) ys = omega (arith, needed-append xs ys)

-- Returns the items that are written for the bytes after the code of the items.
abbrev pub items_behind : List ℕ → ℕ → List (Item ℕ) → List ℕ → List (Item ℕ)
items_behind forced at items behind =
    let code = code_bytes at items ++ behind in
    written (ends_of (at + length code) (parts forced 0 at code)) true (parts forced 0 (end_of at items) behind)

-- If the forced offsets are boundaries, the items written for the code of instructions with bytes after it begin with
-- these instructions.
pub items_first : (forced : List ℕ) (at : ℕ) (items : List (Item ℕ)) (behind : List ℕ) → AreItems at items → AreInstructions items
    → AllByRecursion (IsIn (boundaries at items)) forced → AllByRecursion (NamesWithin (boundaries at items)) items
    → items_in forced true at (code_bytes at items ++ behind) ≡ items ++ items_behind forced at items behind
items_first forced at items behind h i f w =
    let code : List ℕ = code_bytes at items ++ behind in
    let end : ℕ = at + length code in
    let next : List Part = parts forced 0 (end_of at items) behind in
    let split : parts forced 0 at code ≡ parts_of_items at items ++ next = split_again forced at items behind h i (forced_whole at items forced f) in
    let ends : List ℕ = ends_of end (parts forced 0 at code) in
    let goes_on : IsIn (ends_of end next) (end_of at items) = begins forced (end_of at items) end behind
    (omega (arith, length-append (code_bytes at items) behind, length-code at items)) in
    let named : AllByRecursion (NamesWithin ends) items = named_then (boundaries at items) ends items
    (λ place k. subst (λ ps. IsIn (ends_of end ps) place) (sym split) (ends_behind at items next end place goes_on k)) w in
    ap (written ends true) split
    ∙ written-append ends true (parts_of_items at items) next
    ∙ ap (λ xs. xs ++ written ends true next) (all_written ends at items named)

-- The items written for only the code of instructions are these instructions.
pub items_again : (forced : List ℕ) (at : ℕ) (items : List (Item ℕ)) → AreItems at items → AreInstructions items
    → AllByRecursion (IsIn (boundaries at items)) forced → AllByRecursion (NamesWithin (boundaries at items)) items
    → items_in forced true at (code_bytes at items) ≡ items
items_again forced at items h i f w =
    ap (items_in forced true at) (sym (append-nil (code_bytes at items))) ∙ items_first forced at items [] h i f w ∙ append-nil items

-- If bytes follow the code, then the items that are written need at least as many entries.
pub at_least_as_many : (forced : List ℕ) (at : ℕ) (items : List (Item ℕ)) (behind : List ℕ) → AreItems at items → AreInstructions items
    → AllByRecursion (IsIn (boundaries at items)) forced → AllByRecursion (NamesWithin (boundaries at items)) items
    → entries_needed items ≤ entries_needed (items_in forced true at (code_bytes at items ++ behind))
at_least_as_many forced at items behind h i f w = rw (items_first forced at items behind h i f w) (needed-append items (items_behind forced at items behind))
