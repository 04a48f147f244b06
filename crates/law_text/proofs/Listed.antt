-- Lemmas: the bytes of a listing are the bytes of the segment, each line at the offset that it states.
use Rattle.std.proofs.Common.{◌≡◌, ℕ, ◌+◌, ◌*◌, List, [], ◌∷◌, ◌++◌, length, reverse, refl, sym, ap, ◌∙◌, subst, arith, append_assoc}
use Rattle.std.proofs.lemmas.List.{length-reverse}
use Rattle.pm_code.specs.Item.{Item, item_bytes, size}
use Rattle.pm_code.specs.Program.{Procedure, FollowFrom, code_bytes, code_of, code_end, end_of, jtab_of, back_to, entry_bytes, attribute_bytes, procedure_bytes}
use Rattle.pm_code.specs.Program.{procedures_bytes, procedures_end, dictionary_bytes}
use Rattle.pm_code.proofs.Sizes.{length-item}
use Rattle.pm_code.specs.Image.{Listed, listed_items, listed_entries, listed_attributes, listed_dictionary, listed_procedure, listed_procedures, listed_bytes}
use Rattle.pm_code.specs.Image.{StandFrom, ListingIsSegment, ListingIsPlaced}

append_nil : {A : Type 0} (xs : List A) → xs ++ [] ≡ xs
append_nil [] = refl
append_nil (x ∷ xs) = ap (λ ys. x ∷ ys) (append_nil xs)

items_listed : (number at : ℕ) (items : List (Item ℕ)) (rest : List Listed)
    → listed_bytes (listed_items number at items ++ rest) ≡ code_bytes at items ++ listed_bytes rest
items_listed number at [] rest = refl
items_listed number at (item ∷ items) rest =
    ap (λ bs. item_bytes at item ++ bs) (items_listed number (at + size at item) items rest)
    ∙ sym (append_assoc (item_bytes at item) (code_bytes (at + size at item) items) (listed_bytes rest))

entries_listed : (number at : ℕ) (places : List ℕ) (rest : List Listed)
    → listed_bytes (listed_entries number at places ++ rest) ≡ entry_bytes at places ++ listed_bytes rest
entries_listed number at [] rest = refl
entries_listed number at (place ∷ places) rest =
    ap (λ bs. back_to at place ++ bs) (entries_listed number (at + 2) places rest)
    ∙ sym (append_assoc (back_to at place) (entry_bytes (at + 2) places) (listed_bytes rest))

procedure_listed : (number : ℕ) (p : Procedure) (rest : List Listed)
    → listed_bytes (listed_procedure number p rest) ≡ procedure_bytes number p ++ listed_bytes rest
procedure_listed number p rest =
    let entries : List ℕ = entry_bytes (code_end p) (reverse p.entries) in
    let last : List ℕ = attribute_bytes number p in
    items_listed number p.start p.items (listed_entries number (code_end p) (reverse p.entries) ++ listed_attributes number p ∷ rest)
    ∙ ap (λ bs. code_of p ++ bs) (entries_listed number (code_end p) (reverse p.entries) (listed_attributes number p ∷ rest)
    ∙ sym (append_assoc entries last (listed_bytes rest)))
    ∙ sym (append_assoc (code_of p) (entries ++ last) (listed_bytes rest))

procedures_listed : (number : ℕ) (ps : List Procedure) (rest : List Listed)
    → listed_bytes (listed_procedures number ps rest) ≡ procedures_bytes number ps ++ listed_bytes rest
procedures_listed number [] rest = refl
procedures_listed number (p ∷ ps) rest =
    procedure_listed number p (listed_procedures (number + 1) ps rest)
    ∙ ap (λ bs. procedure_bytes number p ++ bs) (procedures_listed (number + 1) ps rest)
    ∙ sym (append_assoc (procedure_bytes number p) (procedures_bytes (number + 1) ps) (listed_bytes rest))

pub listing_is_segment : ListingIsSegment
listing_is_segment s =
    let at : ℕ = procedures_end 0 s.procedures in
    procedures_listed 1 s.procedures (listed_dictionary s ∷ [])
    ∙ ap (λ bs. procedures_bytes 1 s.procedures ++ bs) (append_nil (dictionary_bytes at (reverse s.procedures) ++ s.number ∷ length s.procedures ∷ []))

items_stand : (number at : ℕ) (items : List (Item ℕ)) (rest : List Listed) → StandFrom (end_of at items) rest
    → StandFrom at (listed_items number at items ++ rest)
items_stand number at [] rest h = h
items_stand number at (item ∷ items) rest h = (
  refl,
  subst (λ end. StandFrom end (listed_items number (at + size at item) items ++ rest)) (ap (λ n. at + n) (sym (length-item at item)))
      (items_stand number (at + size at item) items rest h),
)

entries_stand : (number at : ℕ) (places : List ℕ) (rest : List Listed) → StandFrom (at + 2 * length places) rest
    → StandFrom at (listed_entries number at places ++ rest)
entries_stand number at [] rest h = subst (λ end. StandFrom end rest) (omega arith) h
entries_stand number at (place ∷ places) rest h = (refl, entries_stand number (at + 2) places rest (subst (λ end. StandFrom end rest) (omega arith) h))

procedure_stands : (number : ℕ) (p : Procedure) (rest : List Listed) → StandFrom (jtab_of p + 2) rest → StandFrom p.start (listed_procedure number p rest)
procedure_stands number p rest h =
    let there : StandFrom (code_end p + 2 * length (reverse p.entries)) (listed_attributes number p ∷ rest) =
    (omega (arith, length-reverse p.entries), subst (λ end. StandFrom end rest) (omega (arith, length-reverse p.entries)) h) in
    items_stand number p.start p.items (listed_entries number (code_end p) (reverse p.entries) ++ listed_attributes number p ∷ rest)
    (entries_stand number (code_end p) (reverse p.entries) (listed_attributes number p ∷ rest) there)

procedures_stand : (number at : ℕ) (ps : List Procedure) (rest : List Listed) → FollowFrom at ps → StandFrom (procedures_end at ps) rest
    → StandFrom at (listed_procedures number ps rest)
procedures_stand number at [] rest f h = h
procedures_stand number at (p ∷ ps) rest f h =
    subst (λ start. StandFrom start (listed_procedure number p (listed_procedures (number + 1) ps rest))) f.0
    (procedure_stands number p (listed_procedures (number + 1) ps rest) (procedures_stand (number + 1) (jtab_of p + 2) ps rest f.1 h))

pub listing_is_placed : ListingIsPlaced
listing_is_placed s f = procedures_stand 1 0 s.procedures (listed_dictionary s ∷ []) f (refl, tt)
