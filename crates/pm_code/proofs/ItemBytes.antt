-- Each byte of an item is below 256.
use Rattle.std.proofs.Common.{◌≡◌, ◌<◌, ◌≤◌, ℕ, ◌+◌, ◌-◌, ◌*◌, ◌%◌, Bool, true, false, cond, eqb, leb, List, [], ◌∷◌, ◌++◌, length, arith, inl, inr}
use Rattle.std.specs.Prelude.{◌||◌, nat_lt}
use Rattle.std.proofs.Common.{◌⊎◌, refl}
use Rattle.std.specs.List.{AllByRecursion}
use Rattle.std.proofs.lemmas.Bool.{and_parts, cases_Bool, cases_lt, eqb-true, ltb-true, le-leb, true≢false}
use Rattle.std.proofs.lemmas.Bool.Decides.{nat_tests}
use Rattle.pm_opcode.specs.declared.operand_form.Form.{Form}
use Rattle.pm_opcode.specs.declared.operand_form.Form.TheVariants as forms
use Rattle.pm_opcode.specs.declared.instr.Instr.{Instr}
use Rattle.pm_opcode.specs.Spelling.{spelled_operands, spelled_word, spelled_number, pad_byte, flip, is_odd, is_sized, is_unsized, in_range}
use Rattle.pm_code.specs.Item.{Item, Target, IsItem, IsNear, IsByte, item_bytes, size, names_place, jump_opcode, jump_byte, table_place, table_words}
use Rattle.pm_code.specs.Item.Item.{Plain, Jump, Case, OneByte}
use Rattle.pm_code.specs.Item.Target.{To, Through}
use Rattle.pm_code.specs.Program.{AreItems, back_to, code_bytes, entry_bytes}

pub either : (a b : Bool) → (a || b) ≡ true → (a ≡ true) ⊎ (b ≡ true)
either true b e = inl refl
either false b e = inr e

pub all-append : {A : Type 0} (P : A → Type 0) (xs ys : List A) → AllByRecursion P xs → AllByRecursion P ys → AllByRecursion P (xs ++ ys)
all-append P [] ys h k = k
all-append P (x ∷ xs) ys h k = (h.0, all-append P xs ys h.1 k)

pub jump_byte-is_byte : (next : ℕ) (target : Target ℕ) → IsNear next target → jump_byte next target < 256
jump_byte-is_byte next (To place) h = omega (arith, h.0, h.1)
jump_byte-is_byte next (Through k) h = omega arith

abbrev pub AreBytes : List ℕ → Type 0
AreBytes bs = AllByRecursion IsByte bs

pub join_bytes : (xs ys : List ℕ) → AreBytes xs → AreBytes ys → AreBytes (xs ++ ys)
join_bytes xs ys h k = all-append IsByte xs ys h k

pub word_bytes : (w : ℕ) → w < 65536 → AreBytes (spelled_word w)
word_bytes w h = (omega arith, (omega (arith, h), tt))

number_bytes : (n : ℕ) (long : Bool) → n < 32768 → AreBytes (spelled_number n long)
number_bytes n true h = (omega (arith, h), (omega arith, tt))
number_bytes n false h = elim (cases_lt n 128) [
  | inl low ↦ (let t : leb 128 n ≡ false = grind (arith, nat_tests) in rw t (omega (arith, low), tt))
  | inr high ↦ (let t : leb 128 n ≡ true = le-leb _ _ high in rw t (omega (arith, h), (omega arith, tt)))
]

padding_bytes : (odd : Bool) → AreBytes (pad_byte odd 0)
padding_bytes true = (omega arith, tt)
padding_bytes false = tt

-- If a comparison of the type `a` has a size, then `a` is below 256.
sized_byte : (a : ℕ) → is_sized a ≡ true → a < 256
sized_byte a h = elim (either (eqb a 10) (eqb a 12) h) [ inl e ↦ omega (arith, eqb-true _ _ e) | inr e ↦ omega (arith, eqb-true _ _ e) ]

unsized_byte : (a : ℕ) → is_unsized a ≡ true → a < 256
unsized_byte a h = elim (either (eqb a 2 || eqb a 4 || eqb a 6) (eqb a 8) h) [
  | inr e ↦ omega (arith, eqb-true _ _ e)
  | inl f ↦ elim (either (eqb a 2 || eqb a 4) (eqb a 6) f) [
    | inr e ↦ omega (arith, eqb-true _ _ e)
    | inl g ↦ elim (either (eqb a 2) (eqb a 4) g) [ inl e ↦ omega (arith, eqb-true _ _ e) | inr e ↦ omega (arith, eqb-true _ _ e) ]
  ]
]

typed_bytes : (i : Instr) → in_range forms.Typed i ≡ true → AreBytes (i.a ∷ cond (is_sized i.a) (spelled_number i.b i.long) [])
typed_bytes i r = elim (cases_Bool (is_sized i.a)) [
  | inl e ↦ (let k : nat_lt i.b 32768 ≡ true = rw e at r in (sized_byte i.a e, rw e (number_bytes i.b i.long (ltb-true _ _ k))))
  | inr e ↦ (let k : is_unsized i.a ≡ true = rw e at r in (unsized_byte i.a k, rw e tt))
]

operand_bytes : (form : Form) (odd : Bool) (i : Instr) (named : List ℕ) → names_place form ≡ false → in_range form i ≡ true → i.a < 65536 → AreBytes named
    → AreBytes (spelled_operands form odd 0 i named)
operand_bytes forms.Plain odd i named n r a h = tt
operand_bytes forms.Ub odd i named n r a h = (ltb-true _ _ r, tt)
operand_bytes forms.Db odd i named n r a h = (ltb-true _ _ r, tt)
operand_bytes forms.B odd i named n r a h = number_bytes i.a i.long (ltb-true _ _ r)
operand_bytes forms.UbB odd i named n r a h = (ltb-true _ _ (and_parts _ _ r).0, number_bytes i.b i.long (ltb-true _ _ (and_parts _ _ r).1))
operand_bytes forms.UbUb odd i named n r a h = (ltb-true _ _ (and_parts _ _ r).0, (ltb-true _ _ (and_parts _ _ r).1, tt))
operand_bytes forms.DbB odd i named n r a h = (ltb-true _ _ (and_parts _ _ r).0, number_bytes i.b i.long (ltb-true _ _ (and_parts _ _ r).1))
operand_bytes forms.W odd i named n r a h = word_bytes i.a a
operand_bytes forms.Chars odd i named n r a h = (ltb-true _ _ (and_parts _ _ r).0, h)
operand_bytes forms.Words odd i named n r a h = (ltb-true _ _ (and_parts _ _ r).0, join_bytes (pad_byte odd 0) named (padding_bytes odd) h)
operand_bytes forms.Typed odd i named n r a h = typed_bytes i r
operand_bytes forms.Sb odd i named n r a h = absurd (true≢false n)
operand_bytes forms.Jumps odd i named n r a h = absurd (true≢false n)
operand_bytes forms.Unassigned odd i named n r a h = tt

table_bytes : (at : ℕ) (places : List ℕ) → AreBytes (table_words at places)
table_bytes at [] = tt
table_bytes at (place ∷ places) =
    join_bytes (spelled_word ((at + 65536 - place) % 65536)) (table_words (at + 2) places) (word_bytes ((at + 65536 - place) % 65536) (omega arith))
    (table_bytes (at + 2) places)

pub are_item_bytes : (at : ℕ) (item : Item ℕ) → IsItem at item → AreBytes (item_bytes at item)
are_item_bytes at (Plain i named) h = (h.opcode, operand_bytes _ (is_odd at) i named h.form h.ranges h.word h.bytes)
are_item_bytes at (Jump op target) h = (h.1, (jump_byte-is_byte (at + 2) target h.2, tt))
are_item_bytes at (Case low high otherwise places) h =
    let table = table_place at in
    let pad : List ℕ = pad_byte (flip (is_odd at)) 0 in
    let last : List ℕ = jump_opcode ∷ jump_byte table otherwise ∷ table_words table places in (
      omega arith,
      join_bytes pad (spelled_word low ++ (spelled_word high ++ last)) (padding_bytes (flip (is_odd at)))
          (join_bytes (spelled_word low) (spelled_word high ++ last) (word_bytes low h.least)
          (join_bytes (spelled_word high) last (word_bytes high h.greatest)
          (omega arith, (jump_byte-is_byte table otherwise h.near, table_bytes table places)))),
    )
are_item_bytes at (OneByte b) h = (h, tt)

pub are_code_bytes : (at : ℕ) (items : List (Item ℕ)) → AreItems at items → AreBytes (code_bytes at items)
are_code_bytes at [] h = tt
are_code_bytes at (item ∷ items) h =
    join_bytes (item_bytes at item) (code_bytes (at + size at item) items) (are_item_bytes at item h.0) (are_code_bytes (at + size at item) items h.1)

pub are_entry_bytes : (at : ℕ) (places : List ℕ) → at + 2 * length places ≤ 65536 → AreBytes (entry_bytes at places)
are_entry_bytes at [] h = tt
are_entry_bytes at (place ∷ places) h =
    join_bytes (back_to at place) (entry_bytes (at + 2) places) (word_bytes (at - place) (omega (arith, h)))
    (are_entry_bytes (at + 2) places (omega (arith, h)))
