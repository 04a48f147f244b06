-- The instruction at the beginning of bytes is an item that has these bytes.
use Rattle.std.proofs.Common.{◌≡◌, ◌<◌, ◌≤◌, ℕ, zero, suc, ◌+◌, ◌-◌, ◌*◌, ◌/◌, ◌%◌, Bool, true, false, cond, ltb, eqb, List, [], ◌∷◌, ◌++◌, length, take}
use Rattle.std.proofs.Common.{drop, refl, sym, ap, ◌∙◌, subst, arith, inl, inr, append_assoc, length-append, IfSome, IfOk, Option, Some, None, Result, Ok, Err}
use Rattle.std.specs.Prelude.{◌&&◌, nat_le, ◌==◌}
use Rattle.std.specs.List.{AllByRecursion}
use Rattle.std.proofs.Math.Seq.{take-append_seam}
use Rattle.std.proofs.lemmas.Bool.{le-ltb, lt-ltb, ltb-true, eqb-true, agree_below_at, and_parts, cases_Bool, cases_lt, true≢false}
use Rattle.std.proofs.lemmas.Bool.Decides.{nat_tests}
use Rattle.pm_opcode.specs.declared.operand_form.Form.{Form}
use Rattle.pm_opcode.specs.declared.operand_form.Form.TheVariants as forms
use Rattle.pm_opcode.specs.declared.instr.Instr.{Instr}
use Rattle.pm_opcode.specs.declared.instr.Decode.{Decode}
use Rattle.pm_opcode.specs.Table.{groups, form_of}
use Rattle.pm_opcode.specs.Spelling.{spelling, spelled_operands, spelled_word, pad_byte, flip, is_odd}
use Rattle.pm_opcode.specs.Spelling.{is_sized, in_range, lies_within, jump_count, names_bytes, named_by}
use Rattle.pm_opcode.specs.Standing.{clear, IsSpelledAt}
use Rattle.pm_opcode.specs.Reading.{reading}
use Rattle.pm_opcode.proofs.Takes.{IsBytes}
use Rattle.pm_opcode.proofs.ReadTakes.{reading_takes}
use Rattle.pm_opcode.proofs.ReadAgain.{length-named_by}
use Rattle.pm_words.specs.Words.{words_of}
use Rattle.pm_words.proofs.Pairs.{length-words_of}
use Rattle.pm_code.specs.Item.{Item, Target, IsItem, IsNear, IsByte, item_bytes, size, names_place, jump_opcode, jump_byte, table_place, table_words}
use Rattle.pm_code.specs.Item.Item.{Plain, Case}
use Rattle.pm_code.specs.Item.Target.{Through}
use Rattle.pm_disasm.specs.Split.{Front, front, front_by, item_of, has_zero_padding, standing_at, target_of, jump_item, case_item, table_places, by_operands}
use Rattle.pm_disasm.proofs.Read.{IsClear, drop-standing, no_count}
use Rattle.pm_code.proofs.Sizes.{length-item}

-- If each element of `bs` is a byte, then this also holds by the definition of the other crate.
pub as_bytes : (bs : List ℕ) → AllByRecursion IsByte bs → IsBytes bs
as_bytes [] h = tt
as_bytes (b ∷ bs) h = (h.0, as_bytes bs h.1)

pub from_bytes : (bs : List ℕ) → IsBytes bs → AllByRecursion IsByte bs
from_bytes [] h = tt
from_bytes (b ∷ bs) h = (h.0, from_bytes bs h.1)

pub take-bytes : (n : ℕ) (bs : List ℕ) → AllByRecursion IsByte bs → AllByRecursion IsByte (take n bs)
take-bytes zero bs h = tt
take-bytes (suc n) [] h = tt
take-bytes (suc n) (b ∷ bs) h = (h.0, take-bytes n bs h.1)

pub drop-bytes : (n : ℕ) (bs : List ℕ) → AllByRecursion IsByte bs → AllByRecursion IsByte (drop n bs)
drop-bytes zero bs h = h
drop-bytes (suc n) [] h = tt
drop-bytes (suc n) (b ∷ bs) h = drop-bytes n bs h.1

standing-bytes : (at : ℕ) (bs : List ℕ) → AllByRecursion IsByte bs → AllByRecursion IsByte (standing_at at bs)
standing-bytes zero bs h = h
standing-bytes (suc at) bs h = (omega arith, standing-bytes at bs h)

-- States that `item` can be at offset `at`, and that its bytes are the first `n` of `bytes`.
pub record Spells (at : ℕ) (bytes : List ℕ) (n : ℕ) (item : Item ℕ) : Type 0 where
  pub sound : IsItem at item
  pub spelled : item_bytes at item ≡ take n bytes
  pub sized : size at item ≡ n

pub record Fronts (at : ℕ) (bytes : List ℕ) (f : Front) : Type 0 where
  pub some : 0 < f.size
  pub within : f.size ≤ length bytes
  pub item : IfSome f.item (Spells at bytes f.size)

-- If the padding byte `pad` is zero, then the operands are spelled as with padding 0.
zero_padding : (form : Form) (odd : Bool) (op pad : ℕ) (i : Instr) (named rest : List ℕ)
    → has_zero_padding form odd (op ∷ (spelled_operands form odd pad i named ++ rest)) ≡ true
    → spelled_operands form odd pad i named ≡ spelled_operands form odd 0 i named
zero_padding forms.Words true op pad i named rest h = ap (λ n. spelled_operands forms.Words true n i named) (eqb-true _ _ h)
zero_padding forms.Words false op pad i named rest h = refl
zero_padding forms.Jumps true op pad i named rest h = refl
zero_padding forms.Jumps false op pad i named rest h = ap (λ n. spelled_operands forms.Jumps false n i named) (eqb-true _ _ h)
zero_padding _ odd op pad i named rest h = refl

-- The bytes of an instruction do not depend on its position. The same holds for its ranges and its fields.
alike : (form : Form) (odd : Bool) (i : Instr) (named : List ℕ) → spelled_operands form odd 0 (by_operands i) named ≡ spelled_operands form odd 0 i named
alike forms.Plain odd i named = refl
alike _ odd i named = refl

ranges_alike : (form : Form) (i : Instr) → in_range form (by_operands i) ≡ in_range form i
ranges_alike forms.Plain i = refl
ranges_alike _ i = refl

clear_alike : (form : Form) (i : Instr) → clear form (by_operands i) ≡ by_operands (clear form i)
clear_alike forms.Typed i = elim (cases_Bool (is_sized i.a)) [ inl s ↦ rw s refl | inr s ↦ rw s refl ]
clear_alike _ i = refl

-- If the operands of `i` are bytes, and its form has no target, then `i.a` is a word.
small_word : (form : Form) (odd : Bool) (i : Instr) (named rest : List ℕ) → names_place form ≡ false
    → AllByRecursion IsByte (spelled_operands form odd 0 i named ++ rest) → in_range form i ≡ true → clear form (by_operands i) ≡ by_operands i → i.a < 65536
small_word forms.Plain odd i named rest n h r e = omega (arith, ap (λ (j : Instr). j.a) e)
small_word forms.B odd i named rest n h r e = omega (arith, ltb-true _ _ r)
small_word forms.W odd i named rest n h r e = omega (arith, h.1.0)
small_word forms.Unassigned odd i named rest n h r e = absurd (true≢false (sym r))
small_word forms.Sb odd i named rest n h r e = absurd (true≢false n)
small_word forms.Jumps odd i named rest n h r e = absurd (true≢false n)
small_word _ odd i named rest n h r e = omega (arith, h.0)

-- The properties of instruction `i` at the beginning of `bytes`, and of the bytes `named` that belong to it.
record Known (at : ℕ) (bytes : List ℕ) (i : Instr) (named : List ℕ) : Type 0 where
  rest : List ℕ
  whole : bytes ≡ spelling (is_odd at) 0 i named ++ rest
  len : i.len ≡ length (spelling (is_odd at) 0 i named)
  ranges : in_range (form_of i.op) i ≡ true
  fields : clear (form_of i.op) (by_operands i) ≡ by_operands i
  count : length named ≡ i.count
  names : AllByRecursion IsByte named
  text : AllByRecursion IsByte (spelling (is_odd at) 0 i named ++ rest)

-- The bytes of such an instruction are the first `i.len` of `bytes`.
known_text : (at : ℕ) (bytes : List ℕ) (i : Instr) (named : List ℕ) → Known at bytes i named → spelling (is_odd at) 0 i named ≡ take i.len bytes
known_text at bytes i named k =
    let text : List ℕ = spelling (is_odd at) 0 i named in
    sym (ap (λ n. take n bytes) k.len ∙ ap (take (length text)) k.whole ∙ take-append_seam text k.rest)

plain_fronts : (at : ℕ) (bytes : List ℕ) (i : Instr) (named : List ℕ) → names_place (form_of i.op) ≡ false → Known at bytes i named
    → Spells at bytes i.len (Plain (by_operands i) named)
plain_fronts at bytes i named n k =
    let text : spelling (is_odd at) 0 (by_operands i) named ≡ spelling (is_odd at) 0 i named =
    ap (λ bs. i.op ∷ bs) (alike (form_of i.op) (is_odd at) i named) in
    record {
      sound = record {
        opcode = k.text.0;
        form = n;
        ranges = ranges_alike (form_of i.op) i ∙ k.ranges;
        word = small_word (form_of i.op) (is_odd at) i named k.rest n k.text.1 k.ranges k.fields;
        fields = k.fields;
        nowhere = (refl, refl);
        count = k.count;
        bytes = k.names;
      };
      spelled = text ∙ known_text at bytes i named k;
      sized = ap length text ∙ sym k.len;
    }

-- If the operand byte `b` has a target, then a short jump can lead to it, and its operand byte is `b`.
pub target_named : (next b : ℕ) → b < 256 → IfSome (target_of next b) (λ t. IsNear next t × (jump_byte next t ≡ b))
target_named next b h = elim (cases_lt b 128) [
  | inl low ↦ (let t : ltb b 128 ≡ true = lt-ltb _ _ low in rw t ((omega arith, omega arith), omega arith))
  | inr high ↦ (let t : ltb b 128 ≡ false = le-ltb _ _ high in rw t (through ((b % 2 == 0) && nat_le b 246) refl high))
]
  where
    through : (test : Bool) → ((b % 2 == 0) && nat_le b 246) ≡ test → 128 ≤ b
        → IfSome (cond test (Some (Through ((246 - b) / 2))) None) (λ (t : Target ℕ). IsNear next t × (jump_byte next t ≡ b))
    through true e l = (omega (arith, l), grind (arith, nat_tests))
    through false e l = tt

jump_fronts : (at : ℕ) (bytes : List ℕ) (i : Instr) (named : List ℕ) (t : Option (Target ℕ)) → form_of i.op ≡ forms.Sb → Known at bytes i named
    → IfSome t (λ t. IsNear (at + i.len) t × (jump_byte (at + i.len) t ≡ i.a % 256)) → IfSome (jump_item i.op t) (Spells at bytes i.len)
jump_fronts at bytes i named None f k h = tt
jump_fronts at bytes i named (Some t) f k h =
    let text : spelling (is_odd at) 0 i named ≡ i.op ∷ i.a % 256 ∷ [] = rw f refl in
    let two : i.len ≡ 2 = k.len ∙ ap length text in
    record {
      sound = (f, k.text.0, subst (λ n. IsNear (at + n) t) two h.0);
      spelled = ap (λ n. i.op ∷ jump_byte (at + n) t ∷ []) (sym two) ∙ ap (λ b. i.op ∷ b ∷ []) h.1 ∙ sym text ∙ known_text at bytes i named k;
      sized = sym two;
    }

is_case : Form → Bool
is_case forms.Jumps = true
is_case _ = false

only_case : (op : ℕ) → op < 256 → is_case (form_of op) ≡ eqb op 172
unfolding groups form_of is_case
only_case op h = agree_below_at (λ n. is_case (form_of n)) (λ n. eqb n 172) 256 op refl h

is_172 : (op : ℕ) → op < 256 → form_of op ≡ forms.Jumps → op ≡ 172
unfolding is_case
is_172 op h f = eqb-true op 172 (sym (only_case op h) ∙ ap is_case f)

-- The table with the targets of the words in `bs` has the bytes `bs`.
words_named : (k at : ℕ) (bs : List ℕ) → length bs ≡ 2 * k → AllByRecursion IsByte bs → table_words at (table_places at (words_of bs)) ≡ bs
unfolding words_of
words_named k at [] n h = refl
words_named zero at (x ∷ bs) n h = absurd (omega arith)
words_named (suc k) at (x ∷ []) n h = absurd (omega arith)
words_named (suc k) at (x ∷ y ∷ bs) n h =
    let w = x + 256 * y in
    let back : (at + 65536 - (at + 65536 - w) % 65536) % 65536 ≡ w = omega (arith, h.0, h.1.0) in
    let low : w % 256 ≡ x = omega (arith, h.0, h.1.0) in
    let high : w / 256 ≡ y = omega (arith, h.0, h.1.0) in
    rw (back, low, high) (ap (λ cs. x ∷ y ∷ cs) (words_named k (at + 2) bs (omega arith) h.1.1))

pub length-table_places : (at : ℕ) (ws : List ℕ) → length (table_places at ws) ≡ length ws
length-table_places at [] = refl
length-table_places at (w ∷ ws) = omega (arith, length-table_places (at + 2) ws)

pub table_places-within : (at : ℕ) (ws : List ℕ) → AllByRecursion (λ place. place < 65536) (table_places at ws)
table_places-within at [] = tt
table_places-within at (w ∷ ws) = (omega arith, table_places-within (at + 2) ws)

-- The operands of a case jump are words.
case_words : (padded : Bool) (i : Instr) (named rest : List ℕ) → AllByRecursion IsByte
    ((pad_byte padded 0 ++ spelled_word i.a ++ spelled_word i.b ++ spelled_word i.c ++ named) ++ rest) → (i.a < 65536) × (i.b < 65536) × (i.c < 65536)
case_words true i named rest h = (omega (arith, h.1.1.0), omega (arith, h.1.1.1.1.0), omega (arith, h.1.1.1.1.1.1.0))
case_words false i named rest h = (omega (arith, h.1.0), omega (arith, h.1.1.1.0), omega (arith, h.1.1.1.1.1.0))

case_fronts : (at : ℕ) (bytes : List ℕ) (i : Instr) (named : List ℕ) (t : Option (Target ℕ)) → form_of i.op ≡ forms.Jumps → Known at bytes i named
    → i.c % 256 ≡ 185 → IfSome t (λ t. IsNear (at + i.len - i.count) t × (jump_byte (at + i.len - i.count) t ≡ i.c / 256))
    → IfSome (case_item i.a i.b t (table_places (at + i.len - i.count) (words_of named))) (Spells at bytes i.len)
case_fronts at bytes i named None f k j h = tt
case_fronts at bytes i named (Some t) f k j h =
    let start = at + i.len - i.count in
    let places = table_places start (words_of named) in
    let item : Item ℕ = Case i.a i.b t places in
    let half = jump_count i.a i.b in
    let ranges : i.count ≡ 2 * half = eqb-true _ _ (rw f at k.ranges) in
    let size_of : i.len ≡ 7 + length (pad_byte (flip (is_odd at)) 0) + i.count =
    k.len ∙ rw f (simp append_assoc (omega (
      arith,
      length-append (pad_byte (flip (is_odd at)) 0)
          (spelled_word i.a ++ (spelled_word i.b ++ (spelled_word i.c ++ named))),
      k.count,
    ))) in
    let begins : table_place at ≡ start = omega (arith, size_of) in
    let count : length places ≡ half = length-table_places start (words_of named) ∙ length-words_of half named (k.count ∙ ranges) in
    let words : table_words (table_place at) places ≡ named = ap (λ n. table_words n places) begins ∙ words_named half start named (k.count ∙ ranges) k.names in
    let last : jump_opcode ∷ jump_byte (table_place at) t ∷ named ≡ spelled_word i.c ++ named =
    ap (λ n. jump_opcode ∷ jump_byte n t ∷ named) begins ∙ ap (λ b. jump_opcode ∷ b ∷ named) h.1 ∙ ap (λ b. b ∷ i.c / 256 ∷ named) (sym j) in
    let limits = case_words (flip (is_odd at)) i named k.rest (rw f at k.text.1) in
    let op : 172 ≡ i.op = sym (is_172 i.op k.text.0 f) in
    let text : item_bytes at item ≡ spelling (is_odd at) 0 i named =
    rw (f, words, last) (simp append_assoc (ap (λ n. n ∷ pad_byte (flip (is_odd at)) 0
    ++ (spelled_word i.a ++ (spelled_word i.b ++ (spelled_word i.c ++ named)))) op)) in
    record {
      sound = record {
        least = limits.0;
        greatest = limits.1;
        near = subst (λ n. IsNear n t) (sym begins) h.0;
        within = table_places-within start (words_of named);
        count = count;
      };
      spelled = text ∙ known_text at bytes i named k;
      sized = sym (length-item at item) ∙ ap length text ∙ sym k.len;
    }

item_fronts : (form : Form) (at : ℕ) (bytes : List ℕ) (i : Instr) (named : List ℕ) → form_of i.op ≡ form → Known at bytes i named
    → IfSome (item_of form i named (at + i.len)) (Spells at bytes i.len)
item_fronts forms.Sb at bytes i named f k =
    jump_fronts at bytes i named (target_of (at + i.len) (i.a % 256)) f k (target_named (at + i.len) (i.a % 256) (omega arith))
item_fronts forms.Jumps at bytes i named f k = elim (cases_Bool (i.c % 256 == 185)) [
  | inl e ↦ rw e (case_fronts at bytes i named (target_of (at + i.len - i.count) (i.c / 256)) f k (eqb-true _ _ e)
      (target_named (at + i.len - i.count) (i.c / 256) (omega (arith, (case_words (flip (is_odd at)) i named k.rest (rw f at k.text.1)).2))))
  | inr e ↦ rw e tt
]
item_fronts _ at bytes i named f k = plain_fronts at bytes i named (ap names_place f) k

-- If instruction `i` is spelled at offset `at` and has zero padding, then it has the properties of `Known`.
read_known : (at : ℕ) (bytes : List ℕ) (i : Instr) → AllByRecursion IsByte bytes → IsSpelledAt (standing_at at bytes) at i
    → has_zero_padding (form_of i.op) (is_odd at) bytes ≡ true → Known at bytes i (named_by i (standing_at at bytes))
read_known at bytes i h s z =
    let all : List ℕ = standing_at at bytes in
    let named : List ℕ = named_by i all in
    let form = form_of i.op in
    let rest : List ℕ = s.spelled.1 in
    let there : bytes ≡ i.op ∷ (spelled_operands form (is_odd at) s.spelled.0 i named ++ rest) = sym (drop-standing at bytes) ∙ s.spelled.2 in
    let zero : spelled_operands form (is_odd at) s.spelled.0 i named ≡ spelled_operands form (is_odd at) 0 i named =
    zero_padding form (is_odd at) i.op s.spelled.0 i named rest (subst (λ bs. has_zero_padding form (is_odd at) bs ≡ true) there z) in
    let whole : bytes ≡ spelling (is_odd at) 0 i named ++ rest = there ∙ ap (λ bs. i.op ∷ (bs ++ rest)) zero in
    let fields : clear form (by_operands i) ≡ by_operands i = clear_alike form i ∙ sym (ap by_operands s.placed) in
    record {
      rest = rest;
      whole = whole;
      len = ap (λ (j : Instr). j.len) s.placed;
      ranges = (and_parts (in_range form i) (lies_within form i (length all)) s.ranges).0;
      fields = fields;
      count = elim (cases_Bool (names_bytes form)) [
        | inl n ↦ length-named_by i all s.ranges n
        | inr n ↦ rw n (sym (no_count form (by_operands i) n fields))
      ];
      names = elim (cases_Bool (names_bytes form)) [
        | inl n ↦ rw n (take-bytes i.count (drop i.start all) (drop-bytes i.start all (standing-bytes at bytes h)))
        | inr n ↦ rw n tt
      ];
      text = subst (AllByRecursion IsByte) whole h;
    }

known_front : (at : ℕ) (bytes : List ℕ) (i : Instr) (named : List ℕ) → Known at bytes i named
    → Fronts at bytes (record { size = i.len; item = item_of (form_of i.op) i named (at + i.len) })
known_front at bytes i named k =
    let text : List ℕ = spelling (is_odd at) 0 i named in
    record {
      some = omega (arith, k.len);
      within = omega (arith, k.len, ap length k.whole, length-append text k.rest);
      item = item_fronts (form_of i.op) at bytes i named refl k;
    }

front_read : (at : ℕ) (bytes : List ℕ) (r : Result Instr Decode) → AllByRecursion IsByte bytes → IfOk r (IsSpelledAt (standing_at at bytes) at)
    → IfSome (front_by at bytes r) (Fronts at bytes)
front_read at bytes (Err e) h s = tt
front_read at bytes (Ok i) h s = elim (cases_Bool (has_zero_padding (form_of i.op) (is_odd at) bytes)) [
  | inl z ↦ rw z (known_front at bytes i (named_by i (standing_at at bytes)) (read_known at bytes i h s z))
  | inr z ↦ rw z tt
]

-- If an instruction is at the beginning of `bytes`, then its item has the first bytes.
pub fronts : (at : ℕ) (bytes : List ℕ) → AllByRecursion IsByte bytes → IfSome (front at bytes) (Fronts at bytes)
unfolding front
fronts at bytes h =
    front_read at bytes (reading (standing_at at bytes) at) h (reading_takes (standing_at at bytes) at
    (as_bytes (standing_at at bytes) (standing-bytes at bytes h)))

-- States that `bytes` begin with an instruction that uses only the fields of its form.
pub record IsRead (at : ℕ) (bytes : List ℕ) : Type 0 where
  pub instr : Instr
  pub named : List ℕ
  pub rest : List ℕ
  pub whole : bytes ≡ spelling (is_odd at) 0 instr named ++ rest
  pub clear : IsClear instr named

known_read : (at : ℕ) (bytes : List ℕ) (i : Instr) (named : List ℕ) → Known at bytes i named → IsRead at bytes
known_read at bytes i named k = record {
  instr = by_operands i;
  named = named;
  rest = k.rest;
  whole = k.whole ∙ ap (λ bs. i.op ∷ (bs ++ k.rest)) (sym (alike (form_of i.op) (is_odd at) i named));
  clear = record { ranges = ranges_alike (form_of i.op) i ∙ k.ranges; fields = k.fields; count = k.count };
}

is_read : (at : ℕ) (bytes : List ℕ) (r : Result Instr Decode) → AllByRecursion IsByte bytes → IfOk r (IsSpelledAt (standing_at at bytes) at)
    → IfSome (front_by at bytes r) (λ f. IsRead at bytes)
is_read at bytes (Err e) h s = tt
is_read at bytes (Ok i) h s = elim (cases_Bool (has_zero_padding (form_of i.op) (is_odd at) bytes)) [
  | inl z ↦ rw z (known_read at bytes i (named_by i (standing_at at bytes)) (read_known at bytes i h s z))
  | inr z ↦ rw z tt
]

-- If an instruction is read from `bytes`, then `IsRead` holds.
pub reads : (at : ℕ) (bytes : List ℕ) → AllByRecursion IsByte bytes → IfSome (front at bytes) (λ f. IsRead at bytes)
unfolding front
reads at bytes h =
    is_read at bytes (reading (standing_at at bytes) at) h (reading_takes (standing_at at bytes) at
    (as_bytes (standing_at at bytes) (standing-bytes at bytes h)))
