-- The items of the code of a procedure, and their bytes.
use Rattle.std.specs.Prelude.{◌≡◌, ℕ, ◌+◌, ◌-◌, ◌*◌, ◌%◌, ◌<◌, ◌≤◌, Bool, true, false, List, [], ◌∷◌, ◌++◌, length}
use Rattle.std.specs.List.{AllByRecursion}
use Rattle.pm_opcode.specs.declared.operand_form.Form.{Form}
use Rattle.pm_opcode.specs.declared.operand_form.Form.TheVariants as forms
use Rattle.pm_opcode.specs.declared.instr.Instr.{Instr}
use Rattle.pm_opcode.specs.Table.{form_of}
use Rattle.pm_opcode.specs.Spelling.{spelled_word, pad_byte, flip, is_odd, spelling, jump_count, in_range}
use Rattle.pm_opcode.specs.Standing.{clear}

-- The target of a jump. `P` is the type of positions: a label in a source text, or an offset in the segment in a
-- program.
pub data Target (P : Type 0) : Type 0 where
  To : P → Target P
  -- the position to which this entry of the jump table leads
  Through : ℕ → Target P

-- An item of the code of a procedure: an instruction, or a byte that is not part of an instruction.
pub data Item (P : Type 0) : Type 0 where
  -- an instruction that does not jump, and the bytes that belong to it
  Plain : Instr → List ℕ → Item P
  -- a short jump: its opcode and its target
  Jump : ℕ → Target P → Item P
  -- XJP: the two bounds as words, the target for a value out of bounds, and the targets in the table
  Case : ℕ → ℕ → Target P → List P → Item P
  OneByte : ℕ → Item P

-- The opcodes of XJP, and of the jump inside XJP.
abbrev pub case_opcode : ℕ
case_opcode = 172

abbrev pub jump_opcode : ℕ
jump_opcode = 185

-- The operand byte of a short jump, where `next` is the offset after the jump. For a position, the byte is the distance
-- from `next` to this position. For entry `k`, it is the distance from JTAB to the word of the entry, as a signed byte.
abbrev pub jump_byte : ℕ → Target ℕ → ℕ
jump_byte next (To place) = place - next
jump_byte next (Through k) = 246 - 2 * k

-- The offset of the table of an XJP at offset `at`. The opcode, the padding and three words precede the table.
abbrev pub table_place : ℕ → ℕ
table_place at = at + 7 + length (pad_byte (flip (is_odd at)) 0)

-- The bytes of the table of an XJP, which begins at offset `at`. Each word is the distance from the word itself down to
-- its target, modulo 65,536.
abbrev pub table_words : ℕ → List ℕ → List ℕ
table_words at [] = []
table_words at (place ∷ places) = spelled_word ((at + 65536 - place) % 65536) ++ table_words (at + 2) places

-- The bytes of an item that begins at offset `at` of its segment.
abbrev pub item_bytes : ℕ → Item ℕ → List ℕ
item_bytes at (Plain i named) = spelling (is_odd at) 0 i named
item_bytes at (Jump op target) = op ∷ jump_byte (at + 2) target ∷ []
item_bytes at (Case low high otherwise places) =
    case_opcode ∷ pad_byte (flip (is_odd at)) 0 ++
    (spelled_word low ++ (spelled_word high ++ (jump_opcode ∷ jump_byte (table_place at) otherwise
    ∷ table_words (table_place at) places)))
item_bytes at (OneByte b) = b ∷ []

-- The size in bytes of an item that begins at offset `at` of its segment. The size does not depend on the targets.
abbrev pub size : {P : Type 0} → ℕ → Item P → ℕ
size at (Plain i named) = length (spelling (is_odd at) 0 i named)
size at (Jump op target) = 2
size at (Case low high otherwise places) = 7 + length (pad_byte (flip (is_odd at)) 0) + 2 * length places
size at (OneByte b) = 1

abbrev pub IsByte : ℕ → Type 0
IsByte b = b < 256

-- Is true if a short jump can lead to the target. The target must be at most 127 bytes after `next`, the offset of the
-- next instruction, or be an entry below 60.
abbrev pub IsNear : ℕ → Target ℕ → Type 0
IsNear next (To place) = (next ≤ place) × (place ≤ next + 127)
IsNear next (Through k) = k < 60

-- Is true if instructions of this form have the target of a jump as an operand.
abbrev pub names_place : Form → Bool
names_place forms.Sb = true
names_place forms.Jumps = true
names_place _ = false

-- States that `i` is an instruction that does not jump, and that the bytes `named` belong to it. Fields that its form
-- does not use are 0.
pub record IsPlain (i : Instr) (named : List ℕ) : Type 0 where
  pub opcode : i.op < 256
  pub form : names_place (form_of i.op) ≡ false
  pub ranges : in_range (form_of i.op) i ≡ true
  pub word : i.a < 65536
  pub fields : clear (form_of i.op) i ≡ i
  pub nowhere : (i.start ≡ 0) × (i.len ≡ 0)
  pub count : length named ≡ i.count
  pub bytes : AllByRecursion IsByte named

-- States that a case jump with these bounds and targets can be at offset `at`.
pub record IsCase (at low high : ℕ) (otherwise : Target ℕ) (places : List ℕ) : Type 0 where
  pub least : low < 65536
  pub greatest : high < 65536
  pub near : IsNear (table_place at) otherwise
  pub within : AllByRecursion (λ place. place < 65536) places
  pub count : length places ≡ jump_count low high

-- Is true if the item can be at offset `at`.
abbrev pub IsItem : ℕ → Item ℕ → Type 0
IsItem at (Plain i named) = IsPlain i named
IsItem at (Jump op target) = (form_of op ≡ forms.Sb) × (op < 256) × IsNear (at + 2) target
IsItem at (Case low high otherwise places) = IsCase at low high otherwise places
IsItem at (OneByte b) = IsByte b

abbrev pub is_instruction : {P : Type 0} → Item P → Bool
is_instruction (OneByte b) = false
is_instruction _ = true
