-- Lemmas about the text of short instructions, from their bytes.
use Rattle.std.proofs.Common.{◌≡◌, ◌<◌, ◌≤◌, ℕ, suc, ◌+◌, ◌-◌, ◌*◌, true, false, List, [], ◌∷◌, ◌++◌, length, drop, slice_index}
use Rattle.std.proofs.Common.{refl, sym, ap, ◌∙◌, arith, append-nil, append_assoc}
use Rattle.std.specs.Prelude.{Ok, nat_lt}
use Rattle.std.specs.Fmt.{decimal}
use Rattle.std.proofs.lemmas.Bool.{le-leb, lt-leb}
use Rattle.std.proofs.lemmas.List.{drop_more}
use Rattle.pm_opcode.specs.declared.instr.Instr.{Instr}
use Rattle.pm_opcode.specs.declared.operand_form.Form.TheVariants.{Plain, Ub, Sb, Db, B, DbB, W}
use Rattle.pm_opcode.specs.Table.{form_of, implied, mnemonic_of}
use Rattle.pm_opcode.specs.Spelling.{signed_byte}
use Rattle.pm_opcode.specs.Reading.{front_byte, front_number, front_word, read_byte, read_byte_and_number, read_number, read_signed, read_word, reading}
use Rattle.pm_code.specs.Text.{implied_texts, item_text, operands_text, signed_text}
use Rattle.pm_disasm.specs.Text.{text_at}

-- If `a` is below 128, then its text as a signed byte is its decimal text.
pub positive : (a : ℕ) → a < 128 → signed_text (signed_byte a) ≡ decimal a
positive a h =
    let low : nat_lt a 128 ≡ true = le-leb (suc a) 128 h in
    let below : nat_lt a 32768 ≡ true = le-leb (suc a) 32768 (omega (arith, h)) in
    rw (low, below) refl

pub negative : (a : ℕ) → 128 ≤ a → a < 256 → signed_text (signed_byte a) ≡ 45 ∷ decimal (256 - a)
negative a h top =
    let high : nat_lt a 128 ≡ false = lt-leb (suc a) 128 (omega (arith, h)) in
    let above : nat_lt (a + 65280) 32768 ≡ false = lt-leb (suc (a + 65280)) 32768 (omega (arith, h)) in
    let size : 65536 - (a + 65280) ≡ 256 - a = omega (arith, top) in
    rw (high, above, size) refl

-- The bytes from offset `at` on are the byte at `at`, followed by the bytes after it.
from_one : (bytes : List ℕ) (at : ℕ) → at < length bytes → drop at bytes ≡ slice_index bytes at ∷ drop (at + 1) bytes
from_one bytes at h = drop_more bytes at 0 h

from_two : (bytes : List ℕ) (at : ℕ) → at + 1 < length bytes → drop at bytes ≡ slice_index bytes at ∷ slice_index bytes (at + 1) ∷ drop (at + 1 + 1) bytes
from_two bytes at h = from_one bytes at (omega (arith, h)) ∙ ap (λ xs. slice_index bytes at ∷ xs) (from_one bytes (at + 1) h)

from_three : (bytes : List ℕ) (at : ℕ) → at + 2 < length bytes
    → drop at bytes ≡ slice_index bytes at ∷ slice_index bytes (at + 1) ∷ slice_index bytes (at + 2) ∷ drop (at + 2 + 1) bytes
from_three bytes at h =
    let same : at + 1 + 1 ≡ at + 2 = omega arith in
    from_two bytes at (omega (arith, h)) ∙ ap (λ xs. slice_index bytes at ∷ slice_index bytes (at + 1) ∷ xs)
    (ap (λ k. drop k bytes) same ∙ from_one bytes (at + 2) h)

-- An instruction with the opcode `op`, the operands `a` and `b`, and the size `len`.
abbrev short : ℕ → ℕ → ℕ → ℕ → Instr
short op a b len = record { op = op; a = a; b = b; c = 0; long = false; start = 0; count = 0; len = len }

plain_read : (bytes : List ℕ) (at op : ℕ) (rest : List ℕ) → drop at bytes ≡ op ∷ rest → form_of op ≡ Plain → reading bytes at ≡ Ok (short op 0 0 1)
unfolding reading front_byte
plain_read bytes at op rest d f =
    let len : suc (length rest) - length rest ≡ 1 = omega arith in
    rw (d, f, len) refl

byte_read : (bytes : List ℕ) (at op a : ℕ) (rest : List ℕ) → drop at bytes ≡ op ∷ a ∷ rest → form_of op ≡ Ub → reading bytes at ≡ Ok (short op a 0 2)
unfolding reading front_byte read_byte
byte_read bytes at op a rest d f =
    let len : suc (suc (length rest)) - length rest ≡ 2 = omega arith in
    rw (d, f, len) refl

display_read : (bytes : List ℕ) (at op a : ℕ) (rest : List ℕ) → drop at bytes ≡ op ∷ a ∷ rest → form_of op ≡ Db → reading bytes at ≡ Ok (short op a 0 2)
unfolding reading front_byte read_byte
display_read bytes at op a rest d f =
    let len : suc (suc (length rest)) - length rest ≡ 2 = omega arith in
    rw (d, f, len) refl

signed_read : (bytes : List ℕ) (at op a : ℕ) (rest : List ℕ) → drop at bytes ≡ op ∷ a ∷ rest → form_of op ≡ Sb
    → reading bytes at ≡ Ok (short op (signed_byte a) 0 2)
unfolding reading front_byte read_signed
signed_read bytes at op a rest d f =
    let len : suc (suc (length rest)) - length rest ≡ 2 = omega arith in
    rw (d, f, len) refl

number_read : (bytes : List ℕ) (at op a : ℕ) (rest : List ℕ) → drop at bytes ≡ op ∷ a ∷ rest → a < 128 → form_of op ≡ B
    → reading bytes at ≡ Ok (short op a 0 2)
unfolding reading front_byte front_number read_number
number_read bytes at op a rest d h f =
    let len : suc (suc (length rest)) - length rest ≡ 2 = omega arith in
    let low : nat_lt a 128 ≡ true = le-leb (suc a) 128 h in
    rw (d, f, low, len) refl

word_read : (bytes : List ℕ) (at op a b : ℕ) (rest : List ℕ) → drop at bytes ≡ op ∷ a ∷ b ∷ rest → form_of op ≡ W
    → reading bytes at ≡ Ok (short op (a + 256 * b) 0 3)
unfolding reading front_byte front_word read_word
word_read bytes at op a b rest d f =
    let len : suc (suc (suc (length rest))) - length rest ≡ 3 = omega arith in
    rw (d, f, len) refl

display_pair_read : (bytes : List ℕ) (at op a b : ℕ) (rest : List ℕ) → drop at bytes ≡ op ∷ a ∷ b ∷ rest → b < 128 → form_of op ≡ DbB
    → reading bytes at ≡ Ok (short op a b 3)
unfolding reading front_byte front_number read_byte_and_number
display_pair_read bytes at op a b rest d h f =
    let len : suc (suc (suc (length rest))) - length rest ≡ 3 = omega arith in
    let low : nat_lt b 128 ≡ true = le-leb (suc b) 128 h in
    rw (d, f, low, len) refl

pub plain_text : (bytes : List ℕ) (at : ℕ) → at < length bytes → form_of (slice_index bytes at) ≡ Plain
    → text_at bytes at ≡ mnemonic_of (slice_index bytes at) ++ operands_text (implied_texts (implied (slice_index bytes at)))
unfolding text_at item_text
plain_text bytes at h f = rw (plain_read bytes at _ _ (from_one bytes at h) f, f) refl

pub byte_text : (bytes : List ℕ) (at : ℕ) → at + 1 < length bytes → form_of (slice_index bytes at) ≡ Ub
    → text_at bytes at ≡ mnemonic_of (slice_index bytes at) ++ 32 ∷ decimal (slice_index bytes (at + 1))
unfolding text_at item_text
byte_text bytes at h f = rw (byte_read bytes at _ _ _ (from_two bytes at h) f, f, append-nil (decimal (slice_index bytes (at + 1)))) refl

pub display_text : (bytes : List ℕ) (at : ℕ) → at + 1 < length bytes → form_of (slice_index bytes at) ≡ Db
    → text_at bytes at ≡ mnemonic_of (slice_index bytes at) ++ 32 ∷ decimal (slice_index bytes (at + 1))
unfolding text_at item_text
display_text bytes at h f = rw (display_read bytes at _ _ _ (from_two bytes at h) f, f, append-nil (decimal (slice_index bytes (at + 1)))) refl

pub signed_byte_text : (bytes : List ℕ) (at : ℕ) → at + 1 < length bytes → form_of (slice_index bytes at) ≡ Sb
    → text_at bytes at ≡ mnemonic_of (slice_index bytes at) ++ 32 ∷ signed_text (signed_byte (slice_index bytes (at + 1)))
unfolding text_at item_text
signed_byte_text bytes at h f =
    rw (signed_read bytes at _ _ _ (from_two bytes at h) f, f, append-nil (signed_text (signed_byte (slice_index bytes (at + 1))))) refl

pub number_byte_text : (bytes : List ℕ) (at : ℕ) → at + 1 < length bytes → slice_index bytes (at + 1) < 128 → form_of (slice_index bytes at) ≡ B
    → text_at bytes at ≡ mnemonic_of (slice_index bytes at) ++ 32 ∷ decimal (slice_index bytes (at + 1))
unfolding text_at item_text
number_byte_text bytes at h low f =
    let a = slice_index bytes (at + 1) in
    rw (number_read bytes at _ _ _ (from_two bytes at h) low f, f, append-nil (decimal a ++ []), append-nil (decimal a)) refl

pub word_text : (bytes : List ℕ) (at : ℕ) → at + 2 < length bytes → form_of (slice_index bytes at) ≡ W
    → text_at bytes at ≡ mnemonic_of (slice_index bytes at) ++ 32 ∷ decimal (slice_index bytes (at + 1) + 256 * slice_index bytes (at + 2))
unfolding text_at item_text
word_text bytes at h f =
    rw (word_read bytes at _ _ _ _ (from_three bytes at h) f, f, append-nil (decimal (slice_index bytes (at + 1) + 256 * slice_index bytes (at + 2)))) refl

pub display_pair_text : (bytes : List ℕ) (at : ℕ) → at + 2 < length bytes → slice_index bytes (at + 2) < 128 → form_of (slice_index bytes at) ≡ DbB
    → text_at bytes at ≡ mnemonic_of (slice_index bytes at) ++ 32 ∷ (decimal (slice_index bytes (at + 1)) ++ 44 ∷ 32 ∷ decimal (slice_index bytes (at + 2)))
unfolding text_at item_text
display_pair_text bytes at h low f =
    let b = slice_index bytes (at + 2) in
    rw (display_pair_read bytes at _ _ _ _ (from_three bytes at h) low f, f, append-nil (decimal b ++ []), append-nil (decimal b)) refl

-- If a name and the text after it are appended to a page, then their concatenation is appended.
pub named : (page new name rest text : List ℕ) → new ≡ page ++ name ++ rest → text ≡ name ++ rest → new ≡ page ++ text
named page new name rest text e t = e ∙ append_assoc page name rest ∙ sym (ap (λ u. page ++ u) t)

pub named_pair : (page new name a b text : List ℕ) → new ≡ page ++ name ++ a ++ b → text ≡ name ++ (a ++ b) → new ≡ page ++ text
named_pair page new name a b text e t = e ∙ append_assoc (page ++ name) a b ∙ append_assoc page name (a ++ b) ∙ sym (ap (λ u. page ++ u) t)
