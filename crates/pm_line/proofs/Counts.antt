-- If an instruction or a directive has too few or too many operands, then the operands are malformed.
use Rattle.std.proofs.Common.{◌≡◌, ℕ, ◌<◌, List, [], ◌∷◌, length, None, Some, refl, arith, Bor}
use Rattle.std.proofs.lemmas.List.{length-map}
use Rattle.pm_source.specs.Line.{byte_and_number, byte_operand, case_jump, entry_operands, one_comparison, one_jump, one_long_number, one_number}
use Rattle.pm_source.specs.Line.{one_text, procedure_operands, segment_operands, short_instruction, sized_comparison, two_bytes, word_operand}
use Rattle.pm_line.specs.Views.{IsNotFour, IsNotOne, IsNotTwo, text_seen, texts_seen}

pub no_jump : (op : ℕ) (ts : List (List ℕ)) → IsNotOne ts → one_jump op ts ≡ None
no_jump op [] n = refl
no_jump op (t ∷ []) n = absurd n
no_jump op (t ∷ u ∷ ts) n = refl

pub no_short : (op : ℕ) (range : ℕ × ℕ) (ts : List (List ℕ)) → IsNotOne ts → short_instruction op range ts ≡ None
no_short op range [] n = refl
no_short op range (t ∷ []) n = absurd n
no_short op range (t ∷ u ∷ ts) n = refl

pub no_byte : (op : ℕ) (ts : List (List ℕ)) → IsNotOne ts → one_number byte_operand op ts ≡ None
no_byte op [] n = refl
no_byte op (t ∷ []) n = absurd n
no_byte op (t ∷ u ∷ ts) n = refl

pub no_word : (op : ℕ) (ts : List (List ℕ)) → IsNotOne ts → one_number word_operand op ts ≡ None
no_word op [] n = refl
no_word op (t ∷ []) n = absurd n
no_word op (t ∷ u ∷ ts) n = refl

pub no_long_number : (op : ℕ) (ts : List (List ℕ)) → IsNotOne ts → one_long_number op ts ≡ None
no_long_number op [] n = refl
no_long_number op (t ∷ []) n = absurd n
no_long_number op (t ∷ u ∷ ts) n = refl

pub no_text : (op : ℕ) (ts : List (List ℕ)) → IsNotOne ts → one_text op ts ≡ None
no_text op [] n = refl
no_text op (t ∷ []) n = absurd n
no_text op (t ∷ u ∷ ts) n = refl

pub no_comparison : (op : ℕ) (ts : List (List ℕ)) → IsNotOne ts → one_comparison op ts ≡ None
no_comparison op [] n = refl
no_comparison op (t ∷ []) n = absurd n
no_comparison op (t ∷ u ∷ ts) n = refl

pub no_entry : (line : ℕ) (ts : List (List ℕ)) → IsNotOne ts → entry_operands line ts ≡ None
no_entry line [] n = refl
no_entry line (t ∷ []) n = absurd n
no_entry line (t ∷ u ∷ ts) n = refl

pub no_sized : (op type : ℕ) (ts : List (List ℕ)) → IsNotOne ts → sized_comparison op ts (Some type) ≡ None
no_sized op type [] n = refl
no_sized op type (t ∷ []) n = absurd n
no_sized op type (t ∷ u ∷ ts) n = refl

pub no_bytes : (op : ℕ) (ts : List (List ℕ)) → IsNotTwo ts → two_bytes op ts ≡ None
no_bytes op [] n = refl
no_bytes op (t ∷ []) n = refl
no_bytes op (t ∷ u ∷ []) n = absurd n
no_bytes op (t ∷ u ∷ v ∷ ts) n = refl

pub no_byte_and_number : (op : ℕ) (ts : List (List ℕ)) → IsNotTwo ts → byte_and_number op ts ≡ None
no_byte_and_number op [] n = refl
no_byte_and_number op (t ∷ []) n = refl
no_byte_and_number op (t ∷ u ∷ []) n = absurd n
no_byte_and_number op (t ∷ u ∷ v ∷ ts) n = refl

pub no_segment : (ts : List (List ℕ)) → IsNotTwo ts → segment_operands ts ≡ None
no_segment [] n = refl
no_segment (t ∷ []) n = refl
no_segment (t ∷ u ∷ []) n = absurd n
no_segment (t ∷ u ∷ v ∷ ts) n = refl

pub no_procedure : (ts : List (List ℕ)) → IsNotFour ts → procedure_operands ts ≡ None
no_procedure [] n = refl
no_procedure (t ∷ []) n = refl
no_procedure (t ∷ u ∷ []) n = refl
no_procedure (t ∷ u ∷ v ∷ []) n = refl
no_procedure (t ∷ u ∷ v ∷ w ∷ []) n = absurd n
no_procedure (t ∷ u ∷ v ∷ w ∷ x ∷ ts) n = refl

pub no_case : (ts : List (List ℕ)) → length ts < 3 → case_jump ts ≡ None
no_case [] n = refl
no_case (t ∷ []) n = refl
no_case (t ∷ u ∷ []) n = refl
no_case (t ∷ u ∷ v ∷ ts) n = absurd (omega (arith, n))

pub no_case_texts : (ts : List (Bor (List ℕ))) → length ts < 3 → case_jump (texts_seen ts) ≡ None
no_case_texts ts n = no_case (texts_seen ts) (omega (arith, n, length-map ts text_seen))
