-- The text of instructions.
use Rattle.std.specs.Prelude.{ℕ, ◌+◌, ◌-◌, ◌/◌, ◌%◌, ◌==◌, ◌&&◌, ◌||◌, nat_lt, nat_le, if◌then◌else◌, Bool, false}
use Rattle.std.specs.Prelude.{List, [], ◌∷◌, ◌++◌, map, codes, Option, None, Some}
use Rattle.std.specs.List.{flat_map}
use Rattle.std.specs.Fmt.{decimal}
use Rattle.pm_opcode.specs.declared.operand_form.Form.{Form}
use Rattle.pm_opcode.specs.declared.operand_form.Form.TheVariants.{Plain, Ub, Sb, Db, B, UbB, UbUb, DbB}
use Rattle.pm_opcode.specs.declared.operand_form.Form.TheVariants.{W, Chars, Words, Jumps, Typed, Unassigned}
use Rattle.pm_opcode.specs.declared.instr.Instr.{Instr}
use Rattle.pm_opcode.specs.Table.{form_of, implied, mnemonic_of}
use Rattle.pm_words.specs.Words.{words_of}

-- The text of `word` as a signed number.
abbrev pub signed_text : ℕ → List ℕ
signed_text word = if nat_lt word 32768 then decimal word else 45 ∷ decimal (65536 - word)

-- The text of the number `n`. If `long` is true and `n` is below 128, `!` follows: the number has two bytes, but one
-- suffices.
abbrev pub number_text : ℕ → Bool → List ℕ
number_text n long = decimal n ++ (if long && nat_lt n 128 then codes "!" else [])

-- Is true if `byte` is shown unchanged inside quotes: 32 to 126, except the quote and the backslash.
abbrev pub is_plain : ℕ → Bool
is_plain byte = if (byte == 34) || (byte == 92) then false else nat_le 32 byte && nat_le byte 126

-- The character of the hexadecimal digit `d`, which is below 16. Letters are lowercase.
abbrev pub hex_digit : ℕ → ℕ
hex_digit d = if nat_lt d 10 then 48 + d else 87 + d

-- The text of `byte` inside quotes: unchanged, or a backslash and two hexadecimal digits.
abbrev pub escaped : ℕ → List ℕ
escaped byte = if is_plain byte then byte ∷ [] else 92 ∷ hex_digit (byte / 16) ∷ hex_digit (byte % 16) ∷ []

abbrev pub quoted : List ℕ → List ℕ
quoted bytes = 34 ∷ flat_map escaped bytes ++ 34 ∷ []

-- The text of the operand type `type` of a comparison, followed by `size` if operands of this type have a size.
abbrev pub type_text : ℕ → ℕ → Bool → List ℕ
type_text type size long =
    if type == 2 then codes "REAL"
    else if type == 4 then codes "STR"
    else if type == 6 then codes "BOOL"
    else if type == 8 then codes "SET"
    else if type == 10 then codes "BYTES " ++ number_text size long
    else if type == 12 then codes "WORDS " ++ number_text size long
    else decimal type

abbrev pub implied_texts : Option ℕ → List (List ℕ)
implied_texts None = []
implied_texts (Some n) = decimal n ∷ []

-- The text of each operand of instruction `i`, by its form. The bytes `named` belong to the instruction.
abbrev pub operand_texts : Form → Instr → List ℕ → List (List ℕ)
operand_texts Plain i named = implied_texts (implied i.op)
operand_texts Ub i named = decimal i.a ∷ []
operand_texts Sb i named = signed_text i.a ∷ []
operand_texts Db i named = decimal i.a ∷ []
operand_texts B i named = number_text i.a i.long ∷ []
operand_texts UbB i named = decimal i.a ∷ number_text i.b i.long ∷ []
operand_texts UbUb i named = decimal i.a ∷ decimal i.b ∷ []
operand_texts DbB i named = decimal i.a ∷ number_text i.b i.long ∷ []
operand_texts W i named = decimal i.a ∷ []
operand_texts Chars i named = quoted named ∷ []
operand_texts Words i named = map decimal (words_of named)
operand_texts Jumps i named = signed_text i.a ∷ signed_text i.b ∷ decimal i.c ∷ []
operand_texts Typed i named = type_text i.a i.b i.long ∷ []
operand_texts Unassigned i named = []

-- The text of further operands, each after a comma and a space.
abbrev pub more_operands : List (List ℕ) → List ℕ
more_operands [] = []
more_operands (t ∷ ts) = 44 ∷ 32 ∷ t ++ more_operands ts

-- The text of all operands after a mnemonic. The first one follows a space, and each further one a comma and a space.
abbrev pub operands_text : List (List ℕ) → List ℕ
operands_text [] = []
operands_text (t ∷ ts) = 32 ∷ t ++ more_operands ts

-- The text of instruction `i`, to which the bytes `named` belong: its mnemonic and its operands.
unfoldable pub item_text : Instr → List ℕ → List ℕ
item_text i named = mnemonic_of i.op ++ operands_text (operand_texts (form_of i.op) i named)
