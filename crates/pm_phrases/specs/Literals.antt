-- The texts of constants that are stored in the code.
use Rattle.std.specs.Prelude.{ℕ, ◌/◌, ◌%◌, Bool, false, ◌==◌, ◌&&◌, ◌||◌, nat_le, nat_lt, if◌then◌else◌}
use Rattle.std.specs.Prelude.{List, [], ◌∷◌, ◌++◌, codes, Option, Some, None}
use Rattle.std.specs.List.{flat_map}
use Rattle.pm_families.specs.declared.families.Literal.{Literal}
use Rattle.pm_families.specs.declared.families.Literal.TheVariants as literal
use Rattle.pm_code.specs.Text.{hex_digit, quoted}
use Rattle.pm_opcode.specs.declared.operation.Operation.{Operation}
use Rattle.pm_opcode.specs.declared.operation.Operation.TheVariants as operation
use Rattle.pm_opcode.specs.Operations.{operation_of}
use Rattle.pm_code.specs.Item.{Item}
use Rattle.pm_code.specs.Item.Item.{Plain}
use Rattle.pm_phrases.specs.declared.operand.Form.{Form}
use Rattle.pm_phrases.specs.declared.operand.Form.TheVariants as form
use Rattle.pm_phrases.specs.Shown.{Shown, standing, value_text}

-- Is true if `byte` is shown unchanged between apostrophes: 32 to 126, except the apostrophe and the backslash.
abbrev pub is_own : ℕ → Bool
is_own byte = if (byte == 39) || (byte == 92) then false else nat_le 32 byte && nat_le byte 126

-- The text of `byte` as a backslash and two hexadecimal digits.
unfoldable pub escape : ℕ → List ℕ
escape byte = 92 ∷ hex_digit (byte / 16) ∷ hex_digit (byte % 16) ∷ []

-- The text of `byte` between apostrophes. An apostrophe is doubled.
abbrev pub apostrophed : ℕ → List ℕ
apostrophed byte =
    if is_own byte then byte ∷ []
    else if byte == 39 then 39 ∷ 39 ∷ []
    else escape byte

abbrev pub apostrophes : List ℕ → List ℕ
apostrophes bytes = 39 ∷ flat_map apostrophed bytes ++ 39 ∷ []

-- The text of LSA or LPA, to which the characters `named` belong.
unfoldable pub literal_alone : List ℕ → Literal → Option Shown
literal_alone named (literal.String start) = Some (standing form.Literal (apostrophes named))
literal_alone named (literal.Characters start) = Some (standing form.Literal (quoted named))
literal_alone named (literal.Words start count) = None

abbrev pub words_by : Operation → List ℕ → Option (List ℕ)
words_by (operation.Literal (literal.Words start count)) named = Some named
words_by _ named = None

-- The bytes of the words of an item if it is an LDC, else `None`.
abbrev pub words_in : Item ℕ → Option (List ℕ)
words_in (Plain i named) = words_by (operation_of i) named
words_in _ = None

abbrev pub character_by : Form → Shown → ℕ → List ℕ
character_by (form.Constant c) s strength =
    if nat_lt c 256 && is_own c then codes "CHR'" ++ c ∷ codes "'" else value_text s strength
character_by _ s strength = value_text s strength

-- The text of operand `s` next to an operator whose other operand has the given form. Next to a byte, a constant is
-- shown as a character if it is printable.
unfoldable pub beside : Form → Shown → ℕ → List ℕ
beside form.Byte s strength = character_by s.form s strength
beside _ s strength = value_text s strength
