-- The texts of operations on bytes, characters of strings, and bits of words.
use Rattle.std.specs.Prelude.{List, ℕ, ◌++◌, codes, Option, Some, None}
use Rattle.std.specs.Fmt.{decimal}
use Rattle.pm_families.specs.declared.families.Byte.{Byte}
use Rattle.pm_families.specs.declared.families.Byte.TheVariants as byte
use Rattle.pm_families.specs.declared.families.Field.{Field}
use Rattle.pm_families.specs.declared.families.Field.TheVariants as field
use Rattle.pm_families.specs.declared.families.Text.{Text}
use Rattle.pm_families.specs.declared.families.Text.TheVariants as text
use Rattle.pm_phrases.specs.declared.operand.Form.{Form}
use Rattle.pm_phrases.specs.declared.operand.Form.TheVariants as form
use Rattle.pm_phrases.specs.Literals.{beside}
use Rattle.pm_phrases.specs.Shown.{Shown, place_text, standing, value, value_text}

-- The text of a store of the value `v` to the byte or the bits that `a` denotes.
unfoldable pub part_stored : Form → Shown → Shown → Shown
part_stored kind a v = value 0 (a.text ++ (codes " := " ++ beside kind v 0))

abbrev pub if_character : Form → Shown → Option Shown
if_character form.Character s = Some s
if_character _ s = None

abbrev pub if_bits : Form → Shown → Option Shown
if_bits form.Bits s = Some s
if_bits _ s = None

-- The text of LDB with one operand, the pair of address and index that IXS leaves.
unfoldable pub byte_one : Byte → Shown → Option Shown
byte_one byte.Load a = if_character a.form (standing form.Byte a.text)
byte_one byte.Store a = None

-- The text of LDB with an address and an index, or of STB with the result of IXS and a value.
unfoldable pub byte_two : Byte → Shown → Shown → Option Shown
byte_two byte.Load a i =
    Some (standing form.Byte (place_text a ++ (codes ".byte[" ++ (value_text i 0 ++ codes "]"))))
byte_two byte.Store a v = if_character a.form (part_stored form.Byte a v)

-- The text of STB with an address, an index and a value.
unfoldable pub byte_three : Byte → Shown → Shown → Shown → Option Shown
byte_three byte.Load a i v = None
byte_three byte.Store a i v =
    Some (value 0 (place_text a ++ (codes ".byte[" ++ (value_text i 0 ++ (codes "] := " ++ beside form.Byte v 0)))))

-- The text of IXS or SAS with two operands.
unfoldable pub text_two : Text → Shown → Shown → Shown
text_two text.Index a i =
    standing form.Character (place_text a ++ (codes ".char[" ++ (value_text i 0 ++ codes "]")))
text_two (text.Assign n) a b =
    value 0 (place_text a ++ (codes " := string[" ++ (decimal n ++ (codes "] " ++ place_text b))))

-- The text of LDP with one operand, the address, position and count of bits that IXP leaves.
unfoldable pub field_one : Field → Shown → Option Shown
field_one field.Load a = if_bits a.form (value 9 a.text)
field_one _ a = None

unfoldable pub packed : ℕ → ℕ → Shown → Shown → Shown
packed per_word width a i =
    standing form.Bits (place_text a ++ (codes ".packed[" ++ (value_text i 0 ++ (codes ": "
    ++ (decimal per_word ++ (codes " of " ++ (decimal width ++ codes " bits]")))))))

-- The text of IXP with an address and an index, or of STP with the result of IXP and a value.
unfoldable pub field_two : Field → Shown → Shown → Option Shown
field_two (field.Index per_word width) a i = Some (packed per_word width a i)
field_two field.Store a v = if_bits a.form (part_stored form.Bits a v)
field_two field.Load a i = None

-- The text of `r` bits from bit `k` of the word at the address `a`, without the closing bracket.
abbrev pub bits_text : Shown → Shown → Shown → List ℕ
bits_text a k r = place_text a ++ (codes ".bits[" ++ (value_text k 0 ++ (codes ": " ++ value_text r 0)))

-- The text of LDP with an address `a`, a first bit `k` and a count of bits `r`.
unfoldable pub field_three : Field → Shown → Shown → Shown → Option Shown
field_three field.Load a k r = Some (value 9 (bits_text a k r ++ codes "]"))
field_three _ a k r = None

-- The text of STP with an address `a`, a first bit `k`, a count of bits `r` and a value `v`.
unfoldable pub field_four : Field → Shown → Shown → Shown → Shown → Option Shown
field_four field.Store a k r v =
    Some (value 0 (bits_text a k r ++ (codes "] := " ++ value_text v 0)))
field_four _ a k r v = None
