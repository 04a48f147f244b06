-- What the text of an operand denotes (its form), and how the text is used as a value.
use Rattle.std.specs.Prelude.{ℕ, Bool, true, false, List, [], ◌∷◌, ◌++◌, nat_lt, if◌then◌else◌, codes, Option, None}
use Rattle.std.specs.List.{flat_map}
use Rattle.pm_code.specs.Item.{Item}
use Rattle.pm_code.specs.Shown.{shown_item}
use Rattle.pm_phrases.specs.declared.operand.Form.{Form}
use Rattle.pm_phrases.specs.declared.operand.Form.TheVariants as form

-- The text of an operand, what the text denotes (its form), and the bytes of the words if the operand is an LDC.
pub record Shown : Type 0 where
  pub text : List ℕ
  pub form : Form
  pub words : Option (List ℕ)

-- The precedence of the constant `w`. A negative number has a lower precedence, because of its minus sign.
abbrev pub constant_strength : ℕ → ℕ
constant_strength w = if nat_lt w 32768 then 9 else 4

-- The precedence of an operand that is used as a value. An operand of precedence 9 never needs parentheses.
abbrev pub strength_of : Form → ℕ
strength_of (form.Value k) = k
strength_of (form.Set k) = k
strength_of (form.Constant w) = constant_strength w
strength_of form.Byte = 9
strength_of form.Literal = 9
strength_of form.Variable = 8
strength_of form.Place = 8
strength_of form.Element = 8
strength_of form.Character = 8
strength_of form.Bits = 8

-- The prefix that makes a value of a text of this form: `@` if the text denotes what is at an address.
abbrev pub lead_of : Form → List ℕ
lead_of (form.Value k) = codes ""
lead_of (form.Set k) = codes ""
lead_of (form.Constant w) = codes ""
lead_of form.Byte = codes ""
lead_of form.Literal = codes ""
lead_of form.Variable = codes "@"
lead_of form.Place = codes "@"
lead_of form.Element = codes "@"
lead_of form.Character = codes "@"
lead_of form.Bits = codes "@"

-- Is true if a text of this form denotes what is at an address.
abbrev pub is_place : Form → Bool
is_place (form.Value k) = false
is_place (form.Set k) = false
is_place (form.Constant w) = false
is_place form.Byte = false
is_place form.Literal = true
is_place form.Variable = true
is_place form.Place = true
is_place form.Element = true
is_place form.Character = false
is_place form.Bits = false

-- The text of operand `s` as a value next to an operator of the precedence `beside`. The operand is put in parentheses
-- if its own precedence is lower.
unfoldable pub value_text : Shown → ℕ → List ℕ
value_text s beside =
    if nat_lt (strength_of s.form) beside then codes "(" ++ (lead_of s.form ++ (s.text ++ codes ")"))
    else lead_of s.form ++ s.text

-- The text of what is at the address that operand `s` denotes. The text of a value is followed by `^`.
unfoldable pub place_text : Shown → List ℕ
place_text s = if is_place s.form then s.text else value_text s 9 ++ codes "^"

-- The text of the target of a store to the address `s`. If `s` is a variable `x`, the text is `(@x)^`, because `x := a`
-- is the store to the variable itself.
abbrev pub stored_by : Form → Shown → List ℕ
stored_by form.Variable s = value_text s 9 ++ codes "^"
stored_by _ s = place_text s

unfoldable pub stored_text : Shown → List ℕ
stored_text s = stored_by s.form s

abbrev pub standing : Form → List ℕ → Shown
standing form text = record { text = text; form = form; words = None }

abbrev pub value : ℕ → List ℕ → Shown
value strength text = standing (form.Value strength) text

-- The text of each further argument, after a comma and a space. The definition that follows has the whole argument
-- list.
abbrev pub further : Shown → List ℕ
further s = codes ", " ++ value_text s 0

abbrev pub arguments : List Shown → List ℕ
arguments [] = []
arguments (s ∷ ss) = codes "(" ++ (value_text s 0 ++ (flat_map further ss ++ codes ")"))

-- The text of `item` in braces as in the disassembly, followed by its operands.
abbrev pub braced : Item ℕ → List Shown → List ℕ
braced item operands = codes "{" ++ (shown_item item ++ (codes "}" ++ arguments operands))
