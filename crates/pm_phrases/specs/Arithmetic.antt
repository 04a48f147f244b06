-- The texts of operations on words as integers.
use Rattle.std.specs.Prelude.{ℕ, ◌+◌, List, ◌++◌, codes, Option, Some, None}
use Rattle.pm_families.specs.declared.families.Arithmetic.{Arithmetic}
use Rattle.pm_families.specs.declared.families.Arithmetic.TheVariants as arithmetic
use Rattle.pm_families.specs.declared.families.Unary.{Unary}
use Rattle.pm_families.specs.declared.families.Unary.TheVariants as unary
use Rattle.pm_code.specs.Text.{signed_text}
use Rattle.pm_phrases.specs.declared.operand.Form.{Form}
use Rattle.pm_phrases.specs.declared.operand.Form.TheVariants as form
use Rattle.pm_phrases.specs.declared.spelling.Spelling.{Spelling}
use Rattle.pm_phrases.specs.declared.spelling.Spelling.TheVariants as spelling
use Rattle.pm_phrases.specs.Literals.{beside}
use Rattle.pm_phrases.specs.Shown.{Shown, constant_strength, standing, value, value_text}
use Rattle.pm_phrases.specs.Signs.{binary_sign, binary_strength, relation_sign}
use Rattle.pm_phrases.specs.Spelled.{marks}

-- The text of an operator between `a` and `b`. The right operand needs a higher precedence, because operators of equal
-- precedence are applied from left to right.
unfoldable pub between : Shown → List ℕ → ℕ → Shown → Shown
between a sign strength b =
    value strength (value_text a strength ++ (codes " " ++ (sign ++ (codes " " ++ value_text b (strength + 1)))))

-- The text of a comparison of `a` and `b`. A number that is compared with a byte may be shown as a character.
unfoldable pub compared : Shown → List ℕ → Shown → Shown
compared a sign b =
    value 1 (beside b.form a 1 ++ (codes " " ++ (sign ++ (codes " " ++ beside a.form b 2))))

-- The form of the number `w`. It is a constant only in its shortest encoding.
abbrev pub constant_form : Spelling → ℕ → Form
constant_form spelling.Shortest w = form.Constant w
constant_form _ w = form.Value (constant_strength w)

-- The text of SLDC, LDCI or LDCN, which have no operands.
unfoldable pub arithmetic_alone : Spelling → Arithmetic → Option Shown
arithmetic_alone s (arithmetic.Constant w) = Some (standing (constant_form s w) (signed_text w ++ marks s))
arithmetic_alone s arithmetic.Nil = Some (value 9 (codes "NIL"))
arithmetic_alone s _ = None

-- The text of ABI, NGI, SQI or LNOT with the operand `a`.
unfoldable pub unary_on : Unary → Shown → Shown
unary_on unary.Absolute a = value 9 (codes "ABS(" ++ (value_text a 0 ++ codes ")"))
unary_on unary.Negate a = value 4 (codes "-(" ++ (value_text a 0 ++ codes ")"))
unary_on unary.Square a = value 9 (codes "SQR(" ++ (value_text a 0 ++ codes ")"))
unary_on unary.Complement a = value 4 (codes "NOT " ++ value_text a 4)

unfoldable pub arithmetic_one : Arithmetic → Shown → Option Shown
arithmetic_one (arithmetic.OnOne o) a = Some (unary_on o a)
arithmetic_one _ a = None

abbrev pub words_two : Arithmetic → Shown → Shown → Option Shown
words_two (arithmetic.OnTwo o) a b = Some (between a (binary_sign o) (binary_strength o) b)
words_two (arithmetic.Compare r) a b = Some (compared a (relation_sign r) b)
words_two _ a b = None

abbrev pub unless_set : Form → Option Shown → Option Shown
unless_set (form.Set k) shown = None
unless_set _ shown = shown

-- The text of ADI and similar, or of EQUI and similar, with the operands `a` and `b`. If `a` is a set, the result is
-- `None`, because the same operators have another meaning for sets.
unfoldable pub arithmetic_two : Arithmetic → Shown → Shown → Option Shown
arithmetic_two o a b = unless_set a.form (words_two o a b)

-- The text of CHK with the value `a` and the bounds `b` and `c`.
unfoldable pub arithmetic_three : Arithmetic → Shown → Shown → Shown → Option Shown
arithmetic_three arithmetic.Check a b c =
    Some (value 9 (codes "CHECK("
    ++ (value_text a 0 ++ (codes ", " ++ (value_text b 0 ++ (codes ".." ++ (value_text c 0 ++ codes ")")))))))
arithmetic_three _ a b c = None
