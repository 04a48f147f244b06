-- The text of an item, selected by the number of its operands and by the family of its operation. A family is a group
-- of instructions that do similar things. The result is `None` if the item has no special text.
use Rattle.std.specs.Prelude.{ℕ, List, [], ◌∷◌, Option, Some, None}
use Rattle.pm_families.specs.declared.families.Value.TheVariants as value
use Rattle.pm_opcode.specs.declared.instr.Instr.{Instr}
use Rattle.pm_opcode.specs.declared.operation.Operation.{Operation}
use Rattle.pm_opcode.specs.declared.operation.Operation.TheVariants as operation
use Rattle.pm_opcode.specs.Operations.{operation_of}
use Rattle.pm_code.specs.Item.{Item}
use Rattle.pm_code.specs.Item.Item.{Plain, Jump, Case, OneByte}
use Rattle.pm_phrases.specs.declared.around.Around.{Around}
use Rattle.pm_phrases.specs.declared.around.Pops.{Pops}
use Rattle.pm_phrases.specs.declared.around.Pops.TheVariants as pops
use Rattle.pm_phrases.specs.declared.spelling.Spelling.{Spelling}
use Rattle.pm_phrases.specs.Arithmetic.{arithmetic_alone, arithmetic_one, arithmetic_three, arithmetic_two}
use Rattle.pm_phrases.specs.Calls.{returned}
use Rattle.pm_phrases.specs.Cases.{case_on}
use Rattle.pm_phrases.specs.Comparisons.{compare_two}
use Rattle.pm_phrases.specs.Jumps.{jump_alone, jump_one, jump_two}
use Rattle.pm_phrases.specs.Literals.{literal_alone}
use Rattle.pm_phrases.specs.Parts.{byte_one, byte_three, byte_two, field_four, field_one, field_three, field_two}
use Rattle.pm_phrases.specs.Parts.{text_two}
use Rattle.pm_phrases.specs.Pointers.{pointer_one, pointer_two}
use Rattle.pm_phrases.specs.Sets.{set_four, set_one, set_three, set_two}
use Rattle.pm_phrases.specs.Shown.{Shown}
use Rattle.pm_phrases.specs.Spelled.{spelling_of}
use Rattle.pm_phrases.specs.Variables.{variable_alone, variable_one}

-- The text of an operation without operands. The bytes `named` belong to its instruction.
abbrev pub alone_by : Around → Spelling → List ℕ → Operation → Option Shown
alone_by around s named (operation.Arithmetic o) = arithmetic_alone s o
alone_by around s named (operation.Variable o) = variable_alone around s o
alone_by around s named (operation.Literal o) = literal_alone named o
alone_by around s named (operation.Return o) = Some (returned o)
alone_by around s named _ = None

abbrev pub one_by : Around → Spelling → Shown → Operation → Option Shown
one_by around s a (operation.Arithmetic o) = arithmetic_one o a
one_by around s a (operation.Variable o) = variable_one around s o a
one_by around s a (operation.Pointer o) = pointer_one s o a
one_by around s a (operation.Value (value.Byte o)) = byte_one o a
one_by around s a (operation.Value (value.Field o)) = field_one o a
one_by around s a (operation.Value (value.Set o)) = set_one o a
one_by around s a _ = None

abbrev pub two_by : Spelling → Shown → Shown → Operation → Option Shown
two_by s a b (operation.Arithmetic o) = arithmetic_two o a b
two_by s a b (operation.Pointer o) = pointer_two s o a b
two_by s a b (operation.Value (value.Byte o)) = byte_two o a b
two_by s a b (operation.Value (value.Text o)) = Some (text_two o a b)
two_by s a b (operation.Value (value.Field o)) = field_two o a b
two_by s a b (operation.Value (value.Set o)) = set_two o a b
two_by s a b (operation.Value (value.Compare r kind)) = Some (compare_two s r kind a b)
two_by s a b _ = None

abbrev pub three_by : Shown → Shown → Shown → Operation → Option Shown
three_by a b c (operation.Arithmetic o) = arithmetic_three o a b c
three_by a b c (operation.Value (value.Byte o)) = byte_three o a b c
three_by a b c (operation.Value (value.Field o)) = field_three o a b c
three_by a b c (operation.Value (value.Set o)) = set_three o a b c
three_by a b c _ = None

abbrev pub four_by : Shown → Shown → Shown → Shown → Operation → Option Shown
four_by a b c d (operation.Value (value.Field o)) = field_four o a b c d
four_by a b c d (operation.Value (value.Set o)) = set_four o a b c d
four_by a b c d _ = None

-- The text of instruction `i` without operands. It depends on the operation and the encoding of `i`. The definitions
-- that follow are for one operand and more.
unfoldable pub plain_none : Around → Instr → List ℕ → Option Shown
plain_none around i named = alone_by around (spelling_of i (operation_of i)) named (operation_of i)

unfoldable pub plain_one : Around → Instr → Shown → Option Shown
plain_one around i a = one_by around (spelling_of i (operation_of i)) a (operation_of i)

unfoldable pub plain_two : Instr → Shown → Shown → Option Shown
plain_two i a b = two_by (spelling_of i (operation_of i)) a b (operation_of i)

unfoldable pub of_none : Around → Item ℕ → Option Shown
of_none around (Plain i named) = plain_none around i named
of_none around (Jump op target) = jump_alone op target
of_none around _ = None

unfoldable pub of_one : Around → Item ℕ → Shown → Option Shown
of_one around (Plain i named) a = plain_one around i a
of_one around (Jump op target) a = jump_one op target a
of_one around (Case low high otherwise places) a = Some (case_on low high otherwise places a)
of_one around (OneByte b) a = None

unfoldable pub of_two : Item ℕ → Shown → Shown → Option Shown
of_two (Plain i named) a b = plain_two i a b
of_two (Jump op target) a b = jump_two op target a b
of_two _ a b = None

-- The operation of the item's instruction, or `Nothing` if the item is not a plain instruction.
unfoldable pub operation_in : Item ℕ → Operation
operation_in (Plain i named) = operation_of i
operation_in _ = operation.Nothing

unfoldable pub of_three : Item ℕ → Shown → Shown → Shown → Option Shown
of_three item a b c = three_by a b c (operation_in item)

unfoldable pub of_four : Item ℕ → Shown → Shown → Shown → Shown → Option Shown
of_four item a b c d = four_by a b c d (operation_in item)

unfoldable pub by_count : Around → Item ℕ → List Shown → Option Shown
by_count around item [] = of_none around item
by_count around item (a ∷ []) = of_one around item a
by_count around item (a ∷ b ∷ []) = of_two item a b
by_count around item (a ∷ b ∷ c ∷ []) = of_three item a b c
by_count around item (a ∷ b ∷ c ∷ d ∷ []) = of_four item a b c d
by_count around item (a ∷ b ∷ c ∷ d ∷ e ∷ more) = None

-- The stand-ins for missing operands as a list, the first one first.
abbrev pub in_order : Pops → List Shown
in_order pops.None = []
in_order (pops.One p) = p.now ∷ []
in_order (pops.Two p q) = p.now ∷ q.now ∷ []
