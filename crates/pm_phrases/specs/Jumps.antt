-- The texts of jumps.
use Rattle.std.specs.Prelude.{ℕ, List, ◌++◌, codes, Option, Some, None}
use Rattle.pm_families.specs.declared.families.Condition.{Condition}
use Rattle.pm_families.specs.declared.families.Condition.TheVariants as condition
use Rattle.pm_families.specs.declared.families.Jump.TheVariants as jump
use Rattle.pm_opcode.specs.declared.operation.Operation.{Operation}
use Rattle.pm_opcode.specs.declared.operation.Operation.TheVariants as operation
use Rattle.pm_opcode.specs.Operations.{operation_of}
use Rattle.pm_opcode.specs.Standing.{bare}
use Rattle.pm_code.specs.Item.{Target}
use Rattle.pm_code.specs.Shown.{target_text}
use Rattle.pm_phrases.specs.Shown.{Shown, value, value_text}

abbrev pub condition_in : Operation → Option Condition
condition_in (operation.Jump (jump.Short c offset)) = Some c
condition_in _ = None

-- The condition of the short jump with the opcode `op`, or `None` if `op` is not the opcode of a short jump.
unfoldable pub condition_of : ℕ → Option Condition
condition_of op = condition_in (operation_of (bare op))

abbrev pub alone_on : Target ℕ → Option Condition → Option Shown
alone_on target (Some condition.Always) = Some (value 0 (codes "GOTO " ++ target_text target))
alone_on target _ = None

abbrev pub one_on : Target ℕ → Shown → Option Condition → Option Shown
one_on target a (Some condition.IfFalse) =
    Some (value 0 (codes "IF NOT (" ++ (value_text a 0 ++ (codes ") GOTO " ++ target_text target))))
one_on target a _ = None

abbrev pub compared : List ℕ → Target ℕ → Shown → Shown → Shown
compared sign target a b =
    value 0 (codes "IF " ++ (value_text a 2 ++ (sign ++ (value_text b 2 ++ (codes " GOTO " ++ target_text target)))))

abbrev pub two_on : Target ℕ → Shown → Shown → Option Condition → Option Shown
two_on target a b (Some condition.IfDifferent) = Some (compared (codes " <> ") target a b)
two_on target a b (Some condition.IfEqual) = Some (compared (codes " = ") target a b)
two_on target a b _ = None

-- The text of UJP, which has no operands.
unfoldable pub jump_alone : ℕ → Target ℕ → Option Shown
jump_alone op target = alone_on target (condition_of op)

-- The text of FJP with the operand `a`.
unfoldable pub jump_one : ℕ → Target ℕ → Shown → Option Shown
jump_one op target a = one_on target a (condition_of op)

-- The text of EFJ or NFJ with the operands `a` and `b`.
unfoldable pub jump_two : ℕ → Target ℕ → Shown → Shown → Option Shown
jump_two op target a b = two_on target a b (condition_of op)
