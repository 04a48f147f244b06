-- The stack effects on the historical machine, of instructions that cause error 11 on this machine. A real number has
-- two words. No law of this machine is about these effects.
use Rattle.std.specs.Prelude.{ℕ, List, [], ◌∷◌, ◌==◌, Option, Some, None}
use Rattle.std.specs.Map.{lookup}
use Rattle.std.specs.Option.{option_or}
use Rattle.pm_families.specs.declared.families.Kind.TheVariants as kind
use Rattle.pm_families.specs.declared.families.Value.TheVariants as value
use Rattle.pm_opcode.specs.declared.instr.Instr.{Instr}
use Rattle.pm_opcode.specs.declared.operation.Operation.{Operation}
use Rattle.pm_opcode.specs.declared.operation.Operation.TheVariants as operation
use Rattle.pm_opcode.specs.Operations.{operation_of}
use Rattle.pm_effects.specs.declared.effect.Effect.{Effect}
use Rattle.pm_effects.specs.Effects.{effect_of, words}

-- The effects of opcodes: ABR, ADR, DVR, FLO, FLT, MPR, NGR, SBR, SQR, LDE, LAE and STE, in the order of the opcodes.
-- FLO converts the integer below a real number to a real number.
unfoldable pub opcode_effects : List (ℕ × Effect)
opcode_effects =
    (129, words 2 2) ∷
    (131, words 4 2) ∷
    (135, words 4 2) ∷
    (137, words 3 4) ∷
    (138, words 1 2) ∷
    (144, words 4 2) ∷
    (146, words 2 2) ∷
    (150, words 4 2) ∷
    (153, words 2 2) ∷
    (157, words 0 1) ∷
    (167, words 0 1) ∷
    (209, words 1 0) ∷
    []

-- The effects of standard procedures: TRUNC and ROUND; SIN, COS, LOG, ATAN, LN, EXP and SQRT; and the power of ten.
unfoldable pub standard_effects : List (ℕ × Effect)
standard_effects =
    (23, words 2 1) ∷
    (24, words 2 1) ∷
    (25, words 2 2) ∷
    (26, words 2 2) ∷
    (27, words 2 2) ∷
    (28, words 2 2) ∷
    (29, words 2 2) ∷
    (30, words 2 2) ∷
    (31, words 2 2) ∷
    (36, words 1 2) ∷
    []

unfoldable pub opcode_effect : ℕ → Option Effect
opcode_effect op = lookup (λ m. m == op) opcode_effects

unfoldable pub standard_effect : ℕ → Option Effect
standard_effect n = lookup (λ m. m == n) standard_effects

-- The historical effect of an instruction that this machine does not execute. A comparison of real numbers pops two of
-- them, which are four words.
abbrev pub historical_effect : Operation → ℕ → Option Effect
historical_effect (operation.Value (value.Compare r kind.Real)) op = Some (words 4 1)
historical_effect (operation.Standard n) op = standard_effect n
historical_effect operation.Unimplemented op = opcode_effect op
historical_effect _ op = None

-- The stack effect of instruction `i` on this machine or, if this machine defines none, on the historical machine.
abbrev pub instruction_effect : Instr → Option Effect
instruction_effect i = option_or (effect_of (operation_of i)) (historical_effect (operation_of i) i.op)
