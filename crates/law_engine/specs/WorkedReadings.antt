-- Worked examples of reading instructions: the instructions that the definitions read from a few bytes.
use Rattle.std.specs.Prelude.{◌≡◌, ℕ, Bool, true, false, [], ◌∷◌, Ok, Err}
use Rattle.pm_opcode.specs.declared.instr.Instr.{Instr}
use Rattle.pm_opcode.specs.declared.instr.Decode.TheVariants.{Truncated, Unassigned, BadType}
use Rattle.pm_opcode.specs.Reading.{reading}

-- Returns the instruction LDO of a global variable with the operand `a`.
abbrev pub ldo : ℕ → Bool → ℕ → Instr
ldo a long len = record { op = 169; a = a; b = 0; c = 0; long = long; start = 0; count = 0; len = len }

pub record WorkedReadings : Type 0 where
  -- A number of 128 or more has two bytes, with the high byte first. A number below 128 has one byte, or two bytes if
  -- the instruction is marked as long.
  pub large : reading (169 ∷ 128 ∷ 128 ∷ []) 0 ≡ Ok (ldo 128 false 3)
  pub small : reading (169 ∷ 5 ∷ []) 0 ≡ Ok (ldo 5 false 2)
  pub marked : reading (169 ∷ 128 ∷ 5 ∷ []) 0 ≡ Ok (ldo 5 true 3)
  -- The bytes end too early; an opcode has no row in the table; a type byte is not in the list of types.
  pub cut_off : reading (169 ∷ 128 ∷ []) 0 ≡ Err Truncated
  pub no_row : reading (210 ∷ []) 0 ≡ Err Unassigned
  pub no_type : reading (175 ∷ 3 ∷ []) 0 ≡ Err BadType
