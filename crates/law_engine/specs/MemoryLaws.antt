-- Laws of the memory that calls and returns leave unchanged. The record `Parts` has the memory, the registers and the
-- entries of the segment slots.
use Rattle.std.specs.Prelude.{◌≡◌, ◌<◌, ◌≤◌, ◌⊎◌, ℕ, ◌+◌, ◌-◌, ◌*◌, Bool, List, Option, Ok}
use Rattle.pm_words.specs.Words.{IsMemory, byte_at}
use Rattle.pm_calls.specs.declared.frames.Table.{Table}
use Rattle.pm_families.specs.declared.families.Call.{Call}
use Rattle.pm_calls.specs.Places.{Parts}
use Rattle.pm_calls.specs.Tables.{attributes}
use Rattle.pm_calls.specs.Calls.{Reached, called, procedure_called}
use Rattle.pm_calls.specs.Returns.{returned}
use Rattle.pm_calls.specs.Laws.{IsCode, Reaches}

-- The address `x` is not among the `n` bytes from the address `a` on.
abbrev pub LiesOutside : ℕ → ℕ → ℕ → Type 0
LiesOutside a n x = (x < a) ⊎ (a + n ≤ x)

-- `c` is before a call, `d` at the start of the procedure, and `e` after the return. The address `x` is outside three
-- ranges. The first is the frame, from the SP with which the procedure begins to the end of its variables. The second
-- is the loaded code, which ends at the SP before the call. The third is the words of the result, from the SP after the
-- return on.
pub record IsOutsideCall (c d e : Parts) (table : Table) (loaded words x : ℕ) : Type 0 where
  pub frame : (x < d.registers.sp) ⊎ (d.registers.mp + (12 + table.parameters + table.locals) ≤ x)
  pub code : LiesOutside (c.registers.sp - loaded) loaded x
  pub result : LiesOutside e.registers.sp (2 * words) x

-- A call and its return leave each byte unchanged that is outside the frame, the loaded code and the result.
pub record LeavesTheRest (c d e : Parts) (call : Call) (code : Option (List ℕ)) (words : ℕ) : Type 0 where
  pub at : Reached
  pub reached : Reaches c call code at
  pub table : Table
  pub found : attributes at.memory at.place (procedure_called call) ≡ Ok table
  pub rest : (x : ℕ) → IsOutsideCall c d e table at.loaded words x → byte_at e.memory x ≡ byte_at c.memory x

-- If a call and its return succeed, then they leave all memory unchanged, except the frame, the loaded code and the
-- result.
abbrev pub CallAndReturnLeaveTheRest : Type 0
CallAndReturnLeaveTheRest =
    (c d e : Parts) (call : Call) (code : Option (List ℕ)) (words : ℕ) (base : Bool) →
    IsMemory c.memory → IsMemory d.memory → IsCode code →
    called c call code ≡ Ok d → returned d words base ≡ Ok e → LeavesTheRest c d e call code words
