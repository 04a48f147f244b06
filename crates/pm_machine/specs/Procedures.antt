-- The rules of calls, returns and standard procedures, applied to the whole state.
use Rattle.std.specs.Prelude.{ℕ, Bool, true, false, Result, Ok, if◌then◌else◌, ◌==◌}
use Rattle.pm_words.specs.declared.error.ExecError.{ExecError}
use Rattle.pm_words.specs.Stack.{◌>>=◌}
use Rattle.pm_families.specs.declared.families.Return.{Return}
use Rattle.pm_families.specs.declared.families.Return.TheVariants as return
use Rattle.pm_families.specs.declared.families.Call.{Call}
use Rattle.pm_calls.specs.Places.{Parts}
use Rattle.pm_calls.specs.Calls.{called}
use Rattle.pm_calls.specs.Returns.{returned}
use Rattle.pm_machine.specs.declared.state.Status.{Status}
use Rattle.pm_machine.specs.declared.state.Status.TheVariants as status
use Rattle.pm_units.specs.Traps.{Pause}
use Rattle.pm_stdproc.specs.Procedures.{Reach, procedure_numbered, procedure_row}
use Rattle.pm_machine.specs.State.{State}
use Rattle.pm_stdproc.specs.Loads.{code_needed}
use Rattle.pm_words.specs.declared.layout.TheConstants.{SYSTEM_FRAME}

-- The part of the state `s` that calls and returns use. The next definition is the state with another such part.
abbrev pub parts : State → Parts
parts s = record { memory = s.memory; registers = s.registers; places = s.places }

abbrev pub with_parts : Parts → State → State
with_parts p s = record s { memory = p.memory; registers = p.registers; places = p.places }

-- The state after the call `c` (CLP, CGP, CBP, CIP or CXP). The call replaces the parameters on the stack by the frame
-- of the procedure. It loads the code of the segment if that is needed.
unfoldable pub call_row : Call → State → Result State ExecError
call_row c s = do
  code ← code_needed c s.places s.rows s.devices
  p ← called (parts s) c code
  Ok (with_parts p s)

abbrev pub words_of_return : Return → ℕ
words_of_return (return.Normal n) = n
words_of_return (return.Base n) = n

abbrev pub is_base_return : Return → Bool
is_base_return (return.Normal n) = false
is_base_return (return.Base n) = true

-- The status after a return to the frame at `mp`. A return to the system's frame ends the program.
abbrev pub status_after : ℕ → Status → Status
status_after mp now = if mp == SYSTEM_FRAME then status.Ended else now

-- The state after the return `r` (RNP or RBP). The return replaces the frame of the procedure by the words of its
-- result.
abbrev pub return_row : Return → State → Result State ExecError
return_row r s =
    returned (parts s) (words_of_return r) (is_base_return r) >>= λ p.
    Ok (record (with_parts p s) { status = status_after p.registers.mp s.status })

-- The part of the state `s` that a standard procedure uses. The next definition is the state with another such part.
abbrev pub reach : State → Reach
reach s = record { memory = s.memory; registers = s.registers; places = s.places; rows = s.rows; devices = s.devices }

abbrev pub with_reach : Reach → State → State
with_reach t s = record s { memory = t.memory; registers = t.registers; places = t.places; devices = t.devices }

-- The state after CSP with the number `n`: the rule of this standard procedure is applied.
abbrev pub standard_row : ℕ → State → Result State Pause
standard_row n s = procedure_row (procedure_numbered n) (reach s) >>= λ t. Ok (with_reach t s)
