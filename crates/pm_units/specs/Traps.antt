-- The reasons why an instruction is not completed.
use Rattle.std.specs.Prelude.{Result, Ok, Err, ◌≡◌, false}
use Rattle.pm_words.specs.declared.error.ExecError.{ExecError}
use Rattle.pm_units.specs.declared.trap.Trap.{Trap}
use Rattle.pm_units.specs.declared.trap.Trap.TheVariants as trap
use Rattle.pm_units.specs.Devices.{Devices, Room, has_room}

-- The reason why a defined instruction is not completed: an execution error, or too few bytes in the input queue.
-- Definitions of instructions have no error for out of memory.
pub data Pause : Type 0 where
  Fails : ExecError → Pause
  Waits : Pause

abbrev pub or_fails : {A : Type 0} → Result A ExecError → Result A Pause
or_fails (Ok x) = Ok x
or_fails (Err e) = Err (Fails e)

-- States that `done` succeeds, and that its result writes more to the console or to the printer than the spare capacity
-- `room`.
abbrev pub Outgrows : {B : Type 0} → (B → Devices) → Room → Devices → Result B Pause → Type 0
Outgrows devices room d done = (new : _) × (done ≡ Ok new) × (has_room room d (devices new) ≡ false)

-- States what an instruction does. Without an error, the new state is the result of `done`. With an error, the state is
-- unchanged. Out of memory is possible only if `done` writes more to the console or to the printer than their spare
-- capacity.
abbrev pub Performs : {A B : Type 0} → (B → Devices) → Room → Result A Trap → B → B → Result B Pause → Type 0
Performs devices room (Ok x) old new done = done ≡ Ok new
Performs devices room (Err (trap.Exec e)) old new done = (done ≡ Err (Fails e)) × (new ≡ old)
Performs devices room (Err trap.Waiting) old new done = (done ≡ Err Waits) × (new ≡ old)
Performs devices room (Err trap.NoMemory) old new done = (new ≡ old) × Outgrows devices room (devices old) done
