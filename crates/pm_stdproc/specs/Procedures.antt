-- The rules of the standard procedures on the whole state.
use Rattle.std.specs.Prelude.{ℕ, List, Option, Result, Ok, Err, if◌then◌else◌, ◌==◌, slice_get}
use Rattle.pm_words.specs.declared.error.ExecError.{ExecError}
use Rattle.pm_words.specs.declared.error.ExecError.TheVariants as error
use Rattle.pm_words.specs.Stack.{◌>>=◌, pop}
use Rattle.pm_calls.specs.declared.registers.Registers.{Registers}
use Rattle.pm_calls.specs.declared.frames.SegmentPlace.{SegmentPlace}
use Rattle.pm_calls.specs.Places.{Parts}
use Rattle.pm_calls.specs.Exits.{exited}
use Rattle.pm_calls.specs.Keeps.{segment_kept, segment_unkept}
use Rattle.pm_units.specs.Traps.{Pause, Fails, or_fails}
use Rattle.pm_units.specs.Devices.{Devices}
use Rattle.pm_stdproc.specs.Loads.{length_of, slot_code}
use Rattle.pm_stdproc.specs.declared.loads.SlotRow.{SlotRow}
use Rattle.pm_stdproc.specs.MemoryRows.{memory_row}
use Rattle.pm_stdproc.specs.UnitRows.{Served, served, units_row}
use Rattle.pm_stdproc.specs.declared.procedures.OnMemory.TheVariants as memory
use Rattle.pm_stdproc.specs.declared.procedures.OnUnits.TheVariants as units
use Rattle.pm_stdproc.specs.declared.procedures.Procedure.{Procedure}
use Rattle.pm_stdproc.specs.declared.procedures.Procedure.TheVariants.{OnMemory, OnUnits, Exit, Keep, Unkeep}
use Rattle.pm_stdproc.specs.declared.procedures.Procedure.TheVariants.{Unimplemented}

-- The part of the machine's state that the standard procedures use.
pub record Reach : Type 0 where
  pub memory : List ℕ
  pub registers : Registers
  pub places : List (Option SegmentPlace)
  pub rows : List SlotRow
  pub devices : Devices

-- The state that has the given memory, registers, segment addresses, rows and devices.
abbrev pub reach_of : List ℕ → Registers → List (Option SegmentPlace) → List SlotRow → Devices → Reach
reach_of memory registers places rows devices = record {
  memory = memory;
  registers = registers;
  places = places;
  rows = rows;
  devices = devices;
}

abbrev pub devices_reached : Reach → Devices
devices_reached s = s.devices

-- The standard procedure with the number `n`. Numbers that are not in this list are `Unimplemented`.
unfoldable pub procedure_numbered : ℕ → Procedure
procedure_numbered n =
    if n == 0 then OnMemory memory.CheckIo
    else (if n == 1 then OnMemory memory.New
    else (if n == 2 then OnMemory memory.MoveLeft
    else (if n == 3 then OnMemory memory.MoveRight
    else (if n == 4 then Exit
    else (if n == 5 then OnUnits units.Read
    else (if n == 6 then OnUnits units.Write
    else (if n == 9 then OnUnits units.Time
    else (if n == 10 then OnMemory memory.Fill
    else (if n == 11 then OnMemory memory.Scan
    else (if n == 21 then Keep
    else (if n == 22 then Unkeep
    else (if n == 32 then OnMemory memory.Mark
    else (if n == 33 then OnMemory memory.Release
    else (if n == 34 then OnMemory memory.IoResult
    else (if n == 35 then OnUnits units.Busy
    else (if n == 37 then OnUnits units.Wait
    else (if n == 38 then OnUnits units.Clear
    else (if n == 39 then OnMemory memory.Halt
    else (if n == 40 then OnMemory memory.FreeMemory
    else Unimplemented)))))))))))))))))))

abbrev pub reach_parts : Reach → Registers → Parts
reach_parts s r = record { memory = s.memory; registers = r; places = s.places }

-- EXIT. Its operands are the segment number and the procedure number of the procedure to leave.
unfoldable pub exit_row : Reach → Result Reach ExecError
exit_row s = do
  procedure ← pop s.memory s.registers.sp
  segment ← pop s.memory procedure.above
  left ← exited (reach_parts s (record s.registers { sp = segment.above }))
      (record { segment = segment.word; procedure = procedure.word })
  Ok (record s { memory = left.memory; registers = left.registers; places = left.places })

-- The state `s` with the memory, registers and segment addresses of `p`.
abbrev pub with_reach_parts : Reach → Parts → Reach
with_reach_parts s p = record s { memory = p.memory; registers = p.registers; places = p.places }

-- CSP 21: a keep request for a segment. The operand is the slot of the segment. The number of its keep requests
-- increases by 1. If the segment is not in memory, it is loaded from the disk that is now in its unit.
unfoldable pub keep_row : Reach → Result Reach ExecError
keep_row s = do
  segment ← pop s.memory s.registers.sp
  code ← slot_code segment.word s.places s.rows s.devices
  kept ← segment_kept (reach_parts s (record s.registers { sp = segment.above })) segment.word code
  Ok (with_reach_parts s kept)

-- CSP 22: withdraws a keep request for a segment. The operand is the slot of the segment. The number of its keep
-- requests decreases by 1.
unfoldable pub unkeep_row : Reach → Result Reach ExecError
unkeep_row s = do
  segment ← pop s.memory s.registers.sp
  let size = length_of (slice_get s.rows segment.word)
  left ← segment_unkept (reach_parts s (record s.registers { sp = segment.above })) segment.word size
  Ok (with_reach_parts s left)

abbrev pub on_memory : Reach → Result (List ℕ × Registers) ExecError → Result Reach ExecError
on_memory s row = row >>= λ t. Ok (record s { memory = t.0; registers = t.1 })

abbrev pub on_units : Reach → Result Served Pause → Result Reach Pause
on_units s row = row >>= λ t. Ok (record s { memory = t.memory; registers = t.registers; devices = t.devices })

-- The rule of a standard procedure.
unfoldable pub procedure_row : Procedure → Reach → Result Reach Pause
procedure_row (OnMemory o) s = or_fails (on_memory s (memory_row o s.memory s.registers))
procedure_row (OnUnits o) s = on_units s (units_row o (served s.memory s.registers s.devices))
procedure_row Exit s = or_fails (exit_row s)
procedure_row Keep s = or_fails (keep_row s)
procedure_row Unkeep s = or_fails (unkeep_row s)
procedure_row Unimplemented s = Err (Fails error.Unimplemented)
