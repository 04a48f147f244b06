-- The rules of the standard procedures that use the units or the clock.
use Rattle.std.specs.Prelude.{ℕ, ◌≡◌, ◌/◌, ◌%◌, ◌&&◌, List, Result, Ok, OnErr}
use Rattle.pm_words.specs.declared.error.ExecError.{ExecError}
use Rattle.pm_words.specs.declared.error.ExecError.TheVariants.{InvalidMemory}
use Rattle.pm_words.specs.Watch.{WatchStays}
use Rattle.pm_words.specs.Words.{Contents, with_word}
use Rattle.pm_words.specs.Stack.{◌>>=◌, demand, is_even, lies_in_memory, pop, push}
use Rattle.pm_calls.specs.declared.registers.Registers.{Registers}
use Rattle.pm_units.specs.Traps.{Pause, Performs, or_fails}
use Rattle.pm_units.specs.declared.trap.Trap.{Trap}
use Rattle.pm_units.specs.Devices.{Devices, Held, cleared, known, unit_of}
use Rattle.pm_stdproc.specs.MemoryRows.{pop_place}
use Rattle.pm_units.specs.Transfers.{Moved, unit_read, unit_written}
use Rattle.pm_stdproc.specs.declared.procedures.OnUnits.{OnUnits}
use Rattle.pm_stdproc.specs.declared.procedures.OnUnits.TheVariants.{Read, Write, Time, Busy, Wait, Clear}
use Rattle.pm_stdproc.specs.declared.rows.Order.{Order}

-- The part of the machine's state that these procedures use.
pub record Served : Type 0 where
  pub memory : List ℕ
  pub registers : Registers
  pub devices : Devices

abbrev pub served : List ℕ → Registers → Devices → Served
served m r d = record { memory = m; registers = r; devices = d }

abbrev pub devices_served : Served → Devices
devices_served s = s.devices

-- A call returns what the rule `row` defines: the new state, or an error. After an error, the state is the old one,
-- including the spare capacity of the units. The watch of the memory records each word that is written. MP is
-- unchanged.
pub record Serves (row : Served → Result Served Pause) {A : Type 0} (result : Result A Trap) (old new : Held)
    (memory changed : Contents) (registers after : Registers) : Type 0 where
  pub gives : Performs devices_served old.room result (served memory.words registers old.devices)
      (served changed.words after new.devices) (row (served memory.words registers old.devices))
  pub room : OnErr result (new.room ≡ old.room)
  pub watch : WatchStays memory changed
  pub mp : after.mp ≡ registers.mp

-- ---- transfers

-- The operands of a UNITREAD or UNITWRITE: unit, byte pointer, count, block and mode. The `count` bytes at the pointer
-- must be in memory, for any unit. The count is unsigned. The mode is ignored.
unfoldable pub ordered : List ℕ → ℕ → Result Order ExecError
ordered m sp = do
  mode ← pop m sp
  block ← pop m mode.above
  count ← pop m block.above
  place ← pop_place m count.above
  unit ← pop m place.above
  _ ← demand (lies_in_memory place.word count.word) InvalidMemory
  Ok (record {
    transfer = record { address = place.word; count = count.word; block = block.word };
    unit = unit.word;
    sp
        = unit.above;
  })

-- The state `s` after the transfer `t`. SP is `sp`, the SP after the operands are popped.
abbrev pub after_transfer : Served → ℕ → Moved → Served
after_transfer s sp t = record s {
  memory = t.memory;
  registers = record s.registers { sp = sp; ioresult = t.ioresult };
  devices = t.devices;
}

-- UNITREAD: reads bytes from a unit to memory.
unfoldable pub read_row : Served → Result Served Pause
read_row s = do
  o ← or_fails (ordered s.memory s.registers.sp)
  t ← unit_read (unit_of o.unit) o.transfer s.memory s.devices
  Ok (after_transfer s o.sp t)

-- UNITWRITE: writes bytes from memory to a unit.
unfoldable pub write_row : Served → Result Served Pause
write_row s = do
  o ← or_fails (ordered s.memory s.registers.sp)
  Ok (after_transfer s o.sp (unit_written (unit_of o.unit) o.transfer s.memory s.devices))

-- ---- the clock, and queries of a unit

-- TIME. Its operands are two addresses. The high word of the clock is written to the first, and then its low word to
-- the second.
unfoldable pub time_row : Served → Result Served ExecError
time_row s = do
  b ← pop s.memory s.registers.sp
  a ← pop s.memory b.above
  _ ← demand (is_even a.word && is_even b.word) InvalidMemory
  let high = with_word s.memory a.word (s.devices.clock / 65536)
  Ok (record s {
    memory = with_word high b.word (s.devices.clock % 65536);
    registers = record s.registers
        { sp = a.above };
  })

-- UNITWAIT. Its operand is a unit. Only IORESULT is set.
unfoldable pub wait_row : Served → Result Served ExecError
wait_row s = do
  unit ← pop s.memory s.registers.sp
  Ok (record s { registers = record s.registers { sp = unit.above; ioresult = known (unit_of unit.word) } })

-- UNITBUSY. Its operand is a unit. No unit is ever busy, so 0 is pushed.
unfoldable pub busy_row : Served → Result Served ExecError
busy_row s = do
  unit ← pop s.memory s.registers.sp
  new ← push s.memory unit.above s.registers.np 0
  Ok (record s { memory = new.0; registers = record s.registers { sp = new.1; ioresult = known (unit_of unit.word) } })

-- UNITCLEAR. Its operand is a unit, which is cleared. This empties the input queue of the console.
unfoldable pub clear_row : Served → Result Served ExecError
clear_row s = do
  unit ← pop s.memory s.registers.sp
  let done = cleared (unit_of unit.word) s.devices
  Ok (record s { registers = record s.registers { sp = unit.above; ioresult = done.0 }; devices = done.1 })

unfoldable pub units_row : OnUnits → Served → Result Served Pause
units_row Read s = read_row s
units_row Write s = write_row s
units_row Time s = or_fails (time_row s)
units_row Busy s = or_fails (busy_row s)
units_row Wait s = or_fails (wait_row s)
units_row Clear s = or_fails (clear_row s)
