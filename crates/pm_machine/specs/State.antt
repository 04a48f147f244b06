-- The whole state of the machine. Definitions change the state only through its fields, so that fields can be added.
use Rattle.std.specs.Prelude.{ℕ, List, Option}
use Rattle.pm_calls.specs.declared.registers.Registers.{Registers}
use Rattle.pm_calls.specs.declared.frames.SegmentPlace.{SegmentPlace}
use Rattle.pm_units.specs.Devices.{Devices, Room}
use Rattle.pm_machine.specs.declared.state.Status.{Status}
use Rattle.pm_stdproc.specs.declared.loads.SlotRow.{SlotRow}

pub record State : Type 0 where
  -- The 32,768 words of memory.
  pub memory : List ℕ
  pub registers : Registers
  -- The number of steps that succeeded or ended the program. It stops increasing at the greatest number of 64 bits.
  pub steps : ℕ
  pub status : Status
  -- For each of the 16 slots, the address of its loaded segment, the number of its calls that have not returned, and
  -- the number of its keep requests.
  pub places : List (Option SegmentPlace)
  -- For each of the 16 slots, the location of its code on a disk. These locations never change.
  pub rows : List SlotRow
  -- The disks, the console, the printer and the clock.
  pub devices : Devices

abbrev pub devices_of : State → Devices
devices_of s = s.devices

-- What contracts state about a machine: its state, and the spare capacity for input and output.
pub record Whole : Type 0 where
  pub state : State
  pub room : Room
