-- The fields of the state that an event may change.
use Rattle.std.specs.Prelude.{◌≡◌, ◌==◌, ℕ, ◌%◌, Bool, true, false, Result, Ok, Err}
use Rattle.pm_words.specs.declared.error.ExecError.{ExecError}
use Rattle.pm_words.specs.Words.{word_at}
use Rattle.pm_opcode.specs.declared.instr.Instr.{Instr}
use Rattle.pm_opcode.specs.declared.operation.Operation.{Operation}
use Rattle.pm_opcode.specs.declared.operation.Operation.TheVariants as operation
use Rattle.pm_opcode.specs.Operations.{operation_of}
use Rattle.pm_units.specs.Devices.{image_at, unit_of}
use Rattle.pm_stdproc.specs.Procedures.{procedure_numbered}
use Rattle.pm_units.specs.Traps.{Pause, Fails, Waits}
use Rattle.pm_stdproc.specs.UnitRows.{ordered}
use Rattle.pm_units.specs.declared.ports.Port.{Port}
use Rattle.pm_units.specs.declared.ports.Port.TheVariants.{Console, Terminal, Absent, Printer, Disk, Unknown}
use Rattle.pm_stdproc.specs.declared.procedures.OnMemory.{OnMemory}
use Rattle.pm_stdproc.specs.declared.procedures.OnMemory.TheVariants as memory
use Rattle.pm_stdproc.specs.declared.procedures.OnUnits.{OnUnits}
use Rattle.pm_stdproc.specs.declared.procedures.OnUnits.TheVariants as units
use Rattle.pm_stdproc.specs.declared.procedures.Procedure.{Procedure}
use Rattle.pm_stdproc.specs.declared.procedures.Procedure.TheVariants as procedure
use Rattle.pm_stdproc.specs.declared.rows.Order.{Order}
use Rattle.pm_machine.specs.declared.state.Status.{Status}
use Rattle.pm_machine.specs.declared.state.Status.TheVariants as status
use Rattle.pm_machine.specs.Events.{Event, Step, Key, Poke, Mount, Eject, next}
use Rattle.pm_machine.specs.Rows.{fetched}
use Rattle.pm_machine.specs.State.{State}
use Rattle.pm_machine.specs.Steps.{executed}

-- States which fields of the state may change. The rows of the dictionary and the clock never change.
pub record Writes : Type 0 where
  -- Whether the word at this address may change.
  pub words : ℕ → Bool
  pub sp : Bool
  pub ipc : Bool
  -- Whether the registers SEG, JTAB, MP and BASE may change.
  pub frame : Bool
  pub np : Bool
  pub ioresult : Bool
  pub places : Bool
  -- Whether the disk at this position in the list may change.
  pub disks : ℕ → Bool
  pub queue : Bool
  pub console : Bool
  pub printer : Bool
  pub steps : Bool
  pub status : Bool

-- Every field of the state that `w` does not state as changed is the same in `s` and `t`.
pub record LeavesTheRest (w : Writes) (s t : State) : Type 0 where
  pub words : (x : ℕ) → x % 2 ≡ 0 → w.words x ≡ false → word_at t.memory x ≡ word_at s.memory x
  pub sp : w.sp ≡ false → t.registers.sp ≡ s.registers.sp
  pub ipc : w.ipc ≡ false → t.registers.ipc ≡ s.registers.ipc
  pub seg : w.frame ≡ false → t.registers.seg ≡ s.registers.seg
  pub jtab : w.frame ≡ false → t.registers.jtab ≡ s.registers.jtab
  pub mp : w.frame ≡ false → t.registers.mp ≡ s.registers.mp
  pub base : w.frame ≡ false → t.registers.base ≡ s.registers.base
  pub np : w.np ≡ false → t.registers.np ≡ s.registers.np
  pub ioresult : w.ioresult ≡ false → t.registers.ioresult ≡ s.registers.ioresult
  pub places : w.places ≡ false → t.places ≡ s.places
  pub rows : t.rows ≡ s.rows
  pub disks : (k : ℕ) → w.disks k ≡ false → image_at t.devices k ≡ image_at s.devices k
  pub queue : w.queue ≡ false → t.devices.queue ≡ s.devices.queue
  pub console : w.console ≡ false → t.devices.console ≡ s.devices.console
  pub printer : w.printer ≡ false → t.devices.printer ≡ s.devices.printer
  pub clock : t.devices.clock ≡ s.devices.clock
  pub steps : w.steps ≡ false → t.steps ≡ s.steps
  pub status : w.status ≡ false → t.status ≡ s.status

-- ---- the table

abbrev pub nothing : Writes
nothing = record {
  words = λ x. false;
  sp = false;
  ipc = false;
  frame = false;
  np = false;
  ioresult = false;
  places = false;
  disks = λ k. false;
  queue = false;
  console = false;
  printer = false;
  steps = false;
  status = false;
}

abbrev pub all_words : ℕ → Bool
all_words x = true

-- The fields that each successful step may change: the count of steps, and IPC.
abbrev pub step_alone : Writes
step_alone = record nothing { ipc = true; steps = true }

-- The fields that a row on the stack may change: also any word of memory, and SP.
abbrev pub stack_row : Writes
stack_row = record step_alone { words = all_words; sp = true }

-- The fields that a row may change if it only pops words: also SP.
abbrev pub taking_row : Writes
taking_row = record step_alone { sp = true }

abbrev pub frame_row : Writes
frame_row = record stack_row { frame = true; places = true }

-- Returns the fields that a standard procedure on memory may change. Only NEW and RELEASE may change NP.
abbrev pub memory_writes : OnMemory → Writes
memory_writes memory.CheckIo = step_alone
memory_writes memory.New = record stack_row { np = true }
memory_writes memory.MoveLeft = stack_row
memory_writes memory.MoveRight = stack_row
memory_writes memory.Fill = stack_row
memory_writes memory.Scan = stack_row
memory_writes memory.Mark = stack_row
memory_writes memory.Release = record taking_row { np = true }
memory_writes memory.IoResult = stack_row
memory_writes memory.Halt = nothing
memory_writes memory.FreeMemory = stack_row

-- Returns whether the port is the disk `n`.
abbrev pub is_disk : Port → ℕ → Bool
is_disk (Disk k) n = n == k
is_disk Console n = false
is_disk Terminal n = false
is_disk Absent n = false
is_disk Printer n = false
is_disk Unknown n = false

-- Returns whether the unit of the transfer is the disk `n`.
abbrev pub disk_named : Result Order ExecError → ℕ → Bool
disk_named (Ok o) n = is_disk (unit_of o.unit) n
disk_named (Err e) n = false

abbrev pub unit_writes : OnUnits → State → Writes
unit_writes units.Read s = record stack_row { ioresult = true; queue = true; console = true }
unit_writes units.Write s = record taking_row {
  ioresult = true;
  disks = disk_named (ordered s.memory s.registers.sp);
  console = true;
  printer = true;
}
unit_writes units.Time s = stack_row
unit_writes units.Busy s = record stack_row { ioresult = true }
unit_writes units.Wait s = record taking_row { ioresult = true }
unit_writes units.Clear s = record taking_row { ioresult = true; queue = true }

abbrev pub procedure_writes : Procedure → State → Writes
procedure_writes (procedure.OnMemory o) s = memory_writes o
procedure_writes (procedure.OnUnits o) s = unit_writes o s
procedure_writes procedure.Exit s = stack_row
procedure_writes procedure.Keep s = record stack_row { places = true }
procedure_writes procedure.Unkeep s = record taking_row { places = true }
procedure_writes procedure.Unimplemented s = nothing

abbrev pub operation_writes : Operation → State → Writes
operation_writes (operation.Arithmetic o) s = stack_row
operation_writes (operation.Variable o) s = stack_row
operation_writes (operation.Pointer o) s = stack_row
operation_writes (operation.Value o) s = stack_row
operation_writes (operation.Literal o) s = stack_row
operation_writes (operation.Jump o) s = taking_row
operation_writes (operation.Call o) s = frame_row
operation_writes (operation.Return o) s = record frame_row { status = true }
operation_writes (operation.Standard n) s = procedure_writes (procedure_numbered n) s
operation_writes operation.Nothing s = step_alone
operation_writes operation.End s = record step_alone { status = true }
operation_writes operation.Unimplemented s = nothing

abbrev pub instruction_writes : Result Instr ExecError → State → Writes
instruction_writes (Ok i) s = operation_writes (operation_of i) s
instruction_writes (Err e) s = nothing

-- Returns the fields that a step may change, by its result. A successful step may change what the table states for its
-- instruction. An error changes only the status, and a step that waits changes nothing.
abbrev pub outcome_writes : Result State Pause → State → Writes
outcome_writes (Ok t) s = instruction_writes (fetched s.memory s.registers.ipc) s
outcome_writes (Err (Fails e)) s = record nothing { status = true }
outcome_writes (Err Waits) s = nothing

-- Returns the fields that a step may change. In a machine that has ended or halted, a step changes nothing.
abbrev pub step_writes : Status → State → Writes
step_writes status.Running s = outcome_writes (executed s) s
step_writes status.Ended s = nothing
step_writes (status.Halted e) s = nothing

abbrev pub event_writes : State → Event → Writes
event_writes s Step = step_writes s.status s
event_writes s (Key b) = record nothing { queue = true }
event_writes s (Poke a w) = record nothing { words = λ x. x == a }
event_writes s (Mount unit image) = record nothing { disks = is_disk (unit_of unit) }
event_writes s (Eject unit) = record nothing { disks = is_disk (unit_of unit) }

-- An event leaves every field of the state unchanged that `event_writes` does not list for it.
abbrev pub EventsLeaveTheRest : Type 0
EventsLeaveTheRest = (s : State) (e : Event) → LeavesTheRest (event_writes s e) s (next s e)
