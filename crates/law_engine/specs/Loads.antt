-- Laws of the memory in which loaded code is stored.
use Rattle.std.specs.Prelude.{◌≡◌, ◌<◌, ℕ, ◌+◌, ◌-◌, List, All, Option, Some, None, Ok, length, slice_get}
use Rattle.pm_words.specs.Words.{bytes_at, word_at}
use Rattle.pm_opcode.specs.declared.instr.Instr.{Instr}
use Rattle.pm_families.specs.declared.families.Call.TheVariants.{Cxp}
use Rattle.pm_opcode.specs.declared.operation.Operation.TheVariants.{Call}
use Rattle.pm_opcode.specs.Operations.{operation_of}
use Rattle.pm_calls.specs.Places.{placed}
use Rattle.pm_volume.specs.declared.entry.Entry.{Entry}
use Rattle.pm_volume.specs.Directory.{IsVolume}
use Rattle.pm_codefile.specs.Dictionary.{segment_in}
use Rattle.pm_units.specs.Devices.{code_on, image_on, unit_of}
use Rattle.pm_stdproc.specs.declared.loads.SlotRow.{SlotRow}
use Rattle.pm_machine.specs.declared.state.Status.TheVariants.{Running}
use Rattle.pm_machine.specs.declared.state.Stop.TheVariants.{Went}
use Rattle.pm_machine.specs.Boot.{boot_start, code_file, image_of}
use Rattle.pm_machine.specs.Events.{Event, after_all}
use Rattle.pm_machine.specs.Rows.{fetched}
use Rattle.pm_machine.specs.State.{State}
use Rattle.pm_machine.specs.Steps.{stepped}
use Rattle.law_engine.specs.Keeping.{IsAtProcedure}
use Rattle.pm_words.specs.declared.layout.TheConstants.{SYSTEM_FRAME}

-- The image is a volume, and its elements are bytes.
pub record IsImage (image : List ℕ) : Type 0 where
  pub volume : IsVolume image
  pub bytes : All (λ b. b < 256) image

-- The state `s` is reached by any events from a machine that was booted from the code file `file` on the volume `image`
-- of the unit.
pub record IsBootedFrom (image file : List ℕ) (unit : ℕ) (s : State) : Type 0 where
  pub images : List (Option (List ℕ))
  pub name : List ℕ
  pub clock : ℕ
  pub entry : Entry
  pub start : State
  pub events : List Event
  pub mounted : image_of images unit ≡ Some image
  pub found : code_file images unit name ≡ Ok (entry, file)
  pub booted : boot_start images unit name clock ≡ Ok start
  pub now : s ≡ after_all start events

-- The machine runs, and the instruction at IPC calls procedure `p` of slot `n`.
pub record IsAtCall (n p : ℕ) (s : State) : Type 0 where
  pub running : s.status ≡ Running
  pub instr : Instr
  pub there : fetched s.memory s.registers.ipc ≡ Ok instr
  pub calls : operation_of instr ≡ Call (Cxp n p)

-- The segment of slot `n` of `file` is in memory, and ends at the address `below`.
pub record StandsBelow (file : List ℕ) (n below : ℕ) (memory : List ℕ) : Type 0 where
  pub code : List ℕ
  pub segment : segment_in file n ≡ Some code
  pub stands : bytes_at memory (below - length code) (length code) ≡ code

-- If a machine was booted from a code file, and the disk of its unit is still the volume after any events, then a
-- successful step that calls a procedure of a slot without an address loads the segment of this slot of the file. The
-- segment is then directly below the SP before the step.
abbrev pub StepsLoadSegments : State → Type 0
StepsLoadSegments s =
    (image file : List ℕ) (unit n p : ℕ) →
    IsImage image → IsBootedFrom image file unit s → image_on (unit_of unit) s.devices ≡ Some image →
    placed s.places n ≡ None → IsAtCall n p s → (stepped s).1 ≡ Went →
    StandsBelow file n s.registers.sp (stepped s).0.memory

-- The machine runs, the instruction at IPC is standard procedure 21, and the slot number on top of the stack is `n`.
pub record IsAtKeep (n : ℕ) (s : State) : Type 0 where
  pub at : IsAtProcedure 21 s
  pub slot : word_at s.memory s.registers.sp ≡ n

-- If a machine was booted from a code file, and the disk of its unit is still the volume after any events, then a
-- successful step of standard procedure 21 for a slot without an address loads the segment of this slot of the file.
-- The segment is then directly below the SP after the number of the slot is popped.
abbrev pub StepsKeepSegments : State → Type 0
StepsKeepSegments s =
    (image file : List ℕ) (unit n : ℕ) →
    IsImage image → IsBootedFrom image file unit s → image_on (unit_of unit) s.devices ≡ Some image →
    placed s.places n ≡ None → IsAtKeep n s → (stepped s).1 ≡ Went →
    StandsBelow file n (s.registers.sp + 2) (stepped s).0.memory

-- In any machine with any disks, a successful step that loads slot `n` leaves the bytes `code` in memory. These are the
-- present bytes on the disk to which the row of the slot refers.
pub record LoadsWhatIsThere (s : State) (n : ℕ) (code : List ℕ) : Type 0 where
  pub called : (p : ℕ) → IsAtCall n p s → (stepped s).1 ≡ Went
      → bytes_at (stepped s).0.memory (s.registers.sp - length code) (length code) ≡ code
  pub kept : IsAtKeep n s → (stepped s).1 ≡ Went
      → bytes_at (stepped s).0.memory (s.registers.sp + 2 - length code) (length code) ≡ code

abbrev pub StepsLoadWhatIsThere : State → Type 0
StepsLoadWhatIsThere s =
    (n : ℕ) (row : SlotRow) (code : List ℕ) →
    slice_get s.rows n ≡ Some row → 0 < row.length → placed s.places n ≡ None →
    code_on s.devices row.unit row.block row.length ≡ Some code → All (λ b. b < 256) code → LoadsWhatIsThere s n code

-- If a machine is booted, then it begins with the segment of slot 1 of the code file in memory, directly below 65,492.
abbrev pub BootsLoadSegment : Type 0
BootsLoadSegment =
    (images : List (Option (List ℕ))) (image name file : List ℕ) (entry : Entry) (unit clock : ℕ) (s : State) →
    IsImage image → image_of images unit ≡ Some image → code_file images unit name ≡ Ok (entry, file) →
    boot_start images unit name clock ≡ Ok s → StandsBelow file 1 SYSTEM_FRAME s.memory
