-- The start of a program: its code file on a volume, the first call, and the state after this call.
use Rattle.std.specs.Prelude.{ℕ, zero, suc, ◌+◌, ◌%◌, ◌==◌, ◌≡◌, List, [], ◌∷◌, ◌++◌, Option, Some, None, is_none}
use Rattle.std.specs.Prelude.{is_some, replicate, Result, Ok, Err, IsOk, if◌then◌else◌}
use Rattle.pm_words.specs.declared.error.ExecError.{ExecError}
use Rattle.pm_words.specs.Words.{zero_words}
use Rattle.pm_words.specs.Stack.{◌>>=◌, demand}
use Rattle.pm_families.specs.declared.families.Call.TheVariants.{Cxp}
use Rattle.pm_calls.specs.Places.{Parts}
use Rattle.pm_calls.specs.Calls.{called}
use Rattle.pm_volume.specs.declared.entry.Entry.{Entry}
use Rattle.pm_volume.specs.declared.kinds.TheConstants.{CODE}
use Rattle.pm_volume.specs.Files.{file_bytes, file_named}
use Rattle.pm_codefile.specs.declared.file.Slot.{Slot}
use Rattle.pm_codefile.specs.Dictionary.{file_fault, segment_in, slot_in}
use Rattle.pm_units.specs.Devices.{image_on, unit_of}
use Rattle.pm_machine.specs.declared.boot.Begun.{Begun}
use Rattle.pm_machine.specs.declared.state.BootFault.{BootFault}
use Rattle.pm_machine.specs.declared.state.BootFault.TheVariants.{NoFile, NotCode, BadCode, Exec, NoMemory}
use Rattle.pm_stdproc.specs.declared.loads.SlotRow.{SlotRow}
use Rattle.pm_machine.specs.declared.state.Status.TheVariants as status
use Rattle.pm_machine.specs.State.{State, Whole}
use Rattle.pm_machine.specs.Start.{devices_with, with_system_frame}
use Rattle.pm_words.specs.declared.layout.TheConstants.{HEAP, SYSTEM_FRAME}

-- The given value, or the fault `fault` if it is missing.
abbrev pub some_or : {A : Type 0} → BootFault → Option A → Result A BootFault
some_or fault (Some x) = Ok x
some_or fault None = Err fault

-- The image on disk unit `unit`. `None` if `unit` is not a disk unit or has no image.
unfoldable pub image_of : List (Option (List ℕ)) → ℕ → Option (List ℕ)
image_of images unit = image_on (unit_of unit) (devices_with images 0)

-- The directory entry and the bytes of the code file `name` on disk unit `unit`. The kind of the file must be code. It
-- must be a valid code file with a segment in slot 1.
unfoldable pub code_file : List (Option (List ℕ)) → ℕ → List ℕ → Result (Entry × List ℕ) BootFault
code_file images unit name = do
  image ← some_or NoFile (image_of images unit)
  entry ← some_or NoFile (file_named image name)
  _ ← demand (entry.kind == CODE) NotCode
  file ← some_or BadCode (file_bytes image entry)
  _ ← demand (is_none (file_fault file)) BadCode
  _ ← demand (is_some (segment_in file 1)) BadCode
  Ok (entry, file)

-- Where the disk of unit `unit` has the code of a slot. `first` is the first block of the code file.
abbrev pub row_of : ℕ → ℕ → Option Slot → SlotRow
row_of unit first None = record { unit = unit; block = 0; length = 0 }
row_of unit first (Some slot) =
    if slot.length == 0 then record { unit = unit; block = 0; length = 0 }
    else record { unit = unit; block = (first + slot.block) % 65536; length = slot.length }

-- Where the disk has the code of each of the first slots, of the given number.
unfoldable pub rows_below : ℕ → ℕ → List ℕ → ℕ → List SlotRow
rows_below unit first file zero = []
rows_below unit first file (suc n) = rows_below unit first file n ++ row_of unit first (slot_in file n) ∷ []

-- The machine before its first call: the memory contains only the system's frame, the heap begins at 1,024, and no
-- segment is loaded.
unfoldable pub first_parts : Parts
first_parts = record {
  memory = with_system_frame zero_words;
  registers = record {
    sp = SYSTEM_FRAME;
    ipc = 0;
    seg = 0;
    jtab = 0;
    mp = SYSTEM_FRAME;
    base = SYSTEM_FRAME;
    np = HEAP;
    ioresult = 0;
  };
  places = replicate 16 None;
}

-- The given result, with an execution error changed to the fault `Exec`.
abbrev pub or_exec : {A : Type 0} → Result A ExecError → Result A BootFault
or_exec (Ok x) = Ok x
or_exec (Err e) = Err (Exec e)

-- The machine after the start of the program `name` on disk unit `unit`, and where the disk has the code of its 16
-- slots. A program starts with a call of procedure 1 of slot 1. This call loads the segment of slot 1.
unfoldable pub begun : List (Option (List ℕ)) → ℕ → List ℕ → Result (Parts × List SlotRow) BootFault
begun images unit name = do
  found ← code_file images unit name
  parts ← or_exec (called first_parts (Cxp 1 1) (segment_in found.1 1))
  Ok (parts, rows_below unit found.0.first found.1 16)

-- The whole state at the start of the program `name` on disk unit `unit`. The images are the disks, the input queue is
-- empty, and nothing was written. The first call does not count as a step.
unfoldable pub boot_start : List (Option (List ℕ)) → ℕ → List ℕ → ℕ → Result State BootFault
boot_start images unit name clock = do
  b ← begun images unit name
  Ok (record {
    memory = b.0.memory;
    registers = b.0.registers;
    steps = 0;
    status = status.Running;
    places = b.0.places;
    rows = b.1;
    devices = devices_with images clock;
  })

-- The parts of the starting machine `b` that calls use.
abbrev pub parts_of : Begun → Parts
parts_of b = record { memory = b.memory.value.words; registers = b.registers; places = b.frames.places }

-- The program started as `start` defines, or was refused with its fault. `NoMemory` is possible only if the code file
-- was found (`found` is not a fault).
abbrev pub Begins : Result Begun BootFault → Result (Entry × List ℕ) BootFault → Result (Parts × List SlotRow) BootFault
    → Type 0
Begins (Ok b) found start = start ≡ Ok (parts_of b, b.rows)
Begins (Err NoFile) found start = start ≡ Err NoFile
Begins (Err NotCode) found start = start ≡ Err NotCode
Begins (Err BadCode) found start = start ≡ Err BadCode
Begins (Err (Exec e)) found start = start ≡ Err (Exec e)
Begins (Err NoMemory) found start = IsOk found

-- A machine was created as `start` defines, or was refused with its fault. `NoMemory` is possible only if the code file
-- was found (`found` is not a fault).
abbrev pub Boots : {A : Type 0} → Result Whole (BootFault × A) → Result (Entry × List ℕ) BootFault
    → Result State BootFault → Type 0
Boots (Ok m) found start = start ≡ Ok m.state
Boots (Err (NoFile, back)) found start = start ≡ Err NoFile
Boots (Err (NotCode, back)) found start = start ≡ Err NotCode
Boots (Err (BadCode, back)) found start = start ≡ Err BadCode
Boots (Err (Exec e, back)) found start = start ≡ Err (Exec e)
Boots (Err (NoMemory, back)) found start = IsOk found
