-- The code file of a program, the program file, with the segment that another code file, the system file, has in slot
-- 0.
use Rattle.std.specs.Prelude.{ℕ, ◌*◌, ◌-◌, List, ◌++◌, length, nat_lt, replicate, Option, Some, None, Result, Ok, Err}
use Rattle.std.specs.Prelude.{is_some, if◌then◌else◌}
use Rattle.pm_bytes.specs.Blocks.{blocks_for}
use Rattle.pm_bytes.specs.Words.{with_word_in, written}
use Rattle.pm_bytes.specs.declared.blocks.TheConstants.{BLOCK}
use Rattle.pm_codefile.specs.Dictionary.{file_fault, segment_in, slot_in}
use Rattle.pm_codefile.specs.declared.fault.CodeFault.{CodeFault}
use Rattle.pm_codefile.specs.declared.file.Slot.{Slot}
use Rattle.pm_filer.specs.declared.system_fault.SystemFault.{SystemFault}
use Rattle.pm_filer.specs.declared.system_fault.SystemFault.TheVariants.{NoCode, NoSegment, NoProgram, Taken, Volume}
use Rattle.pm_volume.specs.declared.fault.VolumeFault.TheVariants.{NoRoom}

-- The file `file`, padded with zeros to whole blocks.
abbrev pub filled : List ℕ → List ℕ
filled file = file ++ replicate (BLOCK * blocks_for (length file) - length file) 0

-- The file in whose dictionary slot 0 has the block `block`, and the length and the name of `slot`. These are the words
-- at offsets 0 and 2, and the 8 bytes at offset 64.
abbrev pub saying : List ℕ → ℕ → Slot → List ℕ
saying file block slot = written (with_word_in (with_word_in file 0 block) 2 slot.length) 64 slot.name

-- The code file `file` with `segment` after its last block. Slot 0 of its dictionary describes this segment.
unfoldable pub with_segment : List ℕ → Slot → List ℕ → List ℕ
with_segment file slot segment = saying (filled file) (blocks_for (length file)) slot ++ segment

-- The slot and its segment, if both exist, and otherwise `NoSegment`.
abbrev pub both_of : Option Slot → Option (List ℕ) → Result (Slot × List ℕ) SystemFault
both_of None segment = Err NoSegment
both_of (Some slot) None = Err NoSegment
both_of (Some slot) (Some segment) = Ok (slot, segment)

-- Slot 0 of the system file `system` and its segment. If `system` is not a code file, the fault is `NoCode`; this comes
-- before `NoSegment`.
abbrev pub slot_or : List ℕ → Option CodeFault → Result (Slot × List ℕ) SystemFault
slot_or system (Some fault) = Err (NoCode fault)
slot_or system None = both_of (slot_in system 0) (segment_in system 0)

unfoldable pub system_slot : List ℕ → Result (Slot × List ℕ) SystemFault
system_slot system = slot_or system (file_fault system)

-- The program file `file` with `segment` added, or a fault. These faults are checked in this order:
-- - `file` is not a code file.
-- - Its slot 0 has a segment.
-- - It has more blocks than a volume can have.
abbrev pub given_or : List ℕ → Slot → List ℕ → Option CodeFault → Result (List ℕ) SystemFault
given_or file slot segment (Some fault) = Err (NoProgram fault)
given_or file slot segment None =
    if is_some (segment_in file 0) then Err Taken
    else (if nat_lt 65535 (blocks_for (length file)) then Err (Volume NoRoom)
    else Ok (with_segment file slot segment))

unfoldable pub given : List ℕ → Slot → List ℕ → Result (List ℕ) SystemFault
given file slot segment = given_or file slot segment (file_fault file)

abbrev pub given_of : List ℕ → Result (Slot × List ℕ) SystemFault → Result (List ℕ) SystemFault
given_of file (Ok (slot, segment)) = given file slot segment
given_of file (Err fault) = Err fault

-- The program file `file` with the segment of the system file `system`, or a fault. A fault of the system file comes
-- first.
abbrev pub with_system : List ℕ → List ℕ → Result (List ℕ) SystemFault
with_system file system = given_of file (system_slot system)
