-- Statements about a program and its code file.
use Rattle.std.specs.Prelude.{◌≡◌, ℕ, ◌-◌, ◌<◌, List, [], ◌∷◌, ◌++◌, length, replicate, Option, Some, None, option_map}
use Rattle.std.specs.List.{AllByRecursion}
use Rattle.pm_codefile.specs.declared.file.Slot.{Slot}
use Rattle.pm_codefile.specs.Dictionary.{file_fault, segment_in, slot_in}
use Rattle.pm_code.specs.Program.{AreInstructions, FitSlots, IsProgram, Procedure, Segment, segment_bytes}
use Rattle.pm_code.specs.Program.{segment_numbered}
use Rattle.pm_code.specs.Image.{file_of}

-- The name of a slot, or no characters if no slot is given.
abbrev pub name_of : Option Slot → List ℕ
name_of None = []
name_of (Some slot) = slot.name

-- States that the code file `file` contains the program `ss`. The slot `n` has the bytes of the segment with number
-- `n`, or no segment. The name of the slot is the name of the segment, padded with spaces.
pub record Holds (file : List ℕ) (ss : List Segment) : Type 0 where
  pub segments : (n : ℕ) → n < 16 → segment_in file n ≡ option_map segment_bytes (segment_numbered n ss)
  pub names : (n : ℕ) (s : Segment) → segment_numbered n ss ≡ Some s
      → name_of (slot_in file n) ≡ s.name ++ replicate (8 - length s.name) 32

-- States that the segments `s` and `t` have the same number, name and bytes. If all items of `s` are instructions, the
-- two segments are equal.
pub record IsSameSegment (s t : Segment) : Type 0 where
  pub number : t.number ≡ s.number
  pub name : t.name ≡ s.name
  pub bytes : segment_bytes t ≡ segment_bytes s
  pub same : AllByRecursion (λ (p : Procedure). AreInstructions p.items) s.procedures → t ≡ s

-- States that the code file of a program contains the program. Each segment is in the slot with its number, with its
-- name.
abbrev pub FileHoldsProgram : Type 0
FileHoldsProgram = (ss : List Segment) → IsProgram ss → FitSlots ss → Holds (file_of ss) ss

-- States that the code file of a program has no fault, as `file_fault` defines it.
abbrev pub FileIsAccepted : Type 0
FileIsAccepted = (ss : List Segment) → IsProgram ss → FitSlots ss → file_fault (file_of ss) ≡ None
