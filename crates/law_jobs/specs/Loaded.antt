-- Laws about the memory of a machine that loads the code file of a text.
use Rattle.std.specs.Prelude.{◌≡◌, ℕ, ◌+◌, ◌-◌, List, Option, Some, None, Ok, length}
use Rattle.pm_words.specs.Words.{bytes_at}
use Rattle.pm_calls.specs.Places.{placed}
use Rattle.pm_volume.specs.declared.entry.Entry.{Entry}
use Rattle.pm_volume.specs.Files.{file_bytes, file_named}
use Rattle.pm_codefile.specs.Dictionary.{file_fault}
use Rattle.pm_units.specs.Devices.{image_on, unit_of}
use Rattle.pm_code.specs.Program.{segment_numbered, Segment}
use Rattle.pm_code.specs.Image.{listed_bytes, listed_segment, listing}
use Rattle.pm_source.specs.Meaning.{Spells}
use Rattle.pm_asm.specs.Assembled.{assembled}
use Rattle.pm_machine.specs.declared.state.Stop.TheVariants.{Went}
use Rattle.pm_machine.specs.Boot.{boot_start, code_file, image_of}
use Rattle.pm_machine.specs.State.{State}
use Rattle.pm_machine.specs.Steps.{stepped}
use Rattle.law_engine.specs.Loads.{IsAtCall, IsAtKeep, IsBootedFrom, IsImage}
use Rattle.pm_words.specs.declared.layout.TheConstants.{SYSTEM_FRAME}

-- Returns the listed bytes of a segment: the joined bytes of its lines in the listing.
abbrev pub listed : Segment → List ℕ
listed s = listed_bytes (listed_segment s)

-- `text` spells a program with the listing `shown`. Memory has the listed bytes of segment `n`, directly below the
-- address `below`.
pub record StandsAsListed (text shown : List ℕ) (n below : ℕ) (memory : List ℕ) : Type 0 where
  pub program : List Segment
  pub spelled : Spells text program
  pub lines : shown ≡ listing program
  pub segment : Segment
  pub numbered : segment_numbered n program ≡ Some segment
  pub stands : bytes_at memory (below - length (listed segment)) (length (listed segment)) ≡ listed segment

-- If a machine was booted from the code file of an assembled text on a volume, the unit still has this volume after any
-- events, and a step calls a procedure of slot `n`, which has no address, and succeeds, then memory has segment `n` as
-- listed, directly below the SP before the step.
abbrev pub AssembledLoadsListed : State → Type 0
AssembledLoadsListed s =
    (text shown file image : List ℕ) (unit n p : ℕ) →
    assembled text ≡ Ok (file, shown) →
    IsImage image → IsBootedFrom image file unit s → image_on (unit_of unit) s.devices ≡ Some image →
    placed s.places n ≡ None → IsAtCall n p s → (stepped s).1 ≡ Went →
    StandsAsListed text shown n s.registers.sp (stepped s).0.memory

-- If a step of such a machine keeps the segment of slot `n`, which has no address, by standard procedure 21 and
-- succeeds, then memory has segment `n` as listed, directly below the SP after the operand is popped.
abbrev pub AssembledKeepsListed : State → Type 0
AssembledKeepsListed s =
    (text shown file image : List ℕ) (unit n : ℕ) →
    assembled text ≡ Ok (file, shown) →
    IsImage image → IsBootedFrom image file unit s → image_on (unit_of unit) s.devices ≡ Some image →
    placed s.places n ≡ None → IsAtKeep n s → (stepped s).1 ≡ Went →
    StandsAsListed text shown n (s.registers.sp + 2) (stepped s).0.memory

-- If a machine is booted from the code file of a text, then it starts with segment 1 as listed, directly below 65,492.
abbrev pub AssembledBootsListed : Type 0
AssembledBootsListed =
    (text shown file : List ℕ) (images : List (Option (List ℕ))) (image name : List ℕ) (entry : Entry)
    (unit clock : ℕ) (s : State) →
    assembled text ≡ Ok (file, shown) →
    IsImage image → image_of images unit ≡ Some image → code_file images unit name ≡ Ok (entry, file) →
    boot_start images unit name clock ≡ Ok s → StandsAsListed text shown 1 SYSTEM_FRAME s.memory

-- An assembled file is a code file: it has no fault.
abbrev pub AssembledIsAccepted : Type 0
AssembledIsAccepted = (text shown file : List ℕ) → assembled text ≡ Ok (file, shown) → file_fault file ≡ None

-- If the text has a segment 1, and a volume has its code file under a name as a file of kind 2, then a boot by this
-- name finds the code file.
abbrev pub AssembledIsFound : Type 0
AssembledIsFound =
    (text shown file : List ℕ) (program : List Segment) (segment : Segment) (images : List (Option (List ℕ)))
    (image name : List ℕ) (entry : Entry) (unit : ℕ) →
    assembled text ≡ Ok (file, shown) → Spells text program → segment_numbered 1 program ≡ Some segment →
    image_of images unit ≡ Some image → file_named image name ≡ Some entry →
    entry.kind ≡ 2 → file_bytes image entry ≡ Some file →
    code_file images unit name ≡ Ok (entry, file)
