-- Laws of the contents of a code file after a segment is put into its slot 0.
use Rattle.std.specs.Prelude.{◌≡◌, ◌≤◌, ◌<◌, ◌%◌, ℕ, List, length, Some}
use Rattle.pm_bytes.specs.Blocks.{blocks_for}
use Rattle.pm_codefile.specs.Dictionary.{IsCodeFile, block_in, segment_in, slot_in}
use Rattle.pm_codefile.specs.declared.file.Slot.{Slot}
use Rattle.pm_filer.specs.SystemSegments.{with_segment}

-- The slot `slot` describes `segment`: its length is the number of bytes of the segment, which is 1 to 65,535. Its name
-- has 8 bytes.
pub record IsSlot (slot : Slot) (segment : List ℕ) : Type 0 where
  pub some : 0 < slot.length
  pub word : slot.length < 65536
  pub size : length segment ≡ slot.length
  pub name : length slot.name ≡ 8

-- Slot 0 of the code file `new` has the bytes of `segment`. Each other slot is as in the code file `file`. If the
-- segment of such a slot begins after block 0, its bytes are unchanged too.
pub record HasBoth (file segment new : List ℕ) : Type 0 where
  pub zero : segment_in new 0 ≡ Some segment
  pub slots : (n : ℕ) → 1 ≤ n → slot_in new n ≡ slot_in file n
  pub segments : (n : ℕ) → 1 ≤ n → 1 ≤ block_in file n → segment_in new n ≡ segment_in file n

abbrev pub SegmentsStay : Type 0
SegmentsStay =
    (file segment : List ℕ) (slot : Slot) → IsCodeFile file → blocks_for (length file) < 65536 → IsSlot slot segment
    → HasBoth file segment (with_segment file slot segment)

-- If a segment of even length is put into a code file, then the new file is a code file: none of its slots has a fault.
abbrev pub NewFileIsSound : Type 0
NewFileIsSound =
    (file segment : List ℕ) (slot : Slot) → IsCodeFile file → blocks_for (length file) < 65536 → IsSlot slot segment
    → slot.length % 2 ≡ 0 → IsCodeFile (with_segment file slot segment)
