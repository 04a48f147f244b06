-- Laws that the lines of a listing cover the bytes of a procedure and of a segment without gaps.
use Rattle.std.specs.Prelude.{◌≡◌, ◌≤◌, ℕ, ◌+◌, ◌-◌, List, Some, drop, length, take}
use Rattle.std.specs.List.{AllByRecursion}
use Rattle.pm_codefile.specs.Segments.{attributes_in}
use Rattle.pm_codefile.specs.declared.table.Attributes.{Attributes}
use Rattle.pm_code.specs.Image.{Listed, StandFrom, listed_bytes, listed_lines}
use Rattle.pm_code.specs.Item.{IsByte}
use Rattle.pm_code.specs.Program.{IsSegment, Segment, segment_bytes}
use Rattle.pm_disasm.specs.Listing.{slot_listing, table_listing_or}

-- The listing of procedure `n` of `segment` consists of lines. The first line begins at the first byte of the code, and
-- each other line at the end of the line before it. The joined bytes of the lines are the bytes of the segment from the
-- first byte of the code to the end of the table of the procedure.
pub record CoversProcedure (slot : ℕ) (segment : List ℕ) (n : ℕ) (a : Attributes) : Type 0 where
  pub lines : List Listed
  pub text : table_listing_or slot segment n (Some a) ≡ listed_lines slot lines
  pub placed : StandFrom a.enter lines
  pub bytes : listed_bytes lines ≡ take (a.jtab + 2 - a.enter) (drop a.enter segment)

-- If a procedure of a segment of bytes has a table, and its exit code is not before its code, then the lines of the
-- listing cover it.
abbrev pub LinesCoverProcedures : Type 0
LinesCoverProcedures = (slot : ℕ) (segment : List ℕ) (n : ℕ) (a : Attributes) → AllByRecursion IsByte segment
    → attributes_in segment n ≡ Some a → a.enter ≤ a.exit → CoversProcedure slot segment n a

-- The listing of the whole segment consists of lines. The first line begins at offset 0, and each other line at the end
-- of the line before it. The joined bytes of the lines are the segment.
pub record CoversSegment (slot : ℕ) (segment : List ℕ) : Type 0 where
  pub lines : List Listed
  pub text : slot_listing slot (Some segment) ≡ listed_lines slot lines
  pub placed : StandFrom 0 lines
  pub bytes : listed_bytes lines ≡ segment

-- If a segment of a program has at most 65,534 bytes, then the lines of the listing cover it, even if some of its code
-- is not instructions.
abbrev pub LinesCoverSegments : Type 0
LinesCoverSegments = (s : Segment) → IsSegment s → length (segment_bytes s) ≤ 65534
    → CoversSegment s.number (segment_bytes s)
