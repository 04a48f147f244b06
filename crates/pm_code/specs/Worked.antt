-- A worked example of a listing. The expected listing of one segment was worked out by hand.
use Rattle.std.specs.Prelude.{◌≡◌, ℕ, false, List, [], ◌∷◌, ◌++◌, codes}
use Rattle.pm_opcode.specs.declared.instr.Instr.{Instr}
use Rattle.pm_code.specs.Image.{listing}
use Rattle.pm_code.specs.Item.Item.{Plain}
use Rattle.pm_code.specs.Program.{Segment}

-- The characters of `lines`, with a line feed after each line.
abbrev pub characters_of : List (List ℕ) → List ℕ
characters_of [] = []
characters_of (line ∷ lines) = line ++ 10 ∷ characters_of lines

-- The instruction RBP 0.
abbrev pub return_instruction : Instr
return_instruction = record { op = 193; a = 0; b = 0; c = 0; long = false; start = 0; count = 0; len = 0 }

-- A segment with one procedure. The code of the procedure is one instruction, RBP 0, which is also its exit code.
abbrev pub least_segment : Segment
least_segment = record {
  number = 1;
  name = codes "A";
  procedures = record {
    level = 0;
    parameters = 0;
    locals = 0;
    start = 0;
    items = Plain return_instruction [] ∷ [];
    exit = 0;
    entries = [];
  } ∷ [];
}

-- States the listing of `least_segment`. Each byte is worked out from the format of a segment.
pub record WorkedListing : Type 0 where
  pub lines : listing (least_segment ∷ []) ≡ characters_of (
      codes "01 001 00000 C1 00  RBP 0"
      ∷ codes "01 001 00002 00 00 00 00 06 00 08 00 01 00  .ATTR"
      ∷ codes "01 000 00012 02 00 01 01  .DICT"
      ∷ [])
