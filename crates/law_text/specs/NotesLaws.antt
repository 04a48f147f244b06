-- Laws of the notes that `dis --names` appends to lines, for code files of programs and for any files.
use Rattle.std.specs.Prelude.{◌≡◌, ◌<◌, ℕ, ◌+◌, ◌*◌, false, true, List, [], ◌∷◌, ◌++◌, ◌==◌, codes, Some, None}
use Rattle.std.specs.Fmt.{decimal}
use Rattle.pm_codefile.specs.Dictionary.{segment_in, word_in}
use Rattle.pm_code.specs.Image.{file_of}
use Rattle.pm_code.specs.Program.{FitSlots, IsProgram, Segment, is_segment_name}
use Rattle.pm_code.specs.Shown.{level_text, segment_line, words_text}
use Rattle.pm_notes.specs.Marks.{note_on}

-- In the code file of a program whose segments fit their slots, the line of a segment has no note: the low byte of the
-- highest word of each segment is the number of its slot, and all kinds are 0.
abbrev pub OwnSegmentsAreUntold : Type 0
OwnSegmentsAreUntold = (ss : List Segment) → IsProgram ss → FitSlots ss → (n : ℕ) (name : List ℕ) → n < 16
    → note_on (file_of ss) (segment_line n name) ≡ None

-- If a slot has kind 0, and the low byte of the highest word of its segment is not the number of the slot, then the
-- note of its line states this byte.
abbrev pub OtherNumbersAreTold : Type 0
OtherNumbersAreTold = (file front name : List ℕ) (n number count : ℕ) → n < 16 → is_segment_name name ≡ true
    → word_in file (192 + 2 * n) ≡ 0 → segment_in file n ≡ Some (front ++ number ∷ count ∷ []) → (number == n) ≡ false
    → note_on file (segment_line n name) ≡ Some (codes "number " ++ (decimal number ++ codes " in its highest word"))

-- Returns the first line of a procedure in a text.
abbrev pub procedure_line : ℕ → ℕ → ℕ → ℕ → List ℕ
procedure_line number level parameters locals =
    codes ".PROC" ++ words_text (decimal number ∷ level_text level ∷ decimal parameters ∷ decimal locals ∷ [])

-- For any file, the line of a procedure with the number 0 has the note `native code`, and the line of a procedure with
-- a number from 1 to 255 has no note.
pub record NativeCodeIsTold : Type 0 where
  pub zero : (file : List ℕ) (level parameters locals : ℕ)
      → note_on file (procedure_line 0 level parameters locals) ≡ Some (codes "native code")
  pub others : (file : List ℕ) (number level parameters locals : ℕ) → 0 < number → number < 256
      → note_on file (procedure_line number level parameters locals) ≡ None
