-- Laws of programs that are disassembled to a text, and of texts that are assembled to programs.
use Rattle.std.specs.Prelude.{◌≡◌, ℕ, List, Ok}
use Rattle.std.specs.List.{AllByRecursion, AllZip}
use Rattle.pm_code.specs.Image.{file_of}
use Rattle.pm_code.specs.Laws.{IsSameSegment}
use Rattle.pm_code.specs.Program.{AreInstructions, FitSlots, IsProgram, Procedure, Segment}
use Rattle.pm_disasm.specs.Shown.{file_text}
use Rattle.pm_notes.specs.Lines.{with_names}
use Rattle.pm_source.specs.Meaning.{Spells}
use Rattle.pm_asm.specs.Assembled.{assembled}

-- The text of the code file of the program `ss` spells the program `ts`, which has the same code file. The segments of
-- both programs have the same numbers, names and bytes. If all items of all segments of `ss` are instructions, then
-- `ts` is `ss`.
pub record IsShownAgain (ss ts : List Segment) : Type 0 where
  pub spelled : Spells (file_text (file_of ss)) ts
  pub segments : AllZip IsSameSegment ss ts
  pub file : file_of ts ≡ file_of ss
  pub same : AllByRecursion (λ s. AllByRecursion (λ (p : Procedure). AreInstructions p.items) s.procedures) ss → ts ≡ ss

abbrev pub ShownFileIsSpelled : Type 0
ShownFileIsSpelled = (ss : List Segment) → IsProgram ss → FitSlots ss → (ts : List Segment) × IsShownAgain ss ts

-- The disassembler's text of an assembled code file is assembled to the same code file.
abbrev pub AssembledIsShownAgain : Type 0
AssembledIsShownAgain = (text file shown : List ℕ) → assembled text ≡ Ok (file, shown)
    → (again : List ℕ) × (assembled (file_text file) ≡ Ok (file, again))

-- For any file, a text with notes is assembled to the same result as the text without notes.
abbrev pub NamesSayNothing : Type 0
NamesSayNothing = (file text : List ℕ) → assembled (with_names file text) ≡ assembled text

-- The disassembler's text with notes of an assembled code file is assembled to the same code file.
abbrev pub NamedIsShownAgain : Type 0
NamedIsShownAgain = (text file shown : List ℕ) → assembled text ≡ Ok (file, shown)
    → (again : List ℕ) × (assembled (with_names file (file_text file)) ≡ Ok (file, again))
