-- Laws of texts and of the programs that texts define.
use Rattle.std.specs.Prelude.{◌≡◌, ℕ, List, []}
use Rattle.pm_code.specs.Program.{Procedure, Segment, IsProgram, FitSlots}
use Rattle.pm_code.specs.Shown.{program_text}
use Rattle.pm_source.specs.Source.{Source, SourceSegment, statements, AreSources}
use Rattle.pm_source.specs.Faults.{faults, faults_of_lines, label_faults, lines_of, source_of}
use Rattle.pm_source.specs.Meaning.{AreSaid, MeansProcedure, Spells, found_procedure, program_of}

-- If no line of a text has a fault, then its lines state the statements of the segments `source_of text`, and these
-- segments are sound (`AreSources`).
abbrev pub FaultlessIsSaid : Type 0
FaultlessIsSaid =
    (text : List ℕ) → faults_of_lines text ≡ [] → AreSaid (lines_of text) (statements (source_of text))
    × AreSources (source_of text)

-- If the lines of a text state the statements of the sound segments `source`, then no line has a fault, and `source`
-- are the segments of the text.
abbrev pub SaidIsFaultless : Type 0
SaidIsFaultless =
    (text : List ℕ) (source : List SourceSegment) → AreSaid (lines_of text) (statements source) → AreSources source
    → (faults_of_lines text ≡ []) × (source_of text ≡ source)

-- The labels of the procedure `p` have no fault if and only if `p` means a procedure of a program. In this case `p`
-- means only this procedure.
abbrev pub LabelsFound : Type 0
LabelsFound = (at : ℕ) (p : Source) → label_faults at p ≡ [] → MeansProcedure p (found_procedure at p)

abbrev pub FoundIsFaultless : Type 0
FoundIsFaultless =
    (p : Source) (q : Procedure) → MeansProcedure p q → (label_faults q.start p ≡ []) × (found_procedure q.start p ≡ q)

-- If a text has no faults, then it defines the program `program_of text`.
abbrev pub FaultlessIsSpelled : Type 0
FaultlessIsSpelled = (text : List ℕ) → faults text ≡ [] → Spells text (program_of text)

-- If a text defines the segments `ss`, and these fit into the slots, then they are a program.
abbrev pub SpelledIsProgram : Type 0
SpelledIsProgram = (text : List ℕ) (ss : List Segment) → Spells text ss → FitSlots ss → IsProgram ss

-- If a text defines the program `ss`, then it has no faults, and it defines no other program.
abbrev pub SpelledIsFaultless : Type 0
SpelledIsFaultless = (text : List ℕ) (ss : List Segment) → Spells text ss → (faults text ≡ []) × (program_of text ≡ ss)

-- If a program fits into the slots, then the text that is shown for it defines this program.
abbrev pub ShownIsSpelled : Type 0
ShownIsSpelled = (ss : List Segment) → IsProgram ss → FitSlots ss → Spells (program_text ss) ss
