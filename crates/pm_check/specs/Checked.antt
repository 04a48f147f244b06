-- The text of a check: a line for each fault and each note, and a last line.
use Rattle.std.specs.Prelude.{ℕ, ◌==◌, List, [], ◌∷◌, ◌++◌, codes, length, if◌then◌else◌}
use Rattle.std.specs.Fmt.{decimal}
use Rattle.std.specs.List.{flat_map}
use Rattle.pm_check.specs.declared.finding.Finding.{Finding}
use Rattle.pm_check.specs.declared.note.Note.{Note}
use Rattle.pm_check.specs.Findings.{finding_text}
use Rattle.pm_check.specs.Notes.{image_notes}
use Rattle.pm_check.specs.NoteTexts.{note_text}
use Rattle.pm_check.specs.Rules.{image_findings}

unfoldable pub finding_line : Finding → List ℕ
finding_line finding = finding_text finding ++ 10 ∷ []

unfoldable pub note_line : Note → List ℕ
note_line note = note_text note ++ 10 ∷ []

-- The last line of a check that found `count` faults.
abbrev pub last_line : ℕ → List ℕ
last_line count = if count == 0 then codes "good" ++ 10 ∷ [] else codes "faults " ++ (decimal count ++ 10 ∷ [])

-- The whole text of a check of `image`.
unfoldable pub check_text : List ℕ → List ℕ
check_text image =
    flat_map finding_line (image_findings image)
    ++ (flat_map note_line (image_notes image) ++ last_line (length (image_findings image)))
