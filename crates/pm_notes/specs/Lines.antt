-- The text of a code file with notes, written as comments after its lines.
use Rattle.std.specs.Prelude.{ℕ, List, [], ◌∷◌, ◌++◌, ◌==◌, if◌then◌else◌, codes, Option, Some, None}
use Rattle.pm_notes.specs.Marks.{note_on}

-- A note as a comment. Without a note, the comment is empty.
abbrev pub comment : Option (List ℕ) → List ℕ
comment None = []
comment (Some note) = codes " ; " ++ note

-- The line `line` with the note on it as a comment.
unfoldable pub named_line : List ℕ → List ℕ → List ℕ
named_line file line = line ++ comment (note_on file line)

-- The remaining text with a note on each line. `line` is the beginning of the first line, which was already read.
unfoldable pub named_from : List ℕ → List ℕ → List ℕ → List ℕ
named_from file line [] = named_line file line
named_from file line (c ∷ cs) =
    if c == 10 then named_line file line ++ 10 ∷ named_from file [] cs else named_from file (line ++ c ∷ []) cs

-- The text of the code file `file` with the notes on its lines.
unfoldable pub with_names : List ℕ → List ℕ → List ℕ
with_names file text = named_from file [] text
