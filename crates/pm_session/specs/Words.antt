-- Lines of an input, and words of a line.
use Rattle.std.specs.Prelude.{ℕ, ◌==◌, Bool, false, not, List, [], ◌∷◌, if◌then◌else◌}

-- The pieces with the byte `c` before the first piece.
abbrev pub with_character : ℕ → List (List ℕ) → List (List ℕ)
with_character c [] = (c ∷ []) ∷ []
with_character c (piece ∷ pieces) = (c ∷ piece) ∷ pieces

-- The pieces into which the bytes `mark` divide a text. A text without this byte is one piece.
unfoldable pub pieces_between : ℕ → List ℕ → List (List ℕ)
pieces_between mark [] = [] ∷ []
pieces_between mark (c ∷ text) =
    if c == mark then [] ∷ pieces_between mark text else with_character c (pieces_between mark text)

-- The pieces without the empty ones.
unfoldable pub without_empty : List (List ℕ) → List (List ℕ)
without_empty [] = []
without_empty ([] ∷ pieces) = without_empty pieces
without_empty ((c ∷ piece) ∷ pieces) = (c ∷ piece) ∷ without_empty pieces

-- The words of `line`: its pieces between spaces that are not empty.
unfoldable pub words_of_line : List ℕ → List (List ℕ)
words_of_line line = without_empty (pieces_between 32 line)

-- Is true if the line begins with a word. It is false if the line is empty or begins with a space.
abbrev pub begins_word : List ℕ → Bool
begins_word [] = false
begins_word (c ∷ line) = not (c == 32)

-- The line without a carriage return at its end.
unfoldable pub without_return : List ℕ → List ℕ
without_return [] = []
without_return (c ∷ []) = if c == 13 then [] else c ∷ []
without_return (c ∷ d ∷ line) = c ∷ without_return (d ∷ line)

-- The pieces without the last one if the last one is empty.
unfoldable pub without_empty_end : List (List ℕ) → List (List ℕ)
without_empty_end [] = []
without_empty_end ([] ∷ []) = []
without_empty_end ((c ∷ piece) ∷ []) = (c ∷ piece) ∷ []
without_empty_end (piece ∷ next ∷ pieces) = piece ∷ without_empty_end (next ∷ pieces)

-- The lines of `input`. Each line ends with a line feed. The last line can also end with the input.
unfoldable pub lines_of_input : List ℕ → List (List ℕ)
lines_of_input input = without_empty_end (pieces_between 10 input)
