-- The layout of lines on pages, in the order in which a writer writes them. `Writing` defines which files are the text
-- file of a text. A clause of `encode` states that the file which `text_file` defines is such a file.
use Rattle.std.specs.Prelude.{ℕ, ◌-◌, List, [], ◌∷◌, ◌++◌, length, replicate, nat_le, if◌then◌else◌}
use Rattle.pm_textfile.specs.Writing.{TextLine, coded, text_lines}

-- The bytes of the encoded lines on pages, if `room` bytes of the current page are free.
unfoldable pub laid : ℕ → List TextLine → List ℕ
laid room [] = replicate room 0
laid room (line ∷ lines) =
    if nat_le (length (coded line)) room then coded line ++ laid (room - length (coded line)) lines
    else replicate room 0 ++ coded line ++ laid (1024 - length (coded line)) lines

-- The text file of `text`: the header, and then the lines of the text on pages.
unfoldable pub text_file : List ℕ → List ℕ
text_file text = replicate 1024 0 ++ laid 0 (text_lines text)
