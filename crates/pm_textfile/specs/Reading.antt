-- The text that the bytes of a text file encode.
use Rattle.std.specs.Prelude.{◌==◌, ℕ, ◌-◌, List, [], ◌∷◌, ◌++◌, drop, replicate, if◌then◌else◌}
use Rattle.pm_textfile.specs.declared.decoding.LinePart.{LinePart}
use Rattle.pm_textfile.specs.declared.decoding.LinePart.TheVariants.{LineStart, Indentation, Line}

-- The text of the remaining bytes, if the reader is in the given state.
--   LineStart: a zero is skipped, 13 is an empty line, 16 begins an indentation, and any other byte begins a line.
--   Indentation: the next byte, for any value, is the number of spaces plus 32. If it is below 32, there are no spaces.
--   Line: a zero is skipped, 13 ends the line, and any other byte, including 16, is a character.
--   At the end of the bytes, a line feed is added in the states Indentation and Line.
unfoldable pub text_from : LinePart → List ℕ → List ℕ
text_from LineStart [] = []
text_from Indentation [] = 10 ∷ []
text_from Line [] = 10 ∷ []
text_from Indentation (v ∷ bs) = replicate (v - 32) 32 ++ text_from Line bs
text_from LineStart (b ∷ bs) =
    if b == 0 then text_from LineStart bs
    else (if b == 13 then 10 ∷ text_from LineStart bs
    else (if b == 16 then text_from Indentation bs
    else b ∷ text_from Line bs))
text_from Line (b ∷ bs) =
    if b == 0 then text_from Line bs
    else (if b == 13 then 10 ∷ text_from LineStart bs
    else b ∷ text_from Line bs)

-- The text of a file: the text of the bytes after the first 1,024.
abbrev pub text_of_file : List ℕ → List ℕ
text_of_file bytes = text_from LineStart (drop 1024 bytes)
