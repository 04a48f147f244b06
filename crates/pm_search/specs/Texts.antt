-- The lines of text files that contain some bytes.
use Rattle.std.specs.Prelude.{ℕ, ◌+◌, ◌==◌, ◌||◌, nat_lt, Bool, List, [], ◌∷◌, ◌++◌, length, take, Option, None, Some}
use Rattle.std.specs.Prelude.{Result, Ok, Err, if◌then◌else◌}
use Rattle.std.specs.List.{flat_map}
use Rattle.std.specs.Str.{bytes_eq}
use Rattle.pm_filer.specs.Filed.{Answer, Bytes, Done, Filed, Lines, text_read}
use Rattle.pm_filer.specs.declared.fault.FilerFault.{FilerFault}
use Rattle.pm_textfile.specs.Reading.{text_of_file}
use Rattle.pm_textfile.specs.Writing.{TextLine, text_lines}
use Rattle.pm_volume.specs.Files.{file_bytes, files_of}
use Rattle.pm_volume.specs.Names.{characters_of}
use Rattle.pm_volume.specs.declared.entry.Entry.{Entry}
use Rattle.pm_volume.specs.declared.kinds.TheConstants.{TEXT}
use Rattle.pm_search.specs.Lines.{file_front, match_line}

-- Is true if `line` begins with the bytes `needle`.
abbrev pub begins_with : List ℕ → List ℕ → Bool
begins_with needle line = bytes_eq (take (length needle) line) needle

-- Is true if `line` contains the bytes `needle`: it begins with them, or the bytes after its first byte contain them.
unfoldable pub contains : List ℕ → List ℕ → Bool
contains needle [] = begins_with needle []
contains needle (byte ∷ rest) = begins_with needle (byte ∷ rest) || contains needle rest

-- The line for one line of a text file, if this line contains `needle`.
abbrev pub matching : List ℕ → List ℕ → ℕ → TextLine → List ℕ
matching needle front n line = if contains needle line then match_line front n line else []

-- The lines for some lines of a text file, of which the first has the number `n`.
unfoldable pub matches_from : List ℕ → List ℕ → ℕ → List TextLine → List ℕ
matches_from needle front n [] = []
matches_from needle front n (line ∷ lines) = matching needle front n line ++ matches_from needle front (n + 1) lines

-- The text in the reply of a command, if there is one.
abbrev pub text_of_answer : Answer → Option (List ℕ)
text_of_answer (Lines text) = None
text_of_answer (Bytes text) = Some text
text_of_answer Done = None

-- The text that a command returned, unless it was refused.
abbrev pub text_returned : Result Filed FilerFault → Option (List ℕ)
text_returned (Ok filed) = text_of_answer filed.answer
text_returned (Err fault) = None

-- The text of the file of the entry `e`, as `files gettext` returns it. There is no text if the kind of the file is not
-- text, or if `files gettext` refuses the file: it has no header, or its bytes are not all in the image.
abbrev pub text_in : List ℕ → Entry → Option (List ℕ)
text_in image e = if e.kind == TEXT then text_returned (text_read image (file_bytes image e)) else None

-- The text of a text file with these bytes, if it has a header.
abbrev pub decoded : List ℕ → Option (List ℕ)
decoded bytes = if nat_lt (length bytes) 1024 then None else Some (text_of_file bytes)

-- The lines for the text of a file, if there is one. The first line of the text has the number 1.
abbrev pub text_matches : List ℕ → List ℕ → Option (List ℕ) → List ℕ
text_matches needle front None = []
text_matches needle front (Some text) = matches_from needle front 1 (text_lines text)

-- The lines for the file of the entry `e`.
abbrev pub file_text : List ℕ → List ℕ → List ℕ → Entry → List ℕ
file_text path needle blocks e = text_matches needle (file_front path (characters_of e.name)) (text_in blocks e)

-- The lines for all files of the volume `blocks`, in directory order.
abbrev pub lines_text : List ℕ → List ℕ → List ℕ → List ℕ
lines_text path blocks needle = flat_map (file_text path needle blocks) (files_of blocks)
