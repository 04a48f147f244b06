-- The contents that the files of a volume get in a folder.
use Rattle.std.specs.Prelude.{ℕ, ◌==◌, ◌&&◌, nat_le, Bool, false, List, [], ◌∷◌, length, Option, None, Some}
use Rattle.std.specs.Prelude.{if◌then◌else◌}
use Rattle.std.specs.List.{flat_map}
use Rattle.pm_textfile.specs.Reading.{text_of_file}
use Rattle.pm_volume.specs.declared.kinds.TheConstants.{TEXT}
use Rattle.pm_folder.specs.declared.contents.Ends.{Ends}
use Rattle.pm_folder.specs.declared.contents.Ends.TheVariants as ends
use Rattle.pm_folder.specs.declared.contents.How.{How}
use Rattle.pm_folder.specs.declared.contents.How.TheVariants as how

-- The bytes for a character of a text: the line ends `ends` for byte 10, and any other byte unchanged.
abbrev pub byte_with_ends : Ends → ℕ → List ℕ
byte_with_ends ends.Lf byte = byte ∷ []
byte_with_ends ends.CrLf byte = if byte == 10 then 13 ∷ 10 ∷ [] else byte ∷ []
byte_with_ends ends.Cr byte = if byte == 10 then 13 ∷ [] else byte ∷ []

abbrev pub with_ends : Ends → List ℕ → List ℕ
with_ends e text = flat_map (byte_with_ends e) text

-- Whether a file is written as a text: the line ends of texts are given, the kind is text, and the bytes include a
-- header.
abbrev pub is_text : Option Ends → ℕ → List ℕ → Bool
is_text None kind bytes = false
is_text (Some e) kind bytes = kind == TEXT && nat_le 1024 (length bytes)

-- The form in which a file is written: its text or its bytes.
abbrev pub how_of : Option Ends → ℕ → List ℕ → How
how_of text kind bytes = if is_text text kind bytes then how.Text else how.Bytes

-- The contents that are written for a file with the kind `kind` and the bytes `bytes`.
abbrev pub content_of : Option Ends → ℕ → List ℕ → List ℕ
content_of None kind bytes = bytes
content_of (Some e) kind bytes = if is_text (Some e) kind bytes then with_ends e (text_of_file bytes) else bytes
