-- The list of files as a JSON object. In strings 34 is a quotation mark, and 92 a backslash.
use Rattle.std.specs.Prelude.{ℕ, ◌-◌, ◌/◌, ◌%◌, ◌==◌, ◌&&◌, nat_le, true, List, [], ◌∷◌, ◌++◌, Option, length, codes}
use Rattle.std.specs.Prelude.{if◌then◌else◌}
use Rattle.std.specs.Fmt.{decimal, digit_glyph}
use Rattle.std.specs.List.{flat_map}
use Rattle.pm_folder.specs.Folder.{kind_text}
use Rattle.pm_volume.specs.Dates.{date_of}
use Rattle.pm_volume.specs.Directory.{block_count, directory_of}
use Rattle.pm_volume.specs.Names.{characters_of}
use Rattle.pm_volume.specs.Space.{free_blocks, largest_gap, volume_name}
use Rattle.pm_volume.specs.declared.entry.Entry.{Entry}
use Rattle.pm_volume.specs.Files.{bytes_of}
use Rattle.pm_table.specs.Rows.{rows_of}
use Rattle.pm_table.specs.declared.rows.TableRow.{TableRow}

-- ---- strings

-- The character for the byte `byte` of a name. A backslash is before a quotation mark and before a backslash. A byte
-- that is not printable is `\u00` and two hexadecimal digits.
abbrev pub byte_of : ℕ → List ℕ
byte_of byte =
    if byte == 34 then 92 ∷ 34 ∷ []
    else (if byte == 92 then 92 ∷ 92 ∷ []
    else (if nat_le 32 byte && nat_le byte 126 then byte ∷ []
    else 92 ∷ 117 ∷ 48 ∷ 48 ∷ digit_glyph true (byte / 16) ∷ digit_glyph true (byte % 16) ∷ []))

-- The name `name` as a string.
abbrev pub string_of : List ℕ → List ℕ
string_of name = 34 ∷ (flat_map byte_of name ++ 34 ∷ [])

-- ---- files

-- The first members of the object of a file: its slot and its name.
abbrev pub name_of : TableRow → List ℕ
name_of row =
    codes "{\"slot\": " ++ (decimal row.slot ++ (codes ", \"name\": " ++ string_of (characters_of row.entry.name)))

-- The next member: the kind.
abbrev pub kind_of : ℕ → List ℕ
kind_of kind = codes ", \"kind\": \"" ++ (kind_text kind ++ codes "\"")

-- The next members: the first block, the number of blocks, the number of bytes in the last block, and the number of
-- bytes.
abbrev pub numbers_of : List ℕ → Entry → List ℕ
numbers_of image e =
    codes ", \"first\": " ++ (decimal e.first ++ (codes ", \"blocks\": " ++ (decimal (e.end - e.first)
    ++ (codes ", \"lastBytes\": " ++ (decimal e.last_bytes
    ++ (codes ", \"bytes\": " ++ decimal (length (bytes_of image e))))))))

-- The last members: the year, the month and the day that the date word `word` contains.
abbrev pub date_members : ℕ → List ℕ
date_members word =
    codes ", \"year\": " ++ (decimal (date_of word).year ++ (codes ", \"month\": " ++ (decimal (date_of word).month
    ++ (codes ", \"day\": " ++ (decimal (date_of word).day ++ codes "}")))))

-- The object of a file of the volume `image`.
abbrev pub file_of : List ℕ → TableRow → List ℕ
file_of image row =
    name_of row ++ (kind_of row.entry.kind ++ (numbers_of image row.entry ++ date_members row.entry.date))

-- The object of a file after the first one: a comma, a line feed, and the object.
abbrev pub next_file : List ℕ → TableRow → List ℕ
next_file image row = 44 ∷ 10 ∷ file_of image row

-- The objects of some files, each on a line, with commas between them.
abbrev pub files_text : List ℕ → List TableRow → List ℕ
files_text image [] = []
files_text image (row ∷ rows) = 10 ∷ (file_of image row ++ flat_map (next_file image) rows)

-- ---- the volume

-- The members of the object of the volume `image` before its files.
abbrev pub volume_of : List ℕ → List ℕ
volume_of image =
    codes "{\"volume\": " ++ (string_of (volume_name image)
    ++ (codes ", \"blocks\": " ++ (decimal (block_count (directory_of image))
    ++ (codes ", \"free\": " ++ (decimal (free_blocks image)
    ++ (codes ", \"largest\": " ++ decimal (largest_gap image)))))))

-- The object of the volume `image` with its listed files.
abbrev pub json_of : Option (List ℕ) → List ℕ → List ℕ
json_of pattern image =
    volume_of image ++ (codes ", \"files\": [" ++ (files_text image (rows_of pattern image) ++ codes "\n]}\n"))
