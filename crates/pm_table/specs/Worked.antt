-- Laws of lists for other programs, and worked examples.
use Rattle.std.specs.Prelude.{◌≡◌, ◌<◌, ◌+◌, ◌-◌, ◌*◌, ◌^◌, ◌==◌, ℕ, zero, suc, All, Bool, true, false, List}
use Rattle.std.specs.Prelude.{[], ◌∷◌, ◌++◌, Option, None, Some, codes, length, map, replicate, if◌then◌else◌}
use Rattle.std.specs.Char.{digit_value}
use Rattle.std.specs.Fmt.{decimal}
use Rattle.std.specs.List.{flat_map, join_with_byte, list_any, slice_split}
use Rattle.pm_filer.specs.Fitting.{fitting_files}
use Rattle.pm_filer.specs.Listing.{date_text}
use Rattle.pm_folder.specs.Folder.{kind_text}
use Rattle.pm_folder.specs.Names.{listed_name}
use Rattle.pm_volume.specs.Directory.{block_count, directory_of}
use Rattle.pm_volume.specs.Files.{bytes_of, files_of}
use Rattle.pm_volume.specs.Names.{characters_of}
use Rattle.pm_volume.specs.Space.{free_blocks, largest_gap, volume_name}
use Rattle.pm_volume.specs.declared.entry.Entry.{Entry}
use Rattle.pm_table.specs.Json as json
use Rattle.pm_table.specs.Rows.{is_listed, rows_from, rows_of}
use Rattle.pm_table.specs.Tabs as tabs
use Rattle.pm_table.specs.declared.rows.TableRow.{TableRow}

-- ---- the listed files

-- A file is listed if and only if its name matches the pattern, or no pattern is given. Its slot is one more than the
-- number of the files before it. It comes after the listed files before it, and before those after it.
pub record WorkedRows : Type 0 where
  pub listed : (image : List ℕ) (pattern : Option (List ℕ)) (before after : List Entry) (e : Entry)
      → files_of image ≡ before ++ e ∷ after → is_listed pattern e ≡ true
      → rows_of pattern image ≡ rows_from pattern 1 before
      ++ (record { slot = length before + 1; entry = e } ∷ rows_from pattern (length before + 2) after)
  pub left_out : (image : List ℕ) (pattern : Option (List ℕ)) (before after : List Entry) (e : Entry)
      → files_of image ≡ before ++ e ∷ after → is_listed pattern e ≡ false
      → rows_of pattern image ≡ rows_from pattern 1 before ++ rows_from pattern (length before + 2) after
  pub all : (image : List ℕ) → map (λ (row : TableRow). row.entry) (rows_of None image) ≡ files_of image
  pub fitting : (image pattern : List ℕ)
      → map (λ (row : TableRow). row.entry) (rows_of (Some pattern) image) ≡ fitting_files image pattern

-- ---- lines with tabs

-- The eight fields of the line of a file.
abbrev pub fields_of : List ℕ → TableRow → List (List ℕ)
fields_of image row = decimal row.slot ∷ listed_name (characters_of row.entry.name) ∷ kind_text row.entry.kind
    ∷ decimal row.entry.first ∷ decimal (row.entry.end - row.entry.first) ∷ decimal row.entry.last_bytes
    ∷ decimal (length (bytes_of image row.entry)) ∷ date_text row.entry.date ∷ []

-- The numbers of a file are in the ranges that a directory has for them.
pub record IsInRange (image : List ℕ) (row : TableRow) : Type 0 where
  pub slot : row.slot < 2 ^ 16
  pub kind : row.entry.kind < 2 ^ 8
  pub first : row.entry.first < 2 ^ 16
  pub end : row.entry.end < 2 ^ 16
  pub last_bytes : row.entry.last_bytes < 2 ^ 16
  pub date : row.entry.date < 2 ^ 16
  pub bytes : length (bytes_of image row.entry) < 2 ^ 64

-- A file with this name and this kind.
abbrev pub file : List ℕ → ℕ → Entry
file name kind = record {
  name = length name ∷ (name ++ replicate (15 - length name) 0);
  kind = kind;
  first = 6;
  end = 8;
  last_bytes = 512;
  date = 43509;
}

-- The line of a file is its fields with tabs between them, and byte 10. If this line is cut at its tabs, the pieces are
-- the fields. No field has a byte 10. So two lines are equal only if all their fields are. The forms of names and dates
-- come back by the laws of pm_folder and pm_import.
pub record WorkedTabs : Type 0 where
  pub fields : (image : List ℕ) (row : TableRow)
      → tabs.line_of image row ≡ join_with_byte 9 (fields_of image row) ++ 10 ∷ []
  pub cut : (image : List ℕ) (row : TableRow) → IsInRange image row
      → slice_split (λ b. b == 9) (join_with_byte 9 (fields_of image row)) ≡ fields_of image row
  pub one_line : (image : List ℕ) (row : TableRow) → IsInRange image row
      → list_any (λ b. b == 10) (join_with_byte 9 (fields_of image row)) ≡ false
  pub names : tabs.names_of (record { slot = 2; entry = file (65 ∷ 32 ∷ 37 ∷ 200 ∷ []) 3 })
      ≡ decimal 2 ++ codes "\tA%20%25%C8\ttext"
  pub kind_9 : tabs.names_of (record { slot = 77; entry = file (codes "B") 9 })
      ≡ decimal 77 ++ (codes "\tB\t" ++ decimal 9)

-- ---- JSON

-- What a reader of a JSON string expects next: a character, the character after a backslash, or a hexadecimal digit,
-- after which the given number of digits follow, and which continues the given value.
pub data Reading : Type 0 where
  Plain : Reading
  Escaped : Reading
  Digits : ℕ → ℕ → Reading

-- A character before the other characters of a string.
abbrev pub prefixed : ℕ → Option (List ℕ × List ℕ) → Option (List ℕ × List ℕ)
prefixed c None = None
prefixed c (Some pieces) = Some (c ∷ pieces.0, pieces.1)

-- The characters of a JSON string up to its quotation mark, and the text after this mark. The only escapes with a
-- letter are those with `u`. Any other character after a backslash is itself.
abbrev pub string_read : Reading → List ℕ → Option (List ℕ × List ℕ)
string_read state [] = None
string_read Plain (c ∷ text) =
    if c == 34 then Some ([], text)
    else (if c == 92 then string_read Escaped text else prefixed c (string_read Plain text))
string_read Escaped (c ∷ text) =
    if c == 117 then string_read (Digits 3 0) text else prefixed c (string_read Plain text)
string_read (Digits zero value) (c ∷ text) = prefixed (16 * value + digit_value c) (string_read Plain text)
string_read (Digits (suc more) value) (c ∷ text) = string_read (Digits more (16 * value + digit_value c)) text

-- The bytes of a name come back from its string, whatever text follows. So two names have the same string only if they
-- are equal. The examples are: strings; the first and the last members of the object of a file; and the members of the
-- object of a volume.
pub record WorkedJson : Type 0 where
  pub back : (name text : List ℕ) → All (λ b. b < 256) name
      → string_read Plain (flat_map json.byte_of name ++ 34 ∷ text) ≡ Some (name, text)
  pub letters : json.string_of (codes "A.TEXT") ≡ codes "\"A.TEXT\""
  pub escapes : json.string_of (34 ∷ 92 ∷ 7 ∷ 200 ∷ []) ≡ codes "\"\\\"\\\\\\u0007\\u00C8\""
  pub limits : json.string_of (31 ∷ 32 ∷ 126 ∷ 127 ∷ []) ≡ codes "\"\\u001F ~\\u007F\""
  pub name : json.name_of (record { slot = 2; entry = file (codes "A") 3 })
      ≡ codes "{\"slot\": " ++ (decimal 2 ++ codes ", \"name\": \"A\"")
  pub kind_3 : json.kind_of 3 ≡ codes ", \"kind\": \"text\""
  pub kind_10 : json.kind_of 10 ≡ codes ", \"kind\": \"" ++ (decimal 10 ++ codes "\"")
  pub date : json.date_members 43509 ≡ codes ", \"year\": " ++ (decimal 84
      ++ (codes ", \"month\": " ++ (decimal 5 ++ (codes ", \"day\": " ++ (decimal 31 ++ codes "}")))))
  pub volume : (image : List ℕ) → volume_name image ≡ codes "VOL" → block_count (directory_of image) ≡ 40
      → free_blocks image ≡ 12 → largest_gap image ≡ 10
      → json.volume_of image ≡ codes "{\"volume\": \"VOL\", \"blocks\": " ++ (decimal 40
      ++ (codes ", \"free\": " ++ (decimal 12 ++ (codes ", \"largest\": " ++ decimal 10))))
  pub no_file : (image : List ℕ) → files_of image ≡ []
      → json.json_of None image ≡ json.volume_of image ++ codes ", \"files\": [\n]}\n"
  pub two_files : (image : List ℕ) (first second : TableRow)
      → json.files_text image (first ∷ second ∷ [])
      ≡ codes "\n" ++ (json.file_of image first ++ (codes ",\n" ++ (json.file_of image second ++ [])))
