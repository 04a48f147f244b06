-- The list of files as lines with tabs. In them 9 is a tab, and 10 the end of a line.
use Rattle.std.specs.Prelude.{ℕ, ◌-◌, List, [], ◌∷◌, ◌++◌, Option, length}
use Rattle.std.specs.Fmt.{decimal}
use Rattle.std.specs.List.{flat_map}
use Rattle.pm_filer.specs.Listing.{date_text}
use Rattle.pm_folder.specs.Folder.{kind_text}
use Rattle.pm_folder.specs.Names.{listed_name}
use Rattle.pm_volume.specs.Names.{characters_of}
use Rattle.pm_volume.specs.Files.{bytes_of}
use Rattle.pm_table.specs.Rows.{rows_of}
use Rattle.pm_table.specs.declared.rows.TableRow.{TableRow}

-- The first three fields: the slot, the name as in the file LIST of an export, and the word or the number of the kind.
abbrev pub names_of : TableRow → List ℕ
names_of row =
    decimal row.slot ++ (9 ∷ (listed_name (characters_of row.entry.name) ++ (9 ∷ kind_text row.entry.kind)))

-- The other fields: the first block, the number of blocks, the number of bytes in the last block, the number of bytes,
-- and the date.
abbrev pub numbers_of : List ℕ → TableRow → List ℕ
numbers_of image row =
    9 ∷ (decimal row.entry.first ++ (9 ∷ (decimal (row.entry.end - row.entry.first)
    ++ (9 ∷ (decimal row.entry.last_bytes ++ (9 ∷ (decimal (length (bytes_of image row.entry))
    ++ (9 ∷ (date_text row.entry.date ++ 10 ∷ [])))))))))

-- The line of a file of the volume `image`.
abbrev pub line_of : List ℕ → TableRow → List ℕ
line_of image row = names_of row ++ numbers_of image row

-- The lines of the listed files of the volume `image`.
abbrev pub tabs_of : Option (List ℕ) → List ℕ → List ℕ
tabs_of pattern image = flat_map (line_of image) (rows_of pattern image)
