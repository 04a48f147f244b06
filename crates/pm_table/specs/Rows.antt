-- The listed files of a volume, with their slots.
use Rattle.std.specs.Prelude.{ℕ, ◌+◌, Bool, true, List, [], ◌∷◌, ◌++◌, Option, None, Some, if◌then◌else◌}
use Rattle.pm_filer.specs.Fitting.{is_fitting}
use Rattle.pm_volume.specs.Files.{files_of}
use Rattle.pm_volume.specs.declared.entry.Entry.{Entry}
use Rattle.pm_table.specs.declared.rows.TableRow.{TableRow}

-- Is true if the file of the entry `e` is listed: its name matches `pattern`, or no pattern is given.
abbrev pub is_listed : Option (List ℕ) → Entry → Bool
is_listed None e = true
is_listed (Some pattern) e = is_fitting pattern e

-- The list with the file in the slot `slot` if it is listed, and otherwise the empty list.
abbrev pub if_listed : Option (List ℕ) → ℕ → Entry → List TableRow
if_listed pattern slot e = if is_listed pattern e then record { slot = slot; entry = e } ∷ [] else []

-- The listed files among some files, of which the first is in the slot `slot`.
abbrev pub rows_from : Option (List ℕ) → ℕ → List Entry → List TableRow
rows_from pattern slot [] = []
rows_from pattern slot (e ∷ files) = if_listed pattern slot e ++ rows_from pattern (slot + 1) files

-- The listed files of the volume `image`.
abbrev pub rows_of : Option (List ℕ) → List ℕ → List TableRow
rows_of pattern image = rows_from pattern 1 (files_of image)
