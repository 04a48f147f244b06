-- The files that a volume gets from a folder.
use Rattle.std.specs.Prelude.{◌≡◌, ◌⊎◌, ℕ, ◌==◌, List, [], ◌∷◌, ◌++◌, Option, None, Some, Result, Ok, Err, codes, map}
use Rattle.std.specs.Prelude.{if◌then◌else◌}
use Rattle.pm_files.specs.Folders.{HasNames, MayFail}
use Rattle.pm_files.specs.Held.{Files, HoldsFile, HoldsNone}
use Rattle.pm_files.specs.declared.fault.DiskFault.{DiskFault}
use Rattle.pm_filer.specs.declared.fault.FilerFault.{FilerFault}
use Rattle.pm_folder.specs.declared.contents.Ends.{Ends}
use Rattle.pm_import.specs.Listed.{Listed, last_date_in, lines_of, listed_of}
use Rattle.pm_import.specs.Placed.{placed}
use Rattle.pm_import.specs.Plain.{plain_line, plain_listed}
use Rattle.pm_import.specs.declared.imported.Left.{Left}
use Rattle.pm_import.specs.declared.imported.ImportReport.{ImportReport}
use Rattle.pm_import.specs.declared.imported.Why.{Why}
use Rattle.pm_import.specs.declared.imported.Why.TheVariants as why
use Rattle.pm_volume.specs.Headers.{dated_image}

-- A file that was not added: its name in the folder, or its line of LIST; and the reason.
pub record NotAdded : Type 0 where
  pub name : List ℕ
  pub why : Why

abbrev pub left_seen : Left → NotAdded
left_seen left = record { name = left.name.items; why = left.why }

-- The volume gets a file with these contents: it is placed, or nothing changes and the refusal is stated.
abbrev pub Takes : List ℕ → List ℕ → Option Why → Result (List ℕ) FilerFault → Type 0
Takes image next reason (Ok placed) = (next ≡ placed) × (reason ≡ None)
Takes image next reason (Err fault) = (next ≡ image) × (reason ≡ Some (why.Refused fault))

-- The file of a line is read from the folder, and the volume gets it. Or it cannot be read, and nothing changes.
abbrev pub TakesListed : Files → Ends → List ℕ → Option Listed → List ℕ → Option Why → Type 0
TakesListed folder ends image None next reason = (next ≡ image) × (reason ≡ Some why.Line)
TakesListed folder ends image (Some l) next reason =
    ((contents : List ℕ) × HoldsFile folder l.host contents × Takes image next reason (placed ends image l contents))
    ⊎ ((fault : DiskFault) × MayFail folder l.host fault × (next ≡ image) × (reason ≡ Some (why.Unread fault)))

-- The name that is reported for a line: the name in the folder, or the whole line if it is not valid.
abbrev pub name_for : List ℕ → Option Listed → List ℕ
name_for line None = line
name_for line (Some l) = l.host

-- The files that were not added, after one more line.
abbrev pub with_left : List NotAdded → List ℕ → Option Why → List NotAdded
with_left left name None = left
with_left left name (Some why) = left ++ record { name = name; why = why } ∷ []

-- A line that is not empty: its file is added, or it is one more of the files that were not added.
abbrev pub TakesFilled : Files → Ends → List ℕ → List ℕ → List ℕ → List NotAdded → List NotAdded → Type 0
TakesFilled folder ends line image next earlier left = (reason : Option Why)
    × TakesListed folder ends image (listed_of line) next reason
    × (left ≡ with_left earlier (name_for line (listed_of line)) reason)

-- One line: an empty line has no effect.
abbrev pub TakesLine : Files → Ends → List ℕ → List ℕ → List ℕ → List NotAdded → List NotAdded → Type 0
TakesLine folder ends [] image next earlier left = (next ≡ image) × (left ≡ earlier)
TakesLine folder ends (c ∷ line) image next earlier left = TakesFilled folder ends (c ∷ line) image next earlier left

-- The lines, in their order.
abbrev pub TakesLines : Files → Ends → List (List ℕ) → List ℕ → List ℕ → List NotAdded → List NotAdded → Type 0
TakesLines folder ends [] image last earlier left = (last ≡ image) × (left ≡ earlier)
TakesLines folder ends (line ∷ lines) image last earlier left = (next : List ℕ) × (more : List NotAdded)
    × TakesLine folder ends line image next earlier more × TakesLines folder ends lines next last more left

-- The lines from the first line that is not empty.
abbrev pub from_filled : List (List ℕ) → List (List ℕ)
from_filled [] = []
from_filled ([] ∷ lines) = from_filled lines
from_filled ((c ∷ line) ∷ lines) = (c ∷ line) ∷ lines

-- The volume gets this last date. A date that is 0 or not valid has no effect.
abbrev pub with_date : List ℕ → Option ℕ → List ℕ
with_date image None = image
with_date image (Some date) = if date == 0 then image else dated_image image date

-- The lines after the first are the files; the first line has the last date.
abbrev pub TakesList : Files → Ends → List (List ℕ) → List ℕ → List ℕ → List NotAdded → Type 0
TakesList folder ends [] image new left = (new ≡ image) × (left ≡ [])
TakesList folder ends (first ∷ lines) image new left = (last : List ℕ)
    × TakesLines folder ends lines image last [] left × (new ≡ with_date last (last_date_in first))

-- What an import reports: the files that were not added, and the lines that LIST would have.
pub record Report : Type 0 where
  pub left : List NotAdded
  pub list : List ℕ

abbrev pub seen : ImportReport → Report
seen taken = record { left = map left_seen taken.left.items; list = taken.list.items }

-- ---- a folder with LIST

-- The volume gets the files that `list` names, and its last date.
abbrev pub ImportsListed : Files → Ends → List ℕ → List ℕ → List ℕ → Report → Type 0
ImportsListed folder ends list image new report =
    TakesList folder ends (lines_of list) image new report.left × (report.list ≡ [])

-- ---- a folder without LIST

-- The volume gets the file `host`, which contains `contents`. Its line is one more line of the list.
abbrev pub TakesPlain : Ends → List ℕ → List ℕ → List ℕ → List ℕ → Report → Report → Type 0
TakesPlain ends host contents image next earlier later = (reason : Option Why)
    × Takes image next reason (placed ends image (plain_listed host contents) contents)
    × (later.left ≡ with_left earlier.left host reason)
    × (later.list ≡ earlier.list ++ plain_line (plain_listed host contents))

-- The file `host` is read, and the volume gets it. Or it cannot be read, and nothing changes.
unfoldable pub TakesNamed : Files → Ends → List ℕ → List ℕ → List ℕ → Report → Report → Type 0
TakesNamed folder ends host image next earlier later =
    ((contents : List ℕ) × HoldsFile folder host contents × TakesPlain ends host contents image next earlier later)
    ⊎ ((fault : DiskFault) × MayFail folder host fault × (next ≡ image)
    × (later.left ≡ with_left earlier.left host (Some (why.Unread fault))) × (later.list ≡ earlier.list))

-- The files with these names, in their order.
abbrev pub TakesNames : Files → Ends → List (List ℕ) → List ℕ → List ℕ → Report → Report → Type 0
TakesNames folder ends [] image last earlier later = (last ≡ image) × (later ≡ earlier)
TakesNames folder ends (host ∷ names) image last earlier later = (next : List ℕ) × (between : Report)
    × TakesNamed folder ends host image next earlier between × TakesNames folder ends names next last between later

-- The volume gets all files of the folder, and keeps its last date.
abbrev pub ImportsPlain : Files → Ends → List ℕ → List ℕ → Report → Type 0
ImportsPlain folder ends image new report = (names : List (List ℕ)) × HasNames folder names
    × TakesNames folder ends names image new (record { left = []; list = [] }) report

-- ---- a folder

-- LIST of the folder contains these bytes, or the folder has no LIST.
abbrev pub Reads : Files → Option (List ℕ) → Type 0
Reads folder None = HoldsNone folder (codes "LIST")
Reads folder (Some list) = HoldsFile folder (codes "LIST") list

abbrev pub ImportsAs : Files → Ends → Option (List ℕ) → List ℕ → List ℕ → Report → Type 0
ImportsAs folder ends None image new report = ImportsPlain folder ends image new report
ImportsAs folder ends (Some list) image new report = ImportsListed folder ends list image new report

-- The volume gets the files that LIST of the folder names. If the folder has no LIST, the volume gets all its files.
abbrev pub Imports : Files → Ends → List ℕ → List ℕ → Report → Type 0
Imports folder ends image new report =
    (list : Option (List ℕ)) × Reads folder list × ImportsAs folder ends list image new report
