-- The text of each note, without the line feed.
use Rattle.std.specs.Prelude.{ℕ, List, ◌++◌, codes}
use Rattle.std.specs.Fmt.{decimal}
use Rattle.pm_check.specs.declared.note.Form.{Form}
use Rattle.pm_check.specs.declared.note.Form.TheVariants.{Dos, Swapped, FrontBlocks, FrontDos, FrontSwapped}
use Rattle.pm_check.specs.declared.note.Note.{Note}
use Rattle.pm_check.specs.declared.note.Note.TheVariants as notes

-- The text of a format: the name that the command `convert` accepts for it.
abbrev pub form_text : Form → List ℕ
form_text Dos = codes "dos"
form_text Swapped = codes "swapped"
form_text FrontBlocks = codes "2mg-blocks"
form_text FrontDos = codes "2mg-dos"
form_text FrontSwapped = codes "2mg-swapped"

abbrev pub note_text : Note → List ℕ
note_text (notes.Form form) = codes "note form " ++ form_text form
note_text notes.VolumeName = codes "note header name has a byte outside 33 to 126"
note_text (notes.Name slot) = codes "note slot " ++ (decimal slot ++ codes " name has a byte outside 33 to 126")
note_text (notes.Shares slot other) =
    codes "note slot " ++ (decimal slot ++ (codes " shares blocks with slot " ++ decimal other))
note_text (notes.SameName slot other) =
    codes "note slot " ++ (decimal slot ++ (codes " has the name of slot " ++ decimal other))
note_text notes.SecondGood = codes "note second copy is good"
note_text notes.SecondDamaged = codes "note second copy is damaged"
note_text notes.HeadersDiffer = codes "note second copy differs in the header"
note_text (notes.SlotsDiffer slot) = codes "note second copy differs in slot " ++ decimal slot
