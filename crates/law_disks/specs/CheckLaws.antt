-- Laws of the faults and notes that `check` reports about an image.
use Rattle.std.specs.Prelude.{◌≡◌, ◌↔◌, ℕ, true, List, [], ◌∷◌, None, Some}
use Rattle.pm_volume.specs.Directory.{image_fault}
use Rattle.pm_volume.specs.declared.entry.Entry.{Entry}
use Rattle.pm_check.specs.Forms.{form_notes, form_seen}
use Rattle.pm_check.specs.Notes.{HaveBlock, shares}
use Rattle.pm_check.specs.Rules.{image_findings}
use Rattle.pm_check.specs.declared.note.Form.{Form}
use Rattle.pm_check.specs.declared.note.Note.{Note}
use Rattle.pm_check.specs.declared.note.Note.TheVariants as notes

-- An image has no fault for which it is refused as a volume if and only if `image_findings` finds no fault in the
-- image.
abbrev pub GoodImagesOpen : Type 0
GoodImagesOpen = (image : List ℕ) → image_fault image ≡ None ↔ image_findings image ≡ []

-- `shares a b` is true if and only if some block belongs to both the entry `a` and the entry `b`.
abbrev pub SharedBlocks : Type 0
SharedBlocks = (a b : Entry) → shares a b ≡ true ↔ HaveBlock a b

-- If `form_seen` finds a format in an image, then this format is the first format in `form_notes`. If `form_seen` finds
-- none, then `form_notes` is empty.
abbrev pub FormIsNoted : Type 0
FormIsNoted =
    (image : List ℕ) → ((form : Form) → form_seen image ≡ Some form → (rest : List Note)
    × (form_notes image ≡ notes.Form form ∷ rest))
    × (form_seen image ≡ None → form_notes image ≡ [])
