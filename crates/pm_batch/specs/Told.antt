-- The message on a terminal for an image that is no volume, if its form is known.
use Rattle.std.specs.Prelude.{Bool, true, false, ℕ, List, codes, Option, Some, None, if◌then◌else◌}
use Rattle.pm_check.specs.declared.note.Form.{Form}
use Rattle.pm_check.specs.declared.note.Form.TheVariants as forms
use Rattle.pm_volume.specs.declared.fault.VolumeFault.{VolumeFault}
use Rattle.pm_volume.specs.declared.fault.VolumeFault.TheVariants as faults

-- Is true if the fault occurs only in an image with the header of a volume. Then the form of the image is not the cause
-- of the fault.
abbrev pub is_behind_header : VolumeFault → Bool
is_behind_header (faults.BadEntry entry) = true
is_behind_header faults.TooManyFiles = true
is_behind_header faults.PastEnd = true
is_behind_header (faults.FirstCopyBad number) = true
is_behind_header _ = false

-- Returns a sentence that names the form of an image and states how to read an image of this form.
abbrev pub form_sentence : Form → List ℕ
form_sentence forms.Dos =
    codes "the image has the form dos (sectors in DOS order): add --form dos to the command"
form_sentence forms.Swapped =
    codes "the image has the form swapped (the bytes of each word are swapped): add --form swapped to the command"
form_sentence _ =
    codes "the image has a header before its blocks: --form 2mg reads it, 'pmach convert IMAGE NEW' removes it"

-- Returns the message about an image with this fault. Returns None if the form is not known, or if the fault occurs
-- only in an image with the header of a volume.
abbrev pub form_told : VolumeFault → Option Form → Option (List ℕ)
form_told fault None = None
form_told fault (Some form) = if is_behind_header fault then None else Some (form_sentence form)
