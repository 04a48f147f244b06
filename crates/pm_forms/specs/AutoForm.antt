-- The form that `--form auto` selects for an image.
use Rattle.std.specs.Prelude.{◌≡◌, ◌≢◌, ⊤, ℕ, Bool, true, false, List, [], ◌∷◌, Option, None, Some}
use Rattle.std.specs.List.{filter}
use Rattle.pm_check.specs.Forms.{form_seen}
use Rattle.pm_check.specs.declared.note.Form.{Form as Noted}
use Rattle.pm_check.specs.declared.note.Form.TheVariants as noted
use Rattle.pm_check.specs.declared.order.Order.TheVariants as orders
use Rattle.pm_convert.specs.Found.{is_volume}
use Rattle.pm_forms.specs.Forms.{volume_of}
use Rattle.pm_forms.specs.declared.auto_form.Detected.{Detected}
use Rattle.pm_forms.specs.declared.auto_form.Detected.TheVariants as detected
use Rattle.pm_forms.specs.declared.form.Form.{Form}
use Rattle.pm_forms.specs.declared.form.Form.TheVariants as forms

-- Is true if `image` opens as a volume in this form.
abbrev pub opens : List ℕ → Form → Bool
opens image form = is_volume (volume_of form image)

-- The four forms that `--form` names.
abbrev pub all_forms : List Form
all_forms = forms.In orders.Blocks ∷ forms.In orders.Dos ∷ forms.In orders.Swapped ∷ forms.Headed ∷ []

-- The forms in which `image` opens as a volume.
unfoldable pub forms_of : List ℕ → List Form
forms_of image = filter (opens image) all_forms

-- The form of an image for which `check` notes this other format first. Without a note, the image has its blocks in
-- order.
abbrev pub noted_form : Option Noted → Form
noted_form None = forms.In orders.Blocks
noted_form (Some noted.Dos) = forms.In orders.Dos
noted_form (Some noted.Swapped) = forms.In orders.Swapped
noted_form (Some noted.FrontBlocks) = forms.Headed
noted_form (Some noted.FrontDos) = forms.Headed
noted_form (Some noted.FrontSwapped) = forms.Headed

-- The form of an image that opens in these forms: the only one of them. If there is none, the form that `check` notes.
-- If there are several, no form.
abbrev pub only_form : Option Noted → List Form → Option Form
only_form remark [] = Some (noted_form remark)
only_form remark (form ∷ []) = Some form
only_form remark (first ∷ second ∷ more) = None

-- The form that `--form auto` selects for `image`, or `None` if it opens in several forms.
abbrev pub found_form : List ℕ → Option Form
found_form image = only_form (form_seen image) (forms_of image)

-- Is true if the form of `image` was detected: it is the one that `found_form` gives, or the list of several forms in
-- which it opens.
abbrev pub IsDetected : List ℕ → Detected → Type 0
IsDetected image (detected.One form) = found_form image ≡ Some form
IsDetected image (detected.Several forms) = (found_form image ≡ None) × (forms.items ≡ forms_of image)
