-- The forms of images: their names, the volume in a file of each form, and the file in which a volume is stored.
use Rattle.std.specs.Prelude.{ℕ, List, Option, None, Some, codes, option_map, if◌then◌else◌}
use Rattle.std.specs.Str.{bytes_eq}
use Rattle.pm_check.specs.Headed.{filed, volume_in}
use Rattle.pm_check.specs.Orders.{turned}
use Rattle.pm_forms.specs.declared.form.Form.{Form}
use Rattle.pm_forms.specs.declared.form.Form.TheVariants as forms
use Rattle.pm_forms.specs.declared.form.FormChoice.{FormChoice}
use Rattle.pm_forms.specs.declared.form.FormChoice.TheVariants as choices
use Rattle.pm_check.specs.declared.order.Order.TheVariants as orders

-- Returns the volume in the bytes `file` of a file with this form. The blocks of the volume are in order.
abbrev pub volume_of : Form → List ℕ → List ℕ
volume_of (forms.In order) file = turned order file
volume_of forms.Headed file = volume_in file

-- Returns the bytes of the file in which `volume` is stored in this form. `old` is the bytes of the replaced file.
abbrev pub file_of : Form → List ℕ → List ℕ → List ℕ
file_of (forms.In order) old volume = turned order volume
file_of forms.Headed old volume = filed old volume

-- ---- arguments

abbrev pub form_named : List ℕ → Option Form
form_named word =
    if bytes_eq word (codes "blocks") then Some (forms.In orders.Blocks)
    else (if bytes_eq word (codes "dos") then Some (forms.In orders.Dos)
    else (if bytes_eq word (codes "swapped") then Some (forms.In orders.Swapped)
    else (if bytes_eq word (codes "2mg") then Some forms.Headed else None)))

-- The word that names this form.
abbrev pub form_name : Form → List ℕ
form_name (forms.In orders.Blocks) = codes "blocks"
form_name (forms.In orders.Dos) = codes "dos"
form_name (forms.In orders.Swapped) = codes "swapped"
form_name forms.Headed = codes "2mg"

-- What the value `word` of `--form` specifies: `auto`, or one form for all images.
abbrev pub choice_named : List ℕ → Option FormChoice
choice_named word = if bytes_eq word (codes "auto") then Some choices.Auto
    else option_map choices.Named (form_named word)
