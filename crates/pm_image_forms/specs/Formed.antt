-- The forms of the files of a plan, as `--form` specifies them.
use Rattle.std.specs.Prelude.{◌≡◌, ◌⊎◌, ⊤, ℕ, List, [], ◌∷◌, ◌++◌, Option, None, Some, map, option_map, string_bytes}
use Rattle.pm_check.specs.declared.order.Order.TheVariants as orders
use Rattle.pm_files.specs.Held.{Files, HoldsFile, HoldsNone}
use Rattle.pm_plan.specs.Asked.{paths_in}
use Rattle.pm_forms.specs.AutoForm.{IsDetected}
use Rattle.pm_forms.specs.declared.auto_form.Detected.{Detected}
use Rattle.pm_forms.specs.declared.auto_form.Detected.TheVariants as detections
use Rattle.pm_forms.specs.declared.form.Form.{Form}
use Rattle.pm_forms.specs.declared.form.Form.TheVariants as forms
use Rattle.pm_forms.specs.declared.form.FormChoice.{FormChoice}
use Rattle.pm_forms.specs.declared.form.FormChoice.TheVariants as choices
use Rattle.pm_forms.specs.declared.in_form.PathForm.{PathForm}
use Rattle.pm_plan.specs.declared.run_words.Program.{Program}
use Rattle.pm_plan.specs.declared.text_words.TextFiles.{TextFiles}
use Rattle.pm_plan.specs.declared.text_words.TextInput.{TextInput}
use Rattle.pm_plan.specs.declared.text_words.TextInput.TheVariants as inputs
use Rattle.pm_plan.specs.declared.words.Plan.{Plan}
use Rattle.pm_plan.specs.declared.words.Plan.TheVariants as plans
use Rattle.pm_image_forms.specs.declared.formed.Formed.{Formed}
use Rattle.pm_image_forms.specs.declared.formed.Formed.TheVariants as formeds
use Rattle.pm_image_forms.specs.declared.formed.Several.{Several}

-- ---- paths

-- The list with this path, or the empty list.
abbrev pub optional_path : Option (List ℕ) → List (List ℕ)
optional_path None = []
optional_path (Some path) = path ∷ []

-- Those of the paths that are given.
abbrev pub given_paths : List (Option (List ℕ)) → List (List ℕ)
given_paths [] = []
given_paths (path ∷ paths) = optional_path path ++ given_paths paths

-- The paths of the disks of a program, in the order of their units.
abbrev pub program_paths : Program → List (List ℕ)
program_paths program = string_bytes program.disk ∷ given_paths (paths_in program.others)

-- The path of the image from which `asm` or `dis` reads a file, if there is one.
abbrev pub read_image : TextInput → List (List ℕ)
read_image inputs.Standard = []
read_image (inputs.File path) = []
read_image (inputs.OnImage image name) = string_bytes image ∷ []

-- The paths of the images of a plan to which `--form` applies.
abbrev pub image_paths : Plan → List (List ℕ)
image_paths (plans.Raw limit selection) = []
image_paths (plans.Asm what files) = read_image files.input
image_paths (plans.Dis what files) = read_image files.input
image_paths (plans.Files plan) = string_bytes plan.path ∷ []
image_paths (plans.Run program choices) = program_paths program
image_paths (plans.Trace program selection output) = program_paths program
image_paths (plans.Debug program typed) = program_paths program
image_paths (plans.Salvage plan) = string_bytes plan.path ∷ []
image_paths (plans.Export plan) = string_bytes plan.path ∷ []
image_paths (plans.Import plan) = string_bytes plan.path ∷ []
image_paths (plans.Convert plan) = []
image_paths (plans.Search plan) = []
image_paths (plans.Compare plan) = string_bytes plan.path ∷ string_bytes plan.other ∷ []
image_paths (plans.Table plan) = string_bytes plan.path ∷ []
image_paths (plans.Undelete plan) = string_bytes plan.path ∷ []

-- The path of the file that `asm` or `dis` reads, if it is not on an image.
abbrev pub read_path : TextInput → List (List ℕ)
read_path inputs.Standard = []
read_path (inputs.File path) = string_bytes path ∷ []
read_path (inputs.OnImage image name) = []

-- The paths of the files of `asm` and `dis` that are no images.
abbrev pub text_paths : TextFiles → List (List ℕ)
text_paths files = read_path files.input ++ optional_path (option_map string_bytes files.output)

-- The paths of a plan that name no image, so that `--form` does not apply to them: the system's code file, the printer's
-- file, the file with console input, the file that `asm` or `dis` reads, and the file that gets the output.
abbrev pub plain_paths : Plan → List (List ℕ)
plain_paths (plans.Raw limit selection) = []
plain_paths (plans.Asm what files) = text_paths files
plain_paths (plans.Dis what files) = text_paths files
plain_paths (plans.Files plan) = optional_path (option_map string_bytes plan.output)
plain_paths (plans.Run program choices) = optional_path (option_map string_bytes program.system)
    ++ optional_path (option_map string_bytes choices.printer)
plain_paths (plans.Trace program selection output) = optional_path (option_map string_bytes program.system)
    ++ optional_path (option_map string_bytes output)
plain_paths (plans.Debug program typed) = optional_path (option_map string_bytes program.system)
    ++ optional_path (option_map string_bytes typed)
plain_paths (plans.Salvage plan) = []
plain_paths (plans.Export plan) = []
plain_paths (plans.Import plan) = []
plain_paths (plans.Convert plan) = []
plain_paths (plans.Search plan) = []
plain_paths (plans.Compare plan) = []
plain_paths (plans.Table plan) = []
plain_paths (plans.Undelete plan) = optional_path (option_map string_bytes plan.output)

-- ---- forms

-- Is true if `new` is `old` with this path and this form after it.
abbrev pub OwnAdded : List ℕ → Form → List PathForm → List PathForm → Type 0
OwnAdded path form old new =
    (added : PathForm) × (new ≡ old ++ added ∷ []) × (string_bytes added.path ≡ path) × (added.form ≡ form)

-- Is true if `new` is `old` with these paths after it, each as the path of a file that is not converted.
abbrev pub PlainAdded : List (List ℕ) → List PathForm → List PathForm → Type 0
PlainAdded [] old new = new ≡ old
PlainAdded (path ∷ paths) old new =
    (between : List PathForm) × OwnAdded path (forms.In orders.Blocks) old between × PlainAdded paths between new

-- Is true if `found` is what is detected of the file at `path`. A path without a file has the form `In Blocks`.
abbrev pub IsDetectedAt : Files → List ℕ → Detected → Type 0
IsDetectedAt files path found = ((image : List ℕ) × HoldsFile files path image × IsDetected image found)
    ⊎ (HoldsNone files path × (found ≡ detections.One (forms.In orders.Blocks)))

-- Is true if the form of the image at `path` was detected: `new` is `old` with the path and its form after it. If the
-- image opens in several forms, the last argument has its path and these forms, and `new` is `old`.
abbrev pub FormAdded : Files → List ℕ → List PathForm → List PathForm → Option Several → Type 0
FormAdded files path old new None =
    (form : Form) × IsDetectedAt files path (detections.One form) × OwnAdded path form old new
FormAdded files path old new (Some several) = IsDetectedAt files path (detections.Several several.forms)
    × (string_bytes several.path ≡ path) × (new ≡ old)

-- Is true if the forms of the images at the paths were detected in their order, up to the first image that opens in
-- several forms. The last argument has this image.
abbrev pub FormsAdded : Files → List (List ℕ) → List PathForm → List PathForm → Option Several → Type 0
FormsAdded files [] old new several = (several ≡ None) × (new ≡ old)
FormsAdded files (path ∷ paths) old new None = (between : List PathForm) × FormAdded files path old between None
    × FormsAdded files paths between new None
FormsAdded files (path ∷ paths) old new (Some several) = FormAdded files path old new (Some several)
    ⊎ ((between : List PathForm) × FormAdded files path old between None
    × FormsAdded files paths between new (Some several))

-- Is true if `formed` has the form `form` for all paths that are not in `own`.
abbrev pub IsFound : Form → List PathForm → Formed → Type 0
IsFound form own (formeds.Found found) = (found.form ≡ form) × (found.own.items ≡ own)
IsFound form own (formeds.Several several) = ⊥

-- Is true if `formed` has the forms of the files of `plan`. With a form, it is the form of all images. With `auto`, each
-- image has the form that is detected, and all other files have their blocks in order.
abbrev pub AreFormed : Files → FormChoice → Plan → Formed → Type 0
AreFormed files (choices.Named form) plan (formeds.Found found) =
    (found.form ≡ form) × PlainAdded (plain_paths plan) [] found.own.items
AreFormed files (choices.Named form) plan (formeds.Several several) = ⊥
AreFormed files choices.Auto plan (formeds.Found found) = (found.form ≡ forms.In orders.Blocks)
    × ((plain : List PathForm) × PlainAdded (plain_paths plan) [] plain
    × FormsAdded files (image_paths plan) plain found.own.items None)
AreFormed files choices.Auto plan (formeds.Several several) = (plain own : List PathForm)
    × PlainAdded (plain_paths plan) [] plain × FormsAdded files (image_paths plan) plain own (Some several)
