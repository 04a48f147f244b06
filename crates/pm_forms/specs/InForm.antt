-- The contents of files that are converted from another form. Some paths have forms of their own.
use Rattle.std.specs.Prelude.{◌≡◌, ⊤, ℕ, List, [], ◌∷◌, Option, None, Some, option_map, if◌then◌else◌, string_bytes}
use Rattle.std.specs.Option.{unwrap_or}
use Rattle.std.specs.Str.{bytes_eq}
use Rattle.pm_files.specs.Held.{Files, Puts}
use Rattle.pm_forms.specs.Forms.{file_of, volume_of}
use Rattle.pm_check.specs.Headed.{filed, volume_in}
use Rattle.pm_forms.specs.declared.form.Form.{Form}
use Rattle.pm_forms.specs.declared.in_form.PathForm.{PathForm}

-- Returns the form of the file at `path`: the first form that `own` has for this path, and `form` if it has none.
unfoldable pub form_at : Form → List PathForm → List ℕ → Form
form_at form [] path = form
form_at form (first ∷ more) path =
    if bytes_eq path (string_bytes first.path) then first.form else form_at form more path

-- Returns `files` with each file converted to a volume with its blocks in order.
abbrev pub in_form : Form → List PathForm → Files → Files
in_form form own None = None
in_form form own (Some files) = Some (λ path. option_map (volume_of (form_at form own path)) (files path))

-- ---- files written

-- Is true if `file` is the bytes of the file at `path`, or the empty list if no file exists at `path`.
abbrev pub IsFound : Files → List ℕ → List ℕ → Type 0
IsFound None path file = ⊤
IsFound (Some files) path file = file ≡ unwrap_or (files path) []

-- Is true if the file at `path` in `new` is `volume`, stored in `form` into the old file. The files at all other paths
-- are unchanged.
abbrev pub PutsFormed : Form → Files → Files → List ℕ → List ℕ → Type 0
PutsFormed form None new path volume = ⊤
PutsFormed form (Some files) new path volume =
    Puts (Some files) new path (file_of form (unwrap_or (files path) []) volume)

-- The file at `path` in `new` is the .2mg file of `volume`, created from the old file with the bytes `before`. The
-- files at all other paths are unchanged. Reading the new file yields `volume`.
pub record PutsVolume (old new : Files) (path volume : List ℕ) : Type 0 where
  pub before : List ℕ
  pub found : IsFound old path before
  pub puts : Puts old new path (filed before volume)
  pub back : volume_in (filed before volume) ≡ volume
