-- The results of an export, and of a salvage to a folder. `old` and `new` are the files of the folder's store before
-- and after the job. `store` is the file store that contains the image.
use Rattle.std.specs.Prelude.{◌≡◌, ◌⊎◌, ℕ, List, Option, None, Some, Vec, string_bytes}
use Rattle.std.specs.declared.alloc.Global.{Global}
use Rattle.pm_export.specs.Exported.{FillsFolder, IsBrokenOff, names_of}
use Rattle.pm_export.specs.declared.fill.Unwritten.{Unwritten}
use Rattle.pm_files.specs.Folders.{IsAt}
use Rattle.pm_files.specs.Held.{Files, HoldsFile}
use Rattle.pm_folder.specs.Folder.{folder_of}
use Rattle.pm_folder.specs.declared.folder.Wanted.TheVariants as wanted
use Rattle.pm_images.specs.Opened.{IsRefused, IsVolumeAt}
use Rattle.pm_plan.specs.declared.file_words.SalvagePlan.{SalvagePlan}
use Rattle.pm_plan.specs.declared.folder_words.ExportPlan.{ExportPlan}
use Rattle.pm_folder_jobs.specs.declared.exported.Exported.{Exported}
use Rattle.pm_folder_jobs.specs.declared.exported.Exported.TheVariants as exported
use Rattle.pm_folder_jobs.specs.declared.exported.SavedFolder.{SavedFolder}
use Rattle.pm_tool.specs.Batches.{said_salvage}
use Rattle.pm_volume.specs.Directory.{IsVolume}

-- Is true if the image of `plan` is not a volume, is refused as `files list` refuses it, and no folder is created. It is
-- also true if the image is a volume and the new folder, whose path is `at`, is filled with its requested files.
abbrev pub Exports : Files → ExportPlan → Files → Files → Option (List ℕ) → Exported → Type 0
Exports store plan old new at (exported.Refused outcome) =
    IsRefused store (string_bytes plan.path) outcome × (new ≡ old)
Exports store plan old new at (exported.Written unwritten) =
    (image : List ℕ) × IsVolumeAt store (string_bytes plan.path) image × IsAt at (string_bytes plan.folder)
    × FillsFolder new image (folder_of plan.text plan.wanted image) (names_of unwritten.items)

-- Is true if an export was interrupted: the store is unchanged, or the image is a volume and the folder is only partly
-- filled.
abbrev pub BreaksOffExport : Files → ExportPlan → Files → Files → Type 0
BreaksOffExport store plan old new = (new ≡ old) ⊎ ((image : List ℕ) × HoldsFile store (string_bytes plan.path) image
    × IsVolume image × IsBrokenOff old new (folder_of plan.text plan.wanted image))

-- Is true if an attempt to fill a folder with all files of `image` was interrupted: the store is unchanged, or `image`
-- is a volume and the folder is only partly filled.
abbrev pub BreaksOffFill : Files → Files → List ℕ → Type 0
BreaksOffFill old new image =
    (new ≡ old) ⊎ (IsVolume image × IsBrokenOff old new (folder_of None wanted.All image))

-- Is true if a salvage was interrupted: the store is unchanged, or the folder is only partly filled with the files of a
-- volume.
abbrev pub BreaksOffSalvage : Files → Files → Type 0
BreaksOffSalvage old new = (new ≡ old) ⊎ ((volume : List ℕ) × BreaksOffFill old new volume)

-- ---- a salvage

-- Is true if `image` is a volume and the new folder is filled with all its files, or if `image` is not a volume and no
-- folder is created. `at` is the path of the folder, which must be `path`.
abbrev pub IsFilled : Files → Files → Option (List ℕ) → List ℕ → List ℕ → Option (Vec Unwritten Global) → Type 0
IsFilled old new at path image None = ¬ IsVolume image × (new ≡ old)
IsFilled old new at path image (Some unwritten) =
    IsVolume image × IsAt at path × FillsFolder new image (folder_of None wanted.All image) (names_of unwritten.items)

-- Is true if the new folder is filled with all files of the new volume. Without a new volume, no folder is created.
abbrev pub FillsFrom : Files → Files → Option (List ℕ) → List ℕ → Option (List ℕ) → Option (Vec Unwritten Global)
    → Type 0
FillsFrom old new at path None unwritten = (unwritten ≡ None) × (new ≡ old)
FillsFrom old new at path (Some volume) unwritten = IsFilled old new at path volume unwritten

-- Is true if the files of the image at `plan.path` are saved: the folder at `plan.target` is filled with the files of the
-- new volume that the specification of `salvage` states for the image, if it states one. `at` is the path of the folder.
abbrev pub SavesFolder : Files → SalvagePlan → Files → Files → Option (List ℕ) → SavedFolder → List ℕ → Type 0
SavesFolder store plan old new at saved input = (image : List ℕ) × HoldsFile store (string_bytes plan.path) image
    × FillsFrom old new at (string_bytes plan.target) (said_salvage image plan.second input).image saved.unwritten
