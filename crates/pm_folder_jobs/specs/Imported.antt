-- What an import leaves.
use Rattle.std.specs.Prelude.{◌≡◌, ℕ, List, Option, string_bytes}
use Rattle.std.specs.Bool.{MatchBool}
use Rattle.std.specs.Io.KnownBytes.{Appends}
use Rattle.pm_files.specs.Folders.{IsAt}
use Rattle.pm_files.specs.Held.{Files, Puts}
use Rattle.pm_images.specs.Opened.{IsRefused, IsVolumeAt}
use Rattle.pm_import.specs.Imported.{Imports, seen}
use Rattle.pm_import.specs.declared.imported.ImportReport.{ImportReport}
use Rattle.pm_plan.specs.declared.folder_words.ImportPlan.{ImportPlan}
use Rattle.pm_folder_jobs.specs.declared.imported.Imported.{Imported}
use Rattle.pm_folder_jobs.specs.declared.imported.Imported.TheVariants as imported
use Rattle.pm_volume.specs.Directory.{IsVolume}

-- The image is written, unless the import is a trial.
abbrev pub WritesImage : Files → Files → ImportPlan → List ℕ → Type 0
WritesImage old new plan image = MatchBool plan.is_trial (new ≡ old) (Puts old new (string_bytes plan.path) image)

-- If the import is a trial, the lines `list` are appended to the output. Otherwise nothing is written.
abbrev pub ShowsList : ImportPlan → List ℕ → Option (List ℕ) → Option (List ℕ) → Type 0
ShowsList plan list before after = MatchBool plan.is_trial (Appends before after list) (after ≡ before)

-- The image at the plan's path is no volume, is refused as `files list` refuses it, and nothing changes or is written. Or
-- it is a volume, gets the files of the folder at the plan's path, and is written as a volume, unless the import is a
-- trial. `folder` states what the files of the folder contain, and `at` is the path of the folder. `before` and `after`
-- are the output before and after the import.
abbrev pub ImportsInto : Files → Files → ImportPlan → Files → Option (List ℕ) → Option (List ℕ) → Option (List ℕ)
    → Imported → Type 0
ImportsInto old new plan folder at before after (imported.Refused outcome) =
    IsRefused old (string_bytes plan.path) outcome × (new ≡ old) × (after ≡ before)
ImportsInto old new plan folder at before after (imported.Done left) = (image changed : List ℕ) × (taken : ImportReport)
    × IsVolumeAt old (string_bytes plan.path) image × IsVolume changed
    × IsAt at (string_bytes plan.folder)
    × Imports folder plan.ends image changed (seen taken) × (taken.left.items ≡ left.items)
    × ShowsList plan taken.list.items before after × WritesImage old new plan changed
