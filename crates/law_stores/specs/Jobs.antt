-- The contents of files after a job of the program. A record of type `Said` has the results that the specification of a
-- job states.
use Rattle.std.specs.Prelude.{◌≡◌, ℕ, List, [], ◌∷◌, Option, None, Some, String, Vec}
use Rattle.std.specs.Prelude.{option_map, vec_items}
use Rattle.std.specs.declared.alloc.Global.{Global}
use Rattle.pm_tool.specs.Disks.{images_of}
use Rattle.pm_tool.specs.Said.{IsCutShort, job_said}
use Rattle.pm_tool.specs.declared.outcome.Job.TheVariants as jobs
use Rattle.pm_tool.specs.declared.outcome.Outcome.{Outcome}
use Rattle.pm_jobs.specs.declared.saving.Saving.{Saving}
use Rattle.pm_jobs.specs.declared.saving.Saving.TheVariants as savings

-- Returns the new bytes of a file if they are given, and its old bytes otherwise.
abbrev pub left_in : List ℕ → Option (List ℕ) → List ℕ
left_in old None = old
left_in old (Some new) = new

-- The file has the image of `outcome` if it has one, and its old bytes otherwise.
abbrev pub SavesIn : List ℕ → List ℕ → Outcome → Type 0
SavesIn old new outcome = new ≡ left_in old (option_map vec_items outcome.image)

-- Returns the image that is saved for unit 4. It is `None` if the image of unit 4 is not selected.
abbrev pub fourth_saved : Saving → Option (List ℕ) → Option (List ℕ)
fourth_saved savings.Nothing image = None
fourth_saved savings.First image = image
fourth_saved savings.All image = image
fourth_saved savings.Others image = None

-- The file of the disk on unit 4 has the image of `outcome` if the image is selected and exists, and its old bytes
-- otherwise.
abbrev pub SavesDisk : Saving → List ℕ → List ℕ → Outcome → Type 0
SavesDisk saving old new outcome = new ≡ left_in old (fourth_saved saving (option_map vec_items outcome.image))

-- If the job was cut short, then the file has its old bytes.
abbrev pub StaysWhereCut : List ℕ → List ℕ → Outcome → Type 0
StaysWhereCut old new outcome = IsCutShort outcome.exit → new ≡ old

-- `file` is the bytes of the file of the disk after a run. They are the image that the specification of the run states
-- for `input` and for only this disk, on unit 4. If it states no image, they are the old bytes.
abbrev pub LeavesRun : List ℕ → String Global → ℕ → Saving → List ℕ → List ℕ → Type 0
LeavesRun image name limit saving input file = (disks : List (Option (Vec ℕ Global)))
    × (images_of disks ≡ Some image ∷ None ∷ None ∷ None ∷ None ∷ None ∷ [])
    × (file ≡ left_in image (job_said (jobs.Run disks name limit saving None) input).image)
