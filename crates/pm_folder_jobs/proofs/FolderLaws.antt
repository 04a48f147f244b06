-- Lemmas about the folder of a salvage.
use Rattle.std.proofs.Common.{◌≡◌, ℕ, List, Option, None, Some, IfSome, subst}
use Rattle.std.specs.Prelude.{Vec, option_map, vec_items, string_bytes}
use Rattle.std.specs.declared.alloc.Global.{Global}
use Rattle.pm_files.specs.Held.{Files, HoldsFile}
use Rattle.pm_jobs.specs.Streams.{Streams}
use Rattle.pm_plan.specs.declared.file_words.SalvagePlan.{SalvagePlan}
use Rattle.pm_export.specs.declared.fill.Unwritten.{Unwritten}
use Rattle.pm_folder_jobs.specs.Exported.{FillsFrom}
use Rattle.pm_tool.specs.Batches.{said_salvage}
use Rattle.pm_tool.specs.Said.{Tells, TellsAll, job_said}
use Rattle.pm_tool.specs.declared.outcome.Job.TheVariants as jobs
use Rattle.pm_tool.specs.declared.outcome.Outcome.{Outcome}

-- If the input is known, the folder is filled with the files of the new volume that the specification states for
-- `image`.
pub known_folder : (before after : Streams) (store old new : Files) (at : Option (List ℕ)) (plan : SalvagePlan)
    (image : Vec ℕ Global) (outcome : Outcome) (unwritten : Option (Vec Unwritten Global)) (from to : List ℕ)
    → from ≡ string_bytes plan.path → to ≡ string_bytes plan.target
    → TellsAll before after outcome (job_said (jobs.Salvage image plan.second))
    → HoldsFile store from image.items
    → FillsFrom old new at to (option_map vec_items outcome.image) unwritten
    → IfSome before.source.remaining (λ input. (image : List ℕ) × HoldsFile store (string_bytes plan.path) image
    × FillsFrom old new at (string_bytes plan.target) (said_salvage image plan.second input).image unwritten)
known_folder before after store old new at plan image outcome unwritten from to is_from is_to tells holds fills =
    known before.source.remaining tells
  where
    known : (had : Option (List ℕ))
        → IfSome had (λ input. Tells before after outcome (job_said (jobs.Salvage image plan.second) input))
        → IfSome had (λ input. (image : List ℕ) × HoldsFile store (string_bytes plan.path) image
        × FillsFrom old new at (string_bytes plan.target) (said_salvage image plan.second input).image unwritten)
    known None told = tt
    known (Some input) told = (
      image.items,
      subst (λ path. HoldsFile store path image.items) is_from holds,
      subst (λ path. FillsFrom old new at path (said_salvage image.items plan.second input).image unwritten) is_to
          (subst (λ volume. FillsFrom old new at to volume unwritten) told.comes_to.image fills),
    )
