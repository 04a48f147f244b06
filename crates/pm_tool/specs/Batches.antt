-- Jobs that convert bytes to bytes: the defined output of each job for its input, and how the job reads its input.
use Rattle.std.specs.Prelude.{◌≡◌, ℕ, Bool, true, false, List, [], Option, if◌then◌else◌}
use Rattle.pm_volume.specs.Copies.{repaired}
use Rattle.pm_volume.specs.declared.fault.VolumeFault.{VolumeFault}
use Rattle.pm_filer.specs.Filed.{Order}
use Rattle.pm_check.specs.Saving.{salvaged}
use Rattle.pm_jobs.specs.Streams.{ReadsAll}
use Rattle.pm_batch.specs.declared.batch.Batch.{Batch}
use Rattle.pm_batch.specs.Batches.{made_of, reads_file, reads_input}
use Rattle.pm_batch.specs.Files.{made_check, made_file, made_new, made_salvage, made_volume, opened_image}
use Rattle.pm_batch.specs.Products.{Product}
use Rattle.pm_tool.specs.Outcomes.{Said}
use Rattle.pm_tool.specs.Products.{said_product}

-- The defined output of a job for its input. `make` maps the bytes that the job reads to its product. If `reads` is
-- true, the job reads its whole input; otherwise it reads nothing and all of `input` is unread.
abbrev pub said_making : Bool → (List ℕ → Product) → List ℕ → Said
said_making reads make input = if reads then said_product (make input) [] else said_product (make []) input

-- The defined output of `job` for `input`.
abbrev pub said_batch : Batch → List ℕ → Said
said_batch job input = said_making (reads_input job) (made_of job) input

-- The defined output of a command on an image, of the creation of a volume, and of the repair of an image.
abbrev pub said_files : List ℕ → Order → List ℕ → Said
said_files image order input =
    said_making (reads_file (opened_image image) order) (made_file (opened_image image) order) input

abbrev pub said_new : Option VolumeFault → List ℕ → ℕ → List ℕ → Said
said_new fault name blocks input = said_product (made_new fault name blocks) input

abbrev pub said_repair : List ℕ → List ℕ → Said
said_repair image input = said_product (made_volume (repaired image)) input

abbrev pub said_check : List ℕ → List ℕ → Said
said_check image input = said_product (made_check image) input

abbrev pub said_salvage : List ℕ → Bool → List ℕ → Said
said_salvage image second input = said_product (made_salvage (salvaged image second)) input

-- The bytes `input` that a job has read. If the first argument is true, the source had `had` bytes and all were read.
-- If it is false, nothing was read and `input` is empty.
abbrev pub IsInput : Bool → Option (List ℕ) → Option (List ℕ) → List ℕ → Type 0
IsInput true had left input = ReadsAll had left input
IsInput false had left input = (left ≡ had) × (input ≡ [])
