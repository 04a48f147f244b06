-- Jobs that convert bytes to bytes: the product of each job for its input, and which jobs read their input.
use Rattle.std.specs.Prelude.{ℕ, Bool, true, false, List, Result, Ok, Err, string_bytes}
use Rattle.pm_jobs.specs.declared.output.AsmOutput.TheVariants as asm
use Rattle.pm_volume.specs.Copies.{repaired}
use Rattle.pm_volume.specs.Headers.{blank_fault}
use Rattle.pm_volume.specs.declared.fault.VolumeFault.{VolumeFault}
use Rattle.pm_filer.specs.Filed.{Order, order_of}
use Rattle.pm_check.specs.Saving.{salvaged}
use Rattle.pm_batch.specs.declared.batch.Batch.{Batch}
use Rattle.pm_batch.specs.declared.batch.Batch.TheVariants as batches
use Rattle.pm_batch.specs.Assembly.{made_asm, made_faults, made_symbols}
use Rattle.pm_batch.specs.Files.{made_check, made_file, made_new, made_salvage, made_volume, takes_input}
use Rattle.pm_batch.specs.Products.{Product}

-- Returns the product of a job for `input`.
abbrev pub made_of : Batch → List ℕ → Product
made_of (batches.Asm asm.File) input = made_asm false input
made_of (batches.Asm asm.Listing) input = made_asm true input
made_of (batches.Asm asm.Faults) input = made_faults input
made_of (batches.Asm asm.Symbols) input = made_symbols input
made_of (batches.Files opened form command) input = made_file opened (order_of command) input
made_of (batches.New name blocks) input =
    made_new (blank_fault (string_bytes name) blocks) (string_bytes name) blocks
made_of (batches.Repair image) input = made_volume (repaired image.items)
made_of (batches.Check image) input = made_check image.items
made_of (batches.Salvage image second) input = made_salvage (salvaged image.items second)

-- Is true if a command on an image reads the input of the job. If the image is no volume, the job is refused and reads
-- no input.
abbrev pub reads_file : Result (List ℕ) VolumeFault → Order → Bool
reads_file (Ok volume) order = takes_input order
reads_file (Err fault) order = false

-- Is true if a job reads its whole input, and false if it reads no input.
abbrev pub reads_input : Batch → Bool
reads_input (batches.Asm what) = true
reads_input (batches.Files opened form command) = reads_file opened (order_of command)
reads_input (batches.New name blocks) = false
reads_input (batches.Repair image) = false
reads_input (batches.Check image) = false
reads_input (batches.Salvage image second) = false
