-- The job on a code file (`dis`).
use Rattle.std.specs.Prelude.{ℕ, List, Option, Some, None}
use Rattle.pm_codefile.specs.Dictionary.{file_fault}
use Rattle.pm_codefile.specs.declared.fault.CodeFault.{CodeFault}
use Rattle.pm_jobs.specs.declared.output.DisOutput.{DisOutput}
use Rattle.pm_batch.specs.declared.refusal.Refusal.TheVariants as refusals
use Rattle.pm_batch.specs.Products.{Product, Written, Refused}
use Rattle.pm_writing.specs.Written.{code_text}

-- The product of `dis` for the bytes `file`: their text if they are a code file, or a refusal if they have a fault.
abbrev pub dis_made : DisOutput → Option CodeFault → List ℕ → Product
dis_made output None file = Written (code_text output file)
dis_made output (Some fault) file = Refused (refusals.Code fault)

-- The product of `dis` with this `output` for its `input`.
abbrev pub dis_product : DisOutput → List ℕ → Product
dis_product output input = dis_made output (file_fault input) input
