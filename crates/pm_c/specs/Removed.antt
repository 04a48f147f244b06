-- The answers of the calls that find removed files, and that return the bytes of free blocks.
use Rattle.std.specs.Prelude.{ℕ, List, [], Option, None, Some, codes}
use Rattle.pm_batch.specs.declared.refusal.Refusal.TheVariants as refusals
use Rattle.pm_tool.specs.Outcomes.{refused}
use Rattle.pm_volume.specs.declared.fault.VolumeFault.{VolumeFault}
use Rattle.pm_c.specs.Answers.{Answers}
use Rattle.pm_c.specs.Searches.{Gives}
use Rattle.pm_c.specs.declared.status.TheConstants.{DONE, REFUSED}

-- The call returns the bytes `bytes` of some blocks of a volume. The first argument is the fault of the image. If the
-- image is no volume, or if the blocks are not all free, the answer is the message of the program.
abbrev pub GivesBlocks : Option VolumeFault → Option (List ℕ) → ℕ → List ℕ → List ℕ → ℕ → Type 0
GivesBlocks (Some fault) bytes status old new needed =
    Answers (refused (refusals.Volume fault) []) status old new needed
GivesBlocks None (Some bytes) status old new needed = Gives bytes DONE status old new needed
GivesBlocks None None status old new needed = Gives (codes "refused undelete 1") REFUSED status old new needed
