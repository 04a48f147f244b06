-- The files after a command on a volume whose output is saved as a file.
use Rattle.std.specs.Prelude.{ℕ, List}
use Rattle.pm_filer.specs.Filed.{Order}
use Rattle.pm_files.specs.Held.{Files, HoldsFile}
use Rattle.pm_output.specs.Texts.{SavesText}
use Rattle.pm_tool.specs.Batches.{said_files}
use Rattle.pm_tool.specs.declared.outcome.Outcome.{Outcome}

-- Is true if the command `order` is executed on the image at `path` and on `input`, and its results are saved. If the
-- command succeeds, the file at `output` contains its whole output. No other file changes.
abbrev pub SavesGot : Files → Files → List ℕ → List ℕ → Order → List ℕ → Outcome → Type 0
SavesGot old new path output order input outcome = (image : List ℕ) × HoldsFile old path image
    × SavesText old new output outcome (said_files image order input)
