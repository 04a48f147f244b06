-- The results of `files gettext` and `files puttext` with other line ends.
use Rattle.std.specs.Prelude.{◌≡◌, ◌⊎◌, ℕ, List, Option, IfSome}
use Rattle.pm_filer.specs.Filed.{Order}
use Rattle.pm_files.specs.Held.{Files, HoldsFile}
use Rattle.pm_folder.specs.Contents.{with_ends}
use Rattle.pm_import.specs.Feeds.{with_feeds}
use Rattle.pm_folder.specs.declared.contents.Ends.{Ends}
use Rattle.pm_jobs.specs.Streams.{AppendsFront, Outgoing}
use Rattle.pm_output.specs.Texts.{Delivers}
use Rattle.pm_tool.specs.Batches.{said_files}
use Rattle.pm_tool.specs.Outcomes.{Said}
use Rattle.pm_tool.specs.declared.outcome.Outcome.{Outcome}

-- Returns the results `told` with the line ends `e` in what is written.
abbrev pub ended : Ends → Said → Said
ended e told = record told { written = with_ends e told.written }

-- Is true if the command `order` is executed on the image at `path` and on `input`, and its output has the line ends
-- `e`. Without a path `output`, the output is appended to the stream, and no file changes. With a path, it is saved as
-- the file at the path.
abbrev pub DeliversEnded : Files → Files → List ℕ → Option (List ℕ) → Outgoing → Outgoing → Outcome → Order → Ends
    → List ℕ → Type 0
DeliversEnded old new path output before after outcome order e input = (image : List ℕ) × HoldsFile old path image
    × Delivers old new output before after outcome (ended e (said_files image order input))

-- Is true if nothing was written, or a prefix of the output with the line ends `e` that the specification of the command
-- `order` states for the image at `path` and for `input`.
abbrev pub DeliversPart : Files → List ℕ → Outgoing → Outgoing → Order → Ends → List ℕ → Type 0
DeliversPart files path before after order e input = (after ≡ before) ⊎ ((image : List ℕ) × HoldsFile files path image
    × AppendsFront before.contents after.contents (ended e (said_files image order input)).written)

-- Is true if `text` is the input `remaining`, a text whose lines end with `e`, with line feeds. Nothing is stated if
-- the input is not known.
abbrev pub IsFed : Option (List ℕ) → Ends → List ℕ → Type 0
IsFed remaining e text = IfSome remaining (λ input. text ≡ with_feeds e input)
