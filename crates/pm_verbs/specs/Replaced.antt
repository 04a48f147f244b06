-- The results of `put` and `puttext` with `--replace`.
use Rattle.std.specs.Prelude.{◌≡◌, ◌⊎◌, ℕ, List, [], unwrap_or}
use Rattle.std.specs.Io.KnownBytes.{Appends}
use Rattle.pm_filer.specs.Filed.{Order, Remove}
use Rattle.pm_files.specs.Held.{Files, HoldsFile, Saves}
use Rattle.pm_jobs.specs.Streams.{AppendsFront, Outgoing}
use Rattle.pm_tool.specs.Batches.{said_files}
use Rattle.pm_tool.specs.Outcomes.{IsOutcome}
use Rattle.pm_tool.specs.declared.outcome.Outcome.{Outcome}

-- Returns the image `image` after `remove` of the file `name`. If `remove` is refused, this is `image` itself.
abbrev pub without : List ℕ → List ℕ → List ℕ
without name image = unwrap_or (said_files image (Remove name) []).image image

-- Is true if the command `order` is executed on `input` and on the image at `path` without the file `name`: the outcome
-- and the output are those that its specification states, and its image is saved at `path`. No other file changes. If
-- the command is refused, it has no image, and no file changes.
abbrev pub Replaces : Files → Files → Outgoing → Outgoing → List ℕ → List ℕ → Order → List ℕ → Outcome → Type 0
Replaces old new before after path name order input outcome = (image : List ℕ) × HoldsFile old path image
    × IsOutcome outcome (said_files (without name image) order input)
    × Appends before.contents after.contents (said_files (without name image) order input).written
    × Saves old new path (said_files (without name image) order input).image

-- Is true if a prefix of the output that the specification of this command states was written.
abbrev pub ReplacesPart : Files → Outgoing → Outgoing → List ℕ → List ℕ → Order → List ℕ → Type 0
ReplacesPart files before after path name order input = (image : List ℕ) × HoldsFile files path image
    × AppendsFront before.contents after.contents (said_files (without name image) order input).written

-- Is true if nothing was written, or all output that the specification of this command states.
abbrev pub ReplacesNoneOrAll : Files → Outgoing → Outgoing → List ℕ → List ℕ → Order → List ℕ → Type 0
ReplacesNoneOrAll files before after path name order input = (after ≡ before) ⊎ ((image : List ℕ)
    × HoldsFile files path image
    × Appends before.contents after.contents (said_files (without name image) order input).written)
