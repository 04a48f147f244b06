-- Images that are opened as volumes, and the refusal of other images.
use Rattle.std.specs.Prelude.{◌≡◌, ℕ, List, [], Result, Ok, Err}
use Rattle.pm_filer.specs.Filed.{ListFiles}
use Rattle.pm_files.specs.Held.{Files, HoldsFile}
use Rattle.pm_tool.specs.Batches.{said_files}
use Rattle.pm_tool.specs.Outcomes.{IsOutcome}
use Rattle.pm_tool.specs.declared.outcome.Exit.TheVariants as exits
use Rattle.pm_tool.specs.declared.outcome.Outcome.{Outcome}
use Rattle.pm_volume.specs.Directory.{IsVolume}

-- Is true if `outcome` is the refusal with which `files list` of `image` ends.
abbrev pub IsRefusal : List ℕ → Outcome → Type 0
IsRefusal image outcome = (outcome.exit ≡ exits.Refused) × IsOutcome outcome (said_files image ListFiles [])

-- Is true if the file at `path` is no volume, and `outcome` is the refusal with which `files list` of it ends.
abbrev pub IsRefused : Files → List ℕ → Outcome → Type 0
IsRefused files path outcome =
    (image : List ℕ) × HoldsFile files path image × ¬ IsVolume image × IsRefusal image outcome

-- Is true if the file at `path` is the volume `volume`.
abbrev pub IsVolumeAt : Files → List ℕ → List ℕ → Type 0
IsVolumeAt files path volume = HoldsFile files path volume × IsVolume volume

-- Is true if the last argument is the volume in the file at `path`, or the refusal if the file is no volume.
abbrev pub IsOpened : Files → List ℕ → Result (List ℕ) Outcome → Type 0
IsOpened files path (Ok volume) = IsVolumeAt files path volume
IsOpened files path (Err outcome) = IsRefused files path outcome
