-- The comparison of the files of two volumes: what is written, and how it ends.
use Rattle.std.specs.Prelude.{◌≡◌, ℕ, Bool, List, Option, string_bytes}
use Rattle.std.specs.Io.KnownBytes.{Appends}
use Rattle.pm_compare.specs.Verdicts.{compared, differs}
use Rattle.pm_compare.specs.Lines.{lines_of}
use Rattle.pm_files.specs.Held.{Files}
use Rattle.pm_plan.specs.declared.compare_words.ComparePlan.{ComparePlan}
use Rattle.pm_images.specs.Opened.{IsRefused, IsVolumeAt}
use Rattle.pm_verbs.specs.declared.compared.Comparison.{Comparison}
use Rattle.pm_verbs.specs.declared.compared.Comparison.TheVariants as ends

-- Is true if the lines for the files of the volumes `here` and `there` are appended to the output `before`, and
-- `differ` states whether a file differs, or is on one volume only.
abbrev pub WritesCompared : List ℕ → List ℕ → Option (List ℕ) → Option (List ℕ) → Bool → Type 0
WritesCompared here there before after differ =
    Appends before after (lines_of (compared here there)) × (differ ≡ differs (compared here there))

-- Is true if the volumes in the files at the two paths of `plan` are compared, and the lines are appended to the output
-- `before`, which gives the output `after`. If one of the files is no volume, nothing is written, and the outcome is
-- the refusal of `files list` for it. The first file is opened before the second one.
abbrev pub Compares : Files → ComparePlan → Option (List ℕ) → Option (List ℕ) → Comparison → Type 0
Compares files plan before after (ends.HereRefused outcome) =
    IsRefused files (string_bytes plan.path) outcome × (after ≡ before)
Compares files plan before after (ends.ThereRefused outcome) =
    (here : List ℕ) × IsVolumeAt files (string_bytes plan.path) here
    × IsRefused files (string_bytes plan.other) outcome × (after ≡ before)
Compares files plan before after (ends.Done differ) = (here : List ℕ) × (there : List ℕ)
    × IsVolumeAt files (string_bytes plan.path) here × IsVolumeAt files (string_bytes plan.other) there
    × WritesCompared here there before after differ
