-- The verb `undelete` of `files`: what is written, and how it ends.
use Rattle.std.specs.Prelude.{◌≡◌, ◌+◌, ℕ, List, Option, None, Some, option_map, string_bytes}
use Rattle.std.specs.Io.KnownBytes.{Appends}
use Rattle.pm_files.specs.Held.{Files, Puts}
use Rattle.pm_plan.specs.declared.undelete_words.BlockRange.{BlockRange}
use Rattle.pm_plan.specs.declared.undelete_words.UndeletePlan.{UndeletePlan}
use Rattle.pm_undelete.specs.Blocks.{free_bytes}
use Rattle.pm_undelete.specs.Found.{candidates_of}
use Rattle.pm_undelete.specs.Lines.{lines_of}
use Rattle.pm_images.specs.Opened.{IsRefused, IsVolumeAt}
use Rattle.pm_verbs.specs.declared.undeleted.Undeletion.{Undeletion}
use Rattle.pm_verbs.specs.declared.undeleted.Undeletion.TheVariants as ends

-- Returns what is written for the volume `image`: the lines of its candidates, or the bytes of the given blocks.
-- Returns `None` if these blocks are not all free.
abbrev pub undeleted : List ℕ → Option BlockRange → Option (List ℕ)
undeleted image None = Some (lines_of (candidates_of image))
undeleted image (Some range) = free_bytes image range.first (range.first + range.count)

-- Is true if `bytes` are appended to the output `before`, which gives the output `after`, and no file changes. With a
-- path, the file at this path gets `bytes` instead, no other file changes, and nothing is appended.
abbrev pub WritesBytes : Files → Files → Option (List ℕ) → Option (List ℕ) → Option (List ℕ) → List ℕ → Type 0
WritesBytes old new None before after bytes = Appends before after bytes × (new ≡ old)
WritesBytes old new (Some path) before after bytes = Puts old new path bytes × (after ≡ before)

-- Is true if the result for the volume `image` is written to the output or to the file at the path, or if the blocks
-- are not all free, and nothing is written.
abbrev pub IsUndeleted : Files → Files → Option (List ℕ) → Option BlockRange → List ℕ → Option (List ℕ)
    → Option (List ℕ) → Undeletion → Type 0
IsUndeleted old new output blocks image before after (ends.Refused outcome) = ⊥
IsUndeleted old new output blocks image before after ends.NotFree =
    (undeleted image blocks ≡ None) × (after ≡ before) × (new ≡ old)
IsUndeleted old new output blocks image before after ends.Done =
    (bytes : List ℕ) × (undeleted image blocks ≡ Some bytes) × WritesBytes old new output before after bytes

-- Is true if `end` is the end of the verb with the arguments `plan`. If the file at the path of the image is no volume,
-- nothing is written, and the outcome is the refusal of `files list` for it.
abbrev pub Undeletes : Files → Files → UndeletePlan → Option (List ℕ) → Option (List ℕ) → Undeletion → Type 0
Undeletes old new plan before after (ends.Refused outcome) =
    IsRefused old (string_bytes plan.path) outcome × (after ≡ before) × (new ≡ old)
Undeletes old new plan before after ends.NotFree = (image : List ℕ) × IsVolumeAt old (string_bytes plan.path) image
    × IsUndeleted old new (option_map string_bytes plan.output) plan.blocks image before after ends.NotFree
Undeletes old new plan before after ends.Done = (image : List ℕ) × IsVolumeAt old (string_bytes plan.path) image
    × IsUndeleted old new (option_map string_bytes plan.output) plan.blocks image before after ends.Done
