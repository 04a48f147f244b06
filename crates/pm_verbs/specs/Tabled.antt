-- The list of the files of a volume in a form that other programs read: what is written.
use Rattle.std.specs.Prelude.{◌≡◌, ℕ, List, Option, None, Some, option_map, string_bytes}
use Rattle.std.specs.Io.KnownBytes.{Appends}
use Rattle.pm_files.specs.Held.{Files}
use Rattle.pm_plan.specs.declared.table_words.TableForm.{TableForm}
use Rattle.pm_plan.specs.declared.table_words.TableForm.TheVariants as forms
use Rattle.pm_plan.specs.declared.table_words.TablePlan.{TablePlan}
use Rattle.pm_images.specs.Opened.{IsRefused, IsVolumeAt}
use Rattle.pm_table.specs.Json.{json_of}
use Rattle.pm_table.specs.Tabs.{tabs_of}
use Rattle.pm_tool.specs.declared.outcome.Outcome.{Outcome}

-- Returns the list of the files of the volume `image` in the form `form`. Only the files whose names match `pattern`
-- are listed, if a pattern is given.
abbrev pub table_of : TableForm → Option (List ℕ) → List ℕ → List ℕ
table_of forms.Tabs pattern image = tabs_of pattern image
table_of forms.Json pattern image = json_of pattern image

-- Is true if the list of the volume in the file at the path of `plan` is appended to the output `before`, which gives
-- the output `after`. If the file is no volume, nothing is written, and the outcome is the refusal of `files list` for
-- it.
abbrev pub Tables : Files → TablePlan → Option (List ℕ) → Option (List ℕ) → Option Outcome → Type 0
Tables files plan before after None = (image : List ℕ) × IsVolumeAt files (string_bytes plan.path) image
    × Appends before after (table_of plan.form (option_map string_bytes plan.pattern) image)
Tables files plan before after (Some outcome) = IsRefused files (string_bytes plan.path) outcome × (after ≡ before)
