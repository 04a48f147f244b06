-- The answers of the call that lists the files of a volume as data.
use Rattle.std.specs.Prelude.{ℕ, List, [], Bool, true, false, Option, None, Some}
use Rattle.pm_batch.specs.declared.refusal.Refusal.TheVariants as refusals
use Rattle.pm_table.specs.Json.{json_of}
use Rattle.pm_table.specs.Tabs.{tabs_of}
use Rattle.pm_tool.specs.Outcomes.{refused}
use Rattle.pm_volume.specs.declared.fault.VolumeFault.{VolumeFault}
use Rattle.pm_c.specs.Answers.{Answers}
use Rattle.pm_c.specs.Searches.{Gives}
use Rattle.pm_c.specs.declared.status.TheConstants.{DONE}

-- The list of all files of the volume `image`: as JSON if `json` is true, and as lines with tabs otherwise.
abbrev pub list_of : Bool → List ℕ → List ℕ
list_of true image = json_of None image
list_of false image = tabs_of None image

-- The call returns the list `list` of the files of a volume. The first argument is the fault of the image. If the image
-- is no volume, the answer is the message of the refusal.
abbrev pub Lists : Option VolumeFault → List ℕ → ℕ → List ℕ → List ℕ → ℕ → Type 0
Lists (Some fault) list status old new needed = Answers (refused (refusals.Volume fault) []) status old new needed
Lists None list status old new needed = Gives list DONE status old new needed
