-- What a verb of `files` or `salvage` writes and saves. `old` and `new` are the files before and after.
use Rattle.std.specs.Prelude.{◌≡◌, ◌⊎◌, ℕ, Bool, true, false, List, [], string_bytes}
use Rattle.std.specs.Io.KnownBytes.{Appends}
use Rattle.pm_files.specs.Held.{Files, HoldsFile, Saves}
use Rattle.pm_filer.specs.Filed.{Order, ListFiles, Get, Put, Remove, Change, GetText, PutText, Krunch, Date, Zero}
use Rattle.pm_filer.specs.Filed.{Duplicate, Single, GetSlot, GetTextSlot, RemoveSlot, ChangeSlot, Kind, KindSlot}
use Rattle.pm_filer.specs.Filed.{Copy, CopySlot, order_of, ListAll, ListFitting, RemoveFitting}
use Rattle.pm_jobs.specs.Streams.{AppendsFront, Outgoing}
use Rattle.pm_volume.specs.Headers.{blank_fault}
use Rattle.pm_tool.specs.Batches.{said_check, said_files, said_new, said_repair, said_salvage}
use Rattle.pm_tool.specs.Outcomes.{IsOutcome, Said}
use Rattle.pm_tool.specs.Said.{job_said}
use Rattle.pm_tool.specs.declared.outcome.Job.{Job}
use Rattle.pm_tool.specs.declared.outcome.Outcome.{Outcome}
use Rattle.pm_plan.specs.declared.file_words.SalvagePlan.{SalvagePlan}
use Rattle.pm_plan.specs.declared.file_words.Verb.{Verb}
use Rattle.pm_plan.specs.declared.file_words.Verb.TheVariants as verbs

-- Returns whether a command can change its volume.
abbrev pub may_change : Order → Bool
may_change ListFiles = false
may_change (Get name) = false
may_change (Put name kind bytes) = true
may_change (Remove name) = true
may_change (Change old new) = true
may_change (GetText name) = false
may_change (PutText name text) = true
may_change Krunch = true
may_change (Date year month day) = true
may_change (Zero name) = true
may_change Duplicate = true
may_change Single = true
may_change (GetSlot slot) = false
may_change (GetTextSlot slot) = false
may_change (RemoveSlot slot) = true
may_change (ChangeSlot slot new) = true
may_change (Kind name kind) = true
may_change (KindSlot slot kind) = true
may_change (Copy name from) = true
may_change (CopySlot slot name from) = true
may_change ListAll = false
may_change (ListFitting pattern) = false
may_change (RemoveFitting pattern) = true

-- Returns whether a verb locks its file before it reads the file. It does so if it may write the file.
abbrev pub takes_lock : Verb → Bool
takes_lock (verbs.Command command) = may_change (order_of command)
takes_lock (verbs.New name blocks) = true
takes_lock verbs.Repair = true
takes_lock verbs.Check = false

-- The results that the specification of the verb states for the image `image` and for `input`. The results for a new
-- volume depend only on `input`.
abbrev pub said_verb : List ℕ → Verb → List ℕ → Said
said_verb image (verbs.Command command) input = said_files image (order_of command) input
said_verb image (verbs.New name blocks) input =
    said_new (blank_fault (string_bytes name) blocks) (string_bytes name) blocks input
said_verb image verbs.Repair input = said_repair image input
said_verb image verbs.Check input = said_check image input

-- Is true if the verb reads `image`, the bytes of the file at `path`. A new volume is made without an image.
abbrev pub ReadsImage : Files → List ℕ → Verb → List ℕ → Type 0
ReadsImage files path (verbs.Command command) image = HoldsFile files path image
ReadsImage files path (verbs.New name blocks) image = image ≡ []
ReadsImage files path verbs.Repair image = HoldsFile files path image
ReadsImage files path verbs.Check image = HoldsFile files path image

-- Is true if the image that the specification of the verb states for the image at `path` and for `input` is saved at
-- `path`, if there is one. No other file changes.
abbrev pub SavesSaid : Files → Files → List ℕ → Verb → List ℕ → Type 0
SavesSaid old new path verb input = (image : List ℕ) × ReadsImage old path verb image
    × Saves old new path (said_verb image verb input).image

-- Is true if the outcome and the output are those that the specification of the verb states for the image at `path` and
-- for `input`. `before` and `after` are the output stream before and after.
abbrev pub TellsVerb : Files → Outgoing → Outgoing → Outcome → List ℕ → Verb → List ℕ → Type 0
TellsVerb files before after outcome path verb input = (image : List ℕ) × ReadsImage files path verb image
    × IsOutcome outcome (said_verb image verb input)
    × Appends before.contents after.contents (said_verb image verb input).written

-- Is true if a prefix of the output that the specification of the verb states was written.
abbrev pub WritesPart : Files → List ℕ → Verb → Outgoing → Outgoing → List ℕ → Type 0
WritesPart files path verb before after input = (image : List ℕ) × ReadsImage files path verb image
    × AppendsFront before.contents after.contents (said_verb image verb input).written

-- Is true if nothing was written, or all output that the specification of the verb states.
abbrev pub WritesNoneOrAll : Files → List ℕ → Verb → Outgoing → Outgoing → List ℕ → Type 0
WritesNoneOrAll files path verb before after input = (after ≡ before) ⊎ ((image : List ℕ)
    × ReadsImage files path verb image
    × Appends before.contents after.contents (said_verb image verb input).written)

-- Is true if, for each input, `job` has the results that the specification of the verb states for the image at `path`.
abbrev pub SaysOf : Files → List ℕ → Verb → Job → Type 0
SaysOf files path verb job = (image : List ℕ) × ReadsImage files path verb image
    × ((input : List ℕ) → job_said job input ≡ said_verb image verb input)

-- Is true if the new volume that the specification of `salvage` states for the image at `plan.path` is saved at
-- `plan.target`, if it states one. No other file changes.
abbrev pub SavesSalvage : Files → Files → SalvagePlan → List ℕ → Type 0
SavesSalvage old new plan input = (image : List ℕ) × HoldsFile old (string_bytes plan.path) image
    × Saves old new (string_bytes plan.target) (said_salvage image plan.second input).image
