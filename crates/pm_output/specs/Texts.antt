-- The results of a job on an assembler text or a code file. Its input and output may be files. A record of type `Said`
-- has the results that the specification of a job states.
use Rattle.std.specs.Prelude.{◌≡◌, ◌⊎◌, ⊤, ℕ, Bool, true, false, List, [], Option, None, Some, IfSome, string_bytes}
use Rattle.std.specs.Io.KnownBytes.{Appends}
use Rattle.pm_files.specs.Held.{Files, HoldsFile, Locks, Saves}
use Rattle.pm_jobs.specs.Streams.{Incoming, Outgoing}
use Rattle.pm_filer.specs.Filed.{Order, Get, GetText}
use Rattle.pm_paths.specs.Locks.{held_at}
use Rattle.pm_plan.specs.declared.text_words.TextInput.{TextInput}
use Rattle.pm_plan.specs.declared.text_words.TextInput.TheVariants as inputs
use Rattle.pm_output.specs.declared.texts.Got.{Got}
use Rattle.pm_output.specs.declared.texts.Got.TheVariants as gots
use Rattle.pm_tool.specs.Batches.{said_files}
use Rattle.pm_tool.specs.Outcomes.{IsOutcome, Said}
use Rattle.pm_tool.specs.Said.{job_said}
use Rattle.pm_tool.specs.declared.outcome.Exit.{Exit}
use Rattle.pm_tool.specs.declared.outcome.Exit.TheVariants as exits
use Rattle.pm_tool.specs.declared.outcome.Job.{Job}
use Rattle.pm_tool.specs.declared.outcome.Job.TheVariants as jobs
use Rattle.pm_tool.specs.declared.outcome.Outcome.{Outcome}

-- Is true if `outcome` and the output `bytes` are those that `told` states.
abbrev pub Comes : Outcome → List ℕ → Said → Type 0
Comes outcome bytes told = IsOutcome outcome told × (bytes ≡ told.written)

-- Returns the output that is saved: `bytes` if the job has ended or its program has run, and `None` otherwise.
abbrev pub written_by : Exit → List ℕ → Option (List ℕ)
written_by exits.Ended bytes = Some bytes
written_by exits.ExecutionError bytes = Some bytes
written_by exits.Stopped bytes = Some bytes
written_by _ bytes = None

-- Is true if the outcome is as `told` states, and the file at `path` contains the whole output if the output is saved.
-- No other file changes.
abbrev pub SavesText : Files → Files → List ℕ → Outcome → Said → Type 0
SavesText old new path outcome told = IsOutcome outcome told × Saves old new path (written_by told.exit told.written)

-- Without a path, the output is appended to the stream, and no file changes. With a path, the output is saved as the
-- file at the path.
abbrev pub Delivers : Files → Files → Option (List ℕ) → Outgoing → Outgoing → Outcome → Said → Type 0
Delivers old new None before after outcome told =
    IsOutcome outcome told × Appends before.contents after.contents told.written × (new ≡ old)
Delivers old new (Some path) before after outcome told = SavesText old new path outcome told

-- Is true if nothing is written to the stream when the output has a path.
abbrev pub LeavesOutput : Option (List ℕ) → Outgoing → Outgoing → Type 0
LeavesOutput None before after = ⊤
LeavesOutput (Some path) before after = after ≡ before

-- Is true if no file changes and no file is locked when the output has no path.
abbrev pub LeavesFiles : Option (List ℕ) → Files → Files → Locks → Locks → Type 0
LeavesFiles None old new before after = (new ≡ old) × (after ≡ before)
LeavesFiles (Some path) old new before after = ⊤

-- The file at the path, if there is a path, is locked after a job with this exit. If the job was refused, the lock may
-- be missing, because the job may have been refused before the file was locked.
abbrev pub HoldsOutput : Exit → Option (List ℕ) → Locks → Locks → Type 0
HoldsOutput exits.Ended path old new = new ≡ held_at path old
HoldsOutput exits.Usage path old new = new ≡ held_at path old
HoldsOutput exits.Refused path old new = (new ≡ held_at path old) ⊎ (new ≡ old)
HoldsOutput exits.ExecutionError path old new = new ≡ held_at path old
HoldsOutput exits.ReadFault path old new = new ≡ held_at path old
HoldsOutput exits.WriteFault path old new = new ≡ held_at path old
HoldsOutput exits.NoMemory path old new = new ≡ held_at path old
HoldsOutput exits.Stopped path old new = new ≡ held_at path old

-- ---- input

-- Is true if nothing is read from the stream when the input is a file or a file of a volume.
abbrev pub LeavesInput : TextInput → Incoming → Incoming → Type 0
LeavesInput inputs.Standard before after = ⊤
LeavesInput (inputs.File path) before after = after ≡ before
LeavesInput (inputs.OnImage path name) before after = after ≡ before

-- Returns whether the job reads an assembler text. Any other job on texts reads a code file.
abbrev pub reads_text : Job → Bool
reads_text (jobs.Asm what) = true
reads_text job = false

-- Returns the command that reads the file `name`: as a text if the first argument is true, and as bytes otherwise.
abbrev pub getting : Bool → List ℕ → Order
getting true name = GetText name
getting false name = Get name

-- Is true if the result is what the specification of the command `order` states for the image at `path`: the bytes of a
-- file, or a refusal.
abbrev pub IsGot : Files → List ℕ → Order → Got → Type 0
IsGot files path order (gots.Bytes bytes) = (image : List ℕ) × HoldsFile files path image
    × ((said_files image order []).exit ≡ exits.Ended) × (bytes.items ≡ (said_files image order []).written)
IsGot files path order (gots.Nothing outcome) = (image : List ℕ) × HoldsFile files path image
    × ((said_files image order []).exit ≡ exits.Refused) × IsOutcome outcome (said_files image order [])

-- If the exit of reading the file is `Ended`, the job is executed on the bytes that were read. Otherwise the outcome of
-- the refusal is returned, and nothing changes.
abbrev pub DeliversGot : Exit → Files → Files → Option (List ℕ) → Outgoing → Outgoing → Outcome → (List ℕ → Said) → Said
    → Type 0
DeliversGot exits.Ended old new output before after outcome text told =
    Delivers old new output before after outcome (text told.written)
DeliversGot _ old new output before after outcome text told =
    IsOutcome outcome told × (after ≡ before) × (new ≡ old)

-- Is true if `job` is executed on the selected input: the stream if its bytes are known, the bytes of a file, or a file
-- of a volume. The job determines whether a file of a volume is read as a text or as bytes.
abbrev pub DeliversOf : Files → Files → Job → TextInput → Option (List ℕ) → Option (List ℕ) → Outgoing → Outgoing
    → Outcome → Type 0
DeliversOf old new job inputs.Standard output input before after outcome =
    IfSome input (λ bytes. Delivers old new output before after outcome (job_said job bytes))
DeliversOf old new job (inputs.File path) output input before after outcome =
    (bytes : List ℕ) × HoldsFile old (string_bytes path) bytes
    × Delivers old new output before after outcome (job_said job bytes)
DeliversOf old new job (inputs.OnImage path name) output input before after outcome =
    (image : List ℕ) × HoldsFile old (string_bytes path) image
    × DeliversGot (said_files image (getting (reads_text job) (string_bytes name)) []).exit old new output before after
    outcome (job_said job) (said_files image (getting (reads_text job) (string_bytes name)) [])
