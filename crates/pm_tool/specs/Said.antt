-- The defined output of a job for its input, and how the execution of a job must agree with this output.
use Rattle.std.specs.Prelude.{◌≡◌, ◌⊎◌, ◌↔◌, true, false, ◌≤◌, ℕ, ◌+◌, ◌<◌, List, [], ◌∷◌, ◌++◌, Some}
use Rattle.std.specs.Prelude.{None, Option, Result, Ok, Err, length, IfSome}
use Rattle.std.specs.Io.KnownBytes.{Consumes, Appends, Keeps}
use Rattle.pm_machine.specs.Events.{Key, next}
use Rattle.pm_machine.specs.State.{State}
use Rattle.pm_jobs.specs.declared.saving.Saving.{Saving}
use Rattle.pm_jobs.specs.declared.saving.Saving.TheVariants as savings
use Rattle.pm_units.specs.Devices.{Devices, ejected_image}
use Rattle.pm_jobs.specs.declared.fault.Fault.{Fault}
use Rattle.pm_tool.specs.declared.outcome.Exit.{Exit}
use Rattle.pm_tool.specs.declared.outcome.Exit.TheVariants as exits
use Rattle.pm_tool.specs.declared.outcome.Job.{Job}
use Rattle.pm_tool.specs.declared.work.Work.{Work}
use Rattle.pm_tool.specs.declared.work.Work.TheVariants as works
use Rattle.pm_tool.specs.declared.outcome.Outcome.{Outcome}
use Rattle.pm_batch.specs.declared.refusal.Refusal.{Refusal}
use Rattle.pm_jobs.specs.declared.source.TheConstants.{INPUT_LIMIT}
use Rattle.pm_tool.specs.declared.talk.Talk.{Talk}
use Rattle.pm_tool.specs.declared.talk.Talk.TheVariants as talks
use Rattle.pm_tool.specs.Batches.{said_batch, said_making}
use Rattle.pm_tool.specs.Dis.{dis_product}
use Rattle.pm_tool.specs.Disks.{loaded, machine_at}
use Rattle.pm_tool.specs.Work.{work_of}
use Rattle.pm_tool.specs.Hex.{hex_spelled}
use Rattle.pm_tool.specs.Outcomes.{Said, exit_of, is_sound_exit, no_others, refused, IsOutcome}
use Rattle.pm_tool.specs.declared.steps.Show.{Show}
use Rattle.pm_tool.specs.declared.steps.Show.TheVariants.{Trace, Console}
use Rattle.pm_tool.specs.Run.{Run, run_of}
use Rattle.pm_tool.specs.Stops.{stop_of}
use Rattle.pm_session.specs.Endings.{last_line}
use Rattle.pm_session.specs.Sessions.{answers, behind_quit, opened, whole_lines}
use Rattle.pm_session.specs.Words.{lines_of_input}
use Rattle.pm_jobs.specs.Streams.{Streams, IsFront, IsCause, CountsOn}

-- ---- the jobs

-- The defined output of a job that writes the trace of `run`.
abbrev pub traced : Run → Said
traced run = record {
  written = run.shown ++ (last_line run.ending run.machine.steps ++ (10 ∷ []));
  exit = exit_of run.ending;
  message = [];
  image = None;
  others = no_others;
  printer = [];
  unread = run.unread;
  stopped = None;
}

-- The image of unit 4 that is saved after a run. It is None if the choice of images does not include unit 4.
abbrev pub first_kept : Saving → Devices → Option (List ℕ)
first_kept savings.Nothing devices = None
first_kept savings.First devices = ejected_image 4 devices
first_kept savings.All devices = ejected_image 4 devices
first_kept savings.Others devices = None

-- The images of the disk units other than 4.
abbrev pub others_in : Devices → List (Option (List ℕ))
others_in devices = ejected_image 5 devices ∷ ejected_image 9 devices ∷ ejected_image 10 devices
    ∷ ejected_image 11 devices ∷ ejected_image 12 devices ∷ []

-- The images of the other disk units that are saved after a run. They are None if the choice of images does not include
-- them.
abbrev pub others_kept : Saving → Devices → List (Option (List ℕ))
others_kept savings.Nothing devices = no_others
others_kept savings.First devices = no_others
others_kept savings.All devices = others_in devices
others_kept savings.Others devices = others_in devices

-- The defined output of a job that writes the console bytes of `run`. The message is the last line of the run. The
-- images that `saving` selects are saved.
abbrev pub run_said : Saving → Run → Said
run_said saving run = record {
  written = run.shown;
  exit = exit_of run.ending;
  message = last_line run.ending run.machine.steps;
  image = first_kept saving run.machine.devices;
  others = others_kept saving run.machine.devices;
  printer = run.machine.devices.printer;
  unread = run.unread;
  stopped = stop_of run.ending run.machine;
}

-- The defined output of a job that executes `run` and writes its trace or its console bytes.
abbrev pub said_run : Show → Run → Said
said_run (Trace selection) run = traced run
said_run (Console saving) run = run_said saving run

-- The defined output of a run of the machine that starts, with `input` as its console input. If no machine starts, the
-- refusal.
abbrev pub said_started : Show → ℕ → Result State Refusal → List ℕ → Said
said_started show limit (Ok machine) input = said_run show (run_of show limit input machine)
said_started show limit (Err refusal) input = refused refusal input

-- The defined output of a debugger session on `machine`. The job succeeds, even if the program ended with an error.
abbrev pub debugged : State → List ℕ → Said
debugged machine input = record {
  written = answers (lines_of_input input) (opened machine);
  exit = exits.Ended;
  message = [];
  image = None;
  others = no_others;
  printer = [];
  unread = behind_quit (lines_of_input input) input;
  stopped = None;
}

-- The machine after the bytes were appended to its console input queue.
abbrev pub typed_into : List ℕ → State → State
typed_into [] machine = machine
typed_into (b ∷ bytes) machine = typed_into bytes (next machine (Key b))

-- The defined output of a debugger session on the machine that starts, after the bytes `typed` were appended to its
-- console input queue. If no machine starts, the refusal.
abbrev pub said_debug : List ℕ → Result State Refusal → List ℕ → Said
said_debug typed (Ok machine) input = debugged (typed_into typed machine) input
said_debug typed (Err refusal) input = refused refusal input

-- The defined output of a job that uses the machine `start` as `talk` states. `start` is a refusal if no machine
-- starts.
abbrev pub said_talk : Talk → Result State Refusal → List ℕ → Said
said_talk (talks.Run show limit) start input = said_started show limit start input
said_talk (talks.Session typed) start input = said_debug typed.items start input

-- The defined output of a job for its whole input. For a program in the input (`Raw`), the console input is empty. For
-- a program of a disk, the input is the console input. For a debugger, the input is the commands.
abbrev pub said_work : Work → List ℕ → Said
said_work (works.Raw limit selection) input = said_started (Trace selection) limit (loaded (hex_spelled input)) []
said_work (works.Talk start talk) input = said_talk talk (machine_at start) input
said_work (works.Dis output) input = said_making true (dis_product output) input
said_work (works.Batch job) input = said_batch job input

-- The defined output of `job` for its whole input `input`.
abbrev pub job_said : Job → List ℕ → Said
job_said job input = said_work (work_of job) input

-- The output of the steps of the machine that starts, if its console input is exactly `input`. If no machine starts,
-- nothing.
abbrev pub shown_started : Show → ℕ → Result State Refusal → List ℕ → List ℕ
shown_started show limit (Ok machine) input = (run_of show limit input machine).shown
shown_started show limit (Err refusal) input = []

-- All output of the job after it has read exactly the bytes `read` and needs one more byte.
abbrev pub shown_talk : Talk → Result State Refusal → List ℕ → List ℕ
shown_talk (talks.Run show limit) start read = shown_started show limit start read
shown_talk (talks.Session typed) start read = (said_debug typed.items start (whole_lines read)).written

-- ---- the execution of a job

-- The outcome of the job, the bytes that it wrote, and the bytes that it left unread are those of the defined output
-- `told`.
pub record Tells (old new : Streams) (outcome : Outcome) (told : Said) : Type 0 where
  pub written : Appends old.sink.contents new.sink.contents told.written
  pub comes_to : IsOutcome outcome told
  pub unread : Keeps (Some told.unread) new.source.remaining

-- If the input is known, the job wrote, returned and left unread what its defined output `text` states for this input.
abbrev pub TellsAll : Streams → Streams → Outcome → (List ℕ → Said) → Type 0
TellsAll old new outcome text = IfSome old.source.remaining (λ input. Tells old new outcome (text input))

-- The bytes `front` were written, and the bytes `read` were read. `front` is a prefix of the defined output for the
-- input `read`. If the rest of the input is known, `front` is also a prefix of the defined output for the whole input.
pub record TellsFront (old new : Streams) (text : List ℕ → Said) : Type 0 where
  pub read : List ℕ
  pub front : List ℕ
  pub reads : Consumes old.source.remaining new.source.remaining read
  pub writes : Appends old.sink.contents new.sink.contents front
  pub so_far : IsFront front (text read).written
  pub whole : IfSome new.source.remaining (λ rest. IsFront front (text (read ++ rest)).written)

-- The job ended neither with a stream fault nor with out of memory.
abbrev pub IsSoundExit : Exit → Type 0
IsSoundExit exit = is_sound_exit exit ≡ true

-- The job ended with a stream fault or with out of memory.
abbrev pub IsCutShort : Exit → Type 0
IsCutShort exit = is_sound_exit exit ≡ false

-- The exit is a read fault if and only if the source has failed or more than `INPUT_LIMIT` bytes were read. The exit is
-- a write fault if and only if the sink has failed.
abbrev pub FailsExactly : Streams → Streams → Exit → Type 0
FailsExactly old new exit = (read : List ℕ) × Consumes old.source.remaining new.source.remaining read
    × (exit ≡ exits.ReadFault ↔ (new.source.failed ≡ true) ⊎ (INPUT_LIMIT < length read))
    × (exit ≡ exits.WriteFault ↔ new.sink.failed ≡ true)

-- The exit is a read fault if and only if the source has failed or has returned more than `INPUT_LIMIT` bytes during
-- the job, by its count. This is stated only if its count was at most 2^63 before the job.
abbrev pub CountsExactly : Streams → Streams → Exit → Type 0
CountsExactly old new exit = CountsOn old.source.given →
    (exit ≡ exits.ReadFault ↔ (new.source.failed ≡ true) ⊎ (old.source.given + INPUT_LIMIT < new.source.given))

-- The job ended without a stream fault and with enough memory. Its output is the defined output `text`, and it read at
-- most `INPUT_LIMIT` bytes.
pub record Finishes (old new : Streams) (outcome : Outcome) (text : List ℕ → Said) : Type 0 where
  pub tells : TellsAll old new outcome text
  pub few : (read : List ℕ) × Consumes old.source.remaining new.source.remaining read × (length read ≤ INPUT_LIMIT)
  pub exit : IsSoundExit outcome.exit

-- The fault `fault` stopped the job. It wrote a prefix of the defined output `text`, and the fault agrees with the
-- state of the streams.
pub record BreaksOff (old new : Streams) (fault : Fault) (text : List ℕ → Said) : Type 0 where
  pub cut : TellsFront old new text
  pub cause : IsCause fault new.source.failed new.sink.failed cut.read

-- The bytes written are all output `shown` for the bytes `read` that were read.
pub record WritesFirst (old new : Streams) (shown : List ℕ → List ℕ) : Type 0 where
  pub read : List ℕ
  pub reads : Consumes old.source.remaining new.source.remaining read
  pub writes : Appends old.sink.contents new.sink.contents (shown read)

-- If a read failed, all output for the bytes that were read before was written.
abbrev pub WritesInTime : Streams → Streams → (List ℕ → List ℕ) → Type 0
WritesInTime old new shown = new.source.failed ≡ true → WritesFirst old new shown

-- If a read failed in a session with a program of a disk or with the debugger, all output for the bytes that were read
-- before was written. For the other jobs nothing is stated: they write only after they have read all their input.
abbrev pub IsPromptWork : Work → Streams → Streams → Type 0
IsPromptWork (works.Raw limit selection) old new = Unit {0}
IsPromptWork (works.Talk start talk) old new = WritesInTime old new (shown_talk talk (machine_at start))
IsPromptWork (works.Dis output) old new = Unit {0}
IsPromptWork (works.Batch job) old new = Unit {0}

abbrev pub IsPrompt : Job → Streams → Streams → Type 0
IsPrompt job old new = IsPromptWork (work_of job) old new
