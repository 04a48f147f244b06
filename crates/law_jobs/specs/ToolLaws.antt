-- Laws about runs, about the images that runs leave, and about the faults of a text.
use Rattle.std.specs.Prelude.{◌≡◌, ℕ, ◌-◌, Bool, true, false, List, [], ◌∷◌, ◌++◌, Option, None, Ok}
use Rattle.pm_machine.specs.State.{State}
use Rattle.pm_machine.specs.Events.{Event, Step, Key, Poke, Mount, Eject, after_all, next}
use Rattle.pm_machine.specs.Runs.{Ran}
use Rattle.pm_machine.specs.declared.state.Stop.{Stop}
use Rattle.pm_machine.specs.declared.state.Stop.TheVariants.{Went, Waiting, Ended, Halted}
use Rattle.pm_jobs.specs.declared.saving.Saving.{Saving}
use Rattle.pm_jobs.specs.declared.saving.Saving.TheVariants as savings
use Rattle.pm_session.specs.declared.ending.Ending.TheVariants as endings
use Rattle.pm_tool.specs.Disks.{booted}
use Rattle.pm_jobs.specs.declared.output.AsmOutput.TheVariants as asm
use Rattle.pm_tool.specs.Run.{Run, ended_run, run_of}
use Rattle.pm_tool.specs.declared.outcome.Exit.TheVariants as exits
use Rattle.pm_tool.specs.declared.outcome.Job.TheVariants as jobs
use Rattle.pm_tool.specs.Outcomes.{Said}
use Rattle.pm_tool.specs.Said.{job_said, run_said}

-- Returns the bytes of the keys among the events.
abbrev pub keyed_in : List Event → List ℕ
keyed_in [] = []
keyed_in (Key byte ∷ events) = byte ∷ keyed_in events
keyed_in (Step ∷ events) = keyed_in events
keyed_in (Poke address word ∷ events) = keyed_in events
keyed_in (Mount unit image ∷ events) = keyed_in events
keyed_in (Eject unit ∷ events) = keyed_in events

-- Returns whether all events are steps and keys.
abbrev pub are_steps_and_keys : List Event → Bool
are_steps_and_keys [] = true
are_steps_and_keys (Key byte ∷ events) = are_steps_and_keys events
are_steps_and_keys (Step ∷ events) = are_steps_and_keys events
are_steps_and_keys (Poke address word ∷ events) = false
are_steps_and_keys (Mount unit image ∷ events) = false
are_steps_and_keys (Eject unit ∷ events) = false

-- A run from the state `m` leaves the machine in the state after `events`, which are steps and keys. The bytes of the
-- keys are those that the run read.
pub record IsOfEvents (run : Run) (bytes : List ℕ) (m : State) (events : List Event) : Type 0 where
  pub alone : are_steps_and_keys events ≡ true
  pub left : run.machine ≡ after_all m events
  pub read : bytes ≡ keyed_in events ++ run.unread

-- For each run, some list of steps and keys leads to its final state, and the bytes of the keys are exactly those that
-- the run read.
abbrev pub RunsAreEvents : Type 0
RunsAreEvents =
    (show : _) (limit : ℕ) (bytes : List ℕ) (m : State)
    → (events : List Event) × IsOfEvents (run_of show limit bytes m) bytes m events

-- The runs `run` and `other` differ at most in what they show.
pub record AreAlike (run other : Run) : Type 0 where
  pub ending : run.ending ≡ other.ending
  pub machine : run.machine ≡ other.machine
  pub unread : run.unread ≡ other.unread

-- The choice of what is shown of a run changes nothing else of the run.
abbrev pub ShowingChangesNothing : Type 0
ShowingChangesNothing =
    (show other : _) (limit : ℕ) (bytes : List ℕ) (m : State)
    → AreAlike (run_of show limit bytes m) (run_of other limit bytes m)

-- ---- runs of the machine

-- States the run of a job if the machine's run without input has this count, last answer and state. If the machine
-- waits, the next byte of the input is appended to the queue, and the rest of the limit is run from that state.
-- Otherwise both runs are the same, and no byte is read.
abbrev pub GoesOn : (ℕ → List ℕ → State → Run) → ℕ → List ℕ → State → ℕ → Stop → State → Type 0
GoesOn run limit bytes m count Went t = AreAlike (run limit bytes m) (ended_run [] endings.Limit t bytes)
GoesOn run limit bytes m count Ended t = AreAlike (run limit bytes m) (ended_run [] endings.Ended t bytes)
GoesOn run limit bytes m count (Halted error) t =
    AreAlike (run limit bytes m) (ended_run [] (endings.Error error) t bytes)
GoesOn run limit [] m count Waiting t = AreAlike (run limit [] m) (ended_run [] endings.Waiting t [])
GoesOn run limit (byte ∷ bytes) m count Waiting t =
    AreAlike (run limit (byte ∷ bytes) m) (run (limit - count) bytes (next t (Key byte)))

-- Each run of a job is as `GoesOn` states.
abbrev pub RunsGoByTheMachine : Type 0
RunsGoByTheMachine =
    (show : _) (limit count : ℕ) (bytes : List ℕ) (m t : State) (stop : Stop) →
    Ran limit m count stop t → GoesOn (run_of show) limit bytes m count stop t

-- ---- the images that a run leaves

-- Before the first step, each image is unchanged on its own unit. The image of the result is that of unit 4, and the
-- other images are those of units 5, 9, 10, 11 and 12.
abbrev pub ImagesAreOfTheirUnits : Type 0
ImagesAreOfTheirUnits =
    (show : _) (d4 d5 d9 d10 d11 d12 : Option (List ℕ)) (name input : List ℕ) (m : State)
    → booted (d4 ∷ d5 ∷ d9 ∷ d10 ∷ d11 ∷ d12 ∷ []) name None ≡ Ok m
    → ((run_said savings.All (run_of show 0 input m)).image ≡ d4)
    × ((run_said savings.All (run_of show 0 input m)).others ≡ d5 ∷ d9 ∷ d10 ∷ d11 ∷ d12 ∷ [])

-- `told` and `other` are the same except for the saved images.
pub record SayTheSame (told other : Said) : Type 0 where
  pub written : told.written ≡ other.written
  pub exit : told.exit ≡ other.exit
  pub message : told.message ≡ other.message
  pub printer : told.printer ≡ other.printer
  pub unread : told.unread ≡ other.unread
  pub stopped : told.stopped ≡ other.stopped

-- The choice of the saved images changes nothing else of a run. The image of unit 4 is the same whether or not the
-- others are saved. The others are the same whether or not the image of unit 4 is saved. If it is not saved, then the
-- result has no image of unit 4.
pub record SavesApart (run : Run) : Type 0 where
  pub same : (saving other : Saving) → SayTheSame (run_said saving run) (run_said other run)
  pub fourth : (run_said savings.First run).image ≡ (run_said savings.All run).image
  pub others : (run_said savings.Others run).others ≡ (run_said savings.All run).others
  pub no_fourth : (run_said savings.Others run).image ≡ None

abbrev pub SavingChangesNothing : Type 0
SavingChangesNothing = (run : Run) → SavesApart run

-- ---- all faults of a text

-- A job has the same exit and the same message as another job. If its exit is `Ended`, then it has written nothing.
pub record EndsAs (told other : Said) : Type 0 where
  pub exit : told.exit ≡ other.exit
  pub message : told.message ≡ other.message
  pub nothing : told.exit ≡ exits.Ended → told.written ≡ []

-- The job that writes all faults of a text has the same exit and message as the job that assembles the text.
abbrev pub FaultsEndAsAssembling : Type 0
FaultsEndAsAssembling =
    (input : List ℕ) → EndsAs (job_said (jobs.Asm asm.Faults) input) (job_said (jobs.Asm asm.File) input)
