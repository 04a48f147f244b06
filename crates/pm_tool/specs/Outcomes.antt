-- The outcomes of jobs: their exit status, message and other parts.
use Rattle.std.specs.Prelude.{◌≡◌, ℕ, Bool, true, false, List, [], ◌∷◌, Option}
use Rattle.std.specs.Prelude.{None, Some, vec_items, option_map, string_bytes}
use Rattle.pm_machine.specs.State.{State}
use Rattle.pm_jobs.specs.Faults.{fault_text}
use Rattle.pm_jobs.specs.declared.fault.Fault.{Fault}
use Rattle.pm_jobs.specs.declared.fault.Fault.TheVariants as faults
use Rattle.pm_batch.specs.Refusals.{is_want, refusal_text}
use Rattle.pm_batch.specs.declared.refusal.Refusal.{Refusal}
use Rattle.pm_tool.specs.declared.outcome.Exit.{Exit}
use Rattle.pm_tool.specs.declared.outcome.Exit.TheVariants as exits
use Rattle.pm_session.specs.declared.ending.Ending.{Ending}
use Rattle.pm_session.specs.declared.ending.Ending.TheVariants as endings
use Rattle.pm_tool.specs.declared.outcome.Outcome.{Outcome}
use Rattle.pm_tool.specs.Disks.{images_of}
use Rattle.pm_tool.specs.Stops.{AreStops}

-- The exit status of the process for each kind of end.
abbrev pub exit_number : Exit → ℕ
exit_number exits.Ended = 0
exit_number exits.Usage = 1
exit_number exits.Refused = 2
exit_number exits.ExecutionError = 3
exit_number exits.ReadFault = 4
exit_number exits.WriteFault = 4
exit_number exits.NoMemory = 5
exit_number exits.Stopped = 6

-- Is true if a job with this exit ended neither with a stream fault nor with out of memory.
abbrev pub is_sound_exit : Exit → Bool
is_sound_exit exits.Ended = true
is_sound_exit exits.Usage = true
is_sound_exit exits.Refused = true
is_sound_exit exits.ExecutionError = true
is_sound_exit exits.ReadFault = false
is_sound_exit exits.WriteFault = false
is_sound_exit exits.NoMemory = false
is_sound_exit exits.Stopped = true

abbrev pub is_refusal : Exit → Bool
is_refusal exits.Ended = false
is_refusal exits.Usage = false
is_refusal exits.Refused = true
is_refusal exits.ExecutionError = false
is_refusal exits.ReadFault = false
is_refusal exits.WriteFault = false
is_refusal exits.NoMemory = false
is_refusal exits.Stopped = false

-- The exit of a job whose run ended with `Ending`.
abbrev pub exit_of : Ending → Exit
exit_of endings.Ended = exits.Ended
exit_of (endings.Error error) = exits.ExecutionError
exit_of endings.Limit = exits.Stopped
exit_of endings.Waiting = exits.Stopped

abbrev pub fault_exit : Fault → Exit
fault_exit faults.Read = exits.ReadFault
fault_exit faults.Write = exits.WriteFault
fault_exit faults.NoMemory = exits.NoMemory

-- The message of a job with this exit. For a stream fault or out of memory it is the text of the fault. Otherwise it is
-- `message`.
abbrev pub exit_text : Exit → List ℕ → List ℕ
exit_text exits.Ended message = message
exit_text exits.Usage message = message
exit_text exits.Refused message = message
exit_text exits.ExecutionError message = message
exit_text exits.ReadFault message = fault_text faults.Read
exit_text exits.WriteFault message = fault_text faults.Write
exit_text exits.NoMemory message = fault_text faults.NoMemory
exit_text exits.Stopped message = message

abbrev pub outcome_text : Outcome → List ℕ
outcome_text outcome = exit_text outcome.exit (string_bytes outcome.message)

-- The exit, the refusal and the message of a job agree. If a refusal is given, the exit is `Refused`, the message is
-- the text of the refusal, and the refusal is not out of memory. If no refusal is given, the exit is not `Refused`.
abbrev pub Names : Exit → Option Refusal → List ℕ → Type 0
Names exit None message = is_refusal exit ≡ false
Names exit (Some refusal) message =
    (exit ≡ exits.Refused) × (message ≡ refusal_text refusal) × (is_want refusal ≡ false)

abbrev pub SaysWhy : Outcome → Type 0
SaysWhy outcome = Names outcome.exit outcome.refusal (string_bytes outcome.message)

-- The images of units 5, 9, 10, 11 and 12 if none of them is saved.
abbrev pub no_others : List (Option (List ℕ))
no_others = None ∷ None ∷ None ∷ None ∷ None ∷ []

-- The defined output of a job for an input. It has these fields:
--
-- - `written`, `exit` and `message`: the bytes that the job writes, how it ends, and its message,
-- - `image` and `others`: the image that is saved, and the saved images of units 5, 9, 10, 11 and 12,
-- - `printer` and `unread`: the printed bytes, and the part of the input that is not read,
-- - `stopped`: the state in which an error stopped the run, if an error stopped it.
pub record Said : Type 0 where
  pub written : List ℕ
  pub exit : Exit
  pub message : List ℕ
  pub image : Option (List ℕ)
  pub others : List (Option (List ℕ))
  pub printer : List ℕ
  pub unread : List ℕ
  pub stopped : Option State

-- The defined output of a job that is refused: nothing is written, and the message states the refusal.
abbrev pub refused : Refusal → List ℕ → Said
refused refusal unread =
    record {
      written = [];
      exit = exits.Refused;
      message = refusal_text refusal;
      image = None;
      others = no_others;
      printer = [];
      unread = unread;
      stopped = None;
    }

-- The exit of a job that checks an image or a source text: `Refused` if a refusal is given, and `Ended` otherwise.
abbrev pub judged_exit : Option Refusal → Exit
judged_exit None = exits.Ended
judged_exit (Some refusal) = exits.Refused

abbrev pub judged_message : Option Refusal → List ℕ
judged_message None = []
judged_message (Some refusal) = refusal_text refusal

-- The defined output of a job that writes a report on an image or a source text. The report `text` is written even if
-- the input is refused.
abbrev pub judged : List ℕ → Option Refusal → List ℕ → Said
judged text refusal unread =
    record {
      written = text;
      exit = judged_exit refusal;
      message = judged_message refusal;
      image = None;
      others = no_others;
      printer = [];
      unread = unread;
      stopped = None;
    }

-- The outcome that the code returned has the values of the defined output `told`.
pub record IsOutcome (outcome : Outcome) (told : Said) : Type 0 where
  pub exit : outcome.exit ≡ told.exit
  pub message : string_bytes outcome.message ≡ told.message
  pub image : option_map vec_items outcome.image ≡ told.image
  pub others : images_of outcome.others ≡ told.others
  pub printer : outcome.printer.items ≡ told.printer
  pub stopped : AreStops outcome.stopped told.stopped
