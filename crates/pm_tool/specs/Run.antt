-- A run of the machine and its output.
use Rattle.std.specs.Prelude.{◌≡◌, ◌≤◌, ◌<◌, ℕ, zero, suc, Bool, true, false, List}
use Rattle.std.specs.Prelude.{[], ◌∷◌, ◌++◌, drop, length, if◌then◌else◌}
use Rattle.std.specs.Io.KnownBytes.{Appends, Consumes, IsAtEnd}
use Rattle.pm_machine.specs.State.{State}
use Rattle.pm_machine.specs.Steps.{stepped}
use Rattle.pm_machine.specs.Runs.{AllWent, after_steps}
use Rattle.pm_machine.specs.Events.{Key, next}
use Rattle.pm_machine.specs.declared.state.Stop.{Stop}
use Rattle.pm_machine.specs.declared.state.Stop.TheVariants.{Went, Waiting, Ended, Halted}
use Rattle.pm_trace.specs.Selected.{shown_line}
use Rattle.pm_jobs.specs.declared.fault.Fault.{Fault}
use Rattle.pm_jobs.specs.declared.source.TheConstants.{INPUT_LIMIT}
use Rattle.pm_session.specs.Endings.{last_line}
use Rattle.pm_session.specs.declared.ending.Ending.{Ending}
use Rattle.pm_session.specs.declared.ending.Ending.TheVariants as endings
use Rattle.pm_tool.specs.declared.steps.Show.{Show}
use Rattle.pm_tool.specs.declared.steps.Show.TheVariants.{Trace, Console}
use Rattle.pm_jobs.specs.Streams.{Streams, AppendsBut, IsCause, IsFront}

-- The result of a run: the output of its steps (`shown`), the reason of its end, the last state, and the console bytes
-- that were not read (`unread`).
pub record Run : Type 0 where
  pub shown : List ℕ
  pub ending : Ending
  pub machine : State
  pub unread : List ℕ

abbrev pub after_showing : List ℕ → Run → Run
after_showing text run = record run { shown = text ++ run.shown }

abbrev pub ended_run : List ℕ → Ending → State → List ℕ → Run
ended_run shown ending machine unread = record { shown = shown; ending = ending; machine = machine; unread = unread }

-- The output of a step that changes the state `before` to `after`. In a trace it is the line of the state `before`, if
-- this line is selected. Otherwise it is the bytes that the step appends to the console output.
abbrev pub shown_of : Show → State → State → List ℕ
shown_of (Trace selection) before after = shown_line selection before
shown_of (Console saving) before after = drop (length before.devices.console) after.devices.console

abbrev pub is_waiting : Stop → Bool
is_waiting Waiting = true
is_waiting Went = false
is_waiting Ended = false
is_waiting (Halted error) = false

abbrev pub is_console : Show → Bool
is_console (Trace selection) = false
is_console (Console saving) = true

-- From state `s`, `count` steps lead to state `t`. There are at most `limit` of them, and each step succeeds and has no
-- output.
pub record Unshown (show : Show) (limit : ℕ) (s : State) (count : ℕ) (t : State) : Type 0 where
  pub within : count ≤ limit
  pub went : AllWent count s
  pub left : t ≡ after_steps count s
  pub blank : (k : ℕ) → k < count → shown_of show (after_steps k s) (after_steps (suc k) s) ≡ []

-- The output of a step that ended with `stop`. A step that waits has no output.
abbrev pub shown_by : Show → State → State → Stop → List ℕ
shown_by show before after stop = if is_waiting stop then [] else shown_of show before after

-- The run from a step on. The step changes the state `before` to `after` and ends with a stop. If it succeeds, the run
-- continues as `rest` with the console bytes `keys`; otherwise the run ends.
abbrev pub follows : Show → (List ℕ → State → Run) → State → State → Stop → List ℕ → Run
follows show rest before after Went keys = after_showing (shown_of show before after) (rest keys after)
follows show rest before after Ended keys = ended_run (shown_of show before after) endings.Ended after keys
follows show rest before after (Halted error) keys =
    ended_run (shown_of show before after) (endings.Error error) after keys
follows show rest before after Waiting keys = ended_run [] endings.Waiting after keys

-- One step and the rest of the run. If the step waits and a console byte remains, this byte is appended to the console
-- input queue and the step is executed again.
unfoldable pub turn : Show → (List ℕ → State → Run) → List ℕ → State → Run
turn show rest [] m = follows show rest m (stepped m).0 (stepped m).1 []
turn show rest (key ∷ keys) m =
    if is_waiting (stepped m).1 then turn show rest keys (next (stepped m).0 (Key key))
    else follows show rest m (stepped m).0 (stepped m).1 (key ∷ keys)

-- The run of at most as many steps as the number states. The console input is `keys`, and the first state is `m`.
unfoldable pub run_of : Show → ℕ → List ℕ → State → Run
run_of show zero keys m = ended_run [] endings.Limit m keys
run_of show (suc n) keys m = turn show (run_of show n) keys m

-- The text that is written after the output of the steps: the last line of a trace, or nothing.
abbrev pub end_text : Show → Ending → ℕ → List ℕ
end_text (Trace selection) ending steps = last_line ending steps ++ (10 ∷ [])
end_text (Console saving) ending steps = []

-- ---- a run that is written while it is executed

-- The run has ended with `ending` in the state `machine`. The bytes `read` were read as console input. Its output
-- `shown` was written, except its last bytes `held_back`. If the run ended because it waited, no input remains.
pub record ComesToEnd (old new : Streams) (held_back : List ℕ) (show : Show) (limit : ℕ) (began : State)
    (ending : Ending) (machine : State) : Type 0 where
  pub read : List ℕ
  pub shown : List ℕ
  pub few : length read ≤ INPUT_LIMIT
  pub reads : Consumes old.source.remaining new.source.remaining read
  pub writes : AppendsBut old.sink.contents new.sink.contents held_back shown
  pub run : (rest : List ℕ) → (ending ≡ endings.Waiting → rest ≡ [])
      → run_of show limit (read ++ rest) began ≡ ended_run shown ending machine rest
  pub drained : ending ≡ endings.Waiting → IsAtEnd new.source.remaining

-- A fault stopped the run. The bytes written are a prefix of the run's output for any further input. If a read failed,
-- they are the whole output for the bytes that were read before.
pub record StopsShort (old new : Streams) (show : Show) (limit : ℕ) (began : State) (fault : Fault) : Type 0 where
  pub read : List ℕ
  pub front : List ℕ
  pub reads : Consumes old.source.remaining new.source.remaining read
  pub writes : Appends old.sink.contents new.sink.contents front
  pub begins : (rest : List ℕ) → IsFront front (run_of show limit (read ++ rest) began).shown
  pub prompt : new.source.failed ≡ true → (run_of show limit read began).shown ≡ front
  pub cause : IsCause fault new.source.failed new.sink.failed read
