-- Sessions of the debugger as lists of events. A *run* of the debugger executes steps until its limit, or until a test
-- holds.
use Rattle.std.specs.Prelude.{◌≡◌, ◌≢◌, ◌<◌, ◌≤◌, ◌+◌, ◌-◌, ◌||◌, nat_le, nat_lt, ℕ, zero, suc, Bool, true, false}
use Rattle.std.specs.Prelude.{List, [], ◌∷◌, ◌++◌, map, replicate, Option, Some, ⊤}
use Rattle.pm_machine.specs.State.{State}
use Rattle.pm_machine.specs.Events.{Event, Step, Key, Poke, after_all}
use Rattle.pm_machine.specs.Runs.{AllWent, after_steps}
use Rattle.pm_machine.specs.Steps.{stepped}
use Rattle.pm_machine.specs.declared.state.Stop.TheVariants as stop
use Rattle.pm_debug.specs.Breaks.{is_at_break, stands_at}
use Rattle.pm_debug.specs.declared.breaks.Breakpoint.{Breakpoint}
use Rattle.pm_debug.specs.declared.run.Depth.{Depth}
use Rattle.pm_machine.specs.CodePlaces.{code_place}
use Rattle.pm_debug.specs.declared.run.Depth.TheVariants as depths
use Rattle.pm_debug.specs.declared.watches.WatchedWord.{WatchedWord}
use Rattle.pm_debug.specs.Passes.{gone_past, left_past}
use Rattle.pm_debug.specs.Runs.{Gone, Left, countable, gone, gone_from, gone_out, gone_over, gone_until, has_ended}
use Rattle.pm_debug.specs.Runs.{is_there, left_behind, left_of, stops_at}
use Rattle.pm_debug.specs.Runs.Left.{AtBreak, Nothing, Rest}
use Rattle.pm_debug.specs.Session.{Session}
use Rattle.pm_debug.specs.Watches.{has_changed, watched_words}
use Rattle.pm_session.specs.declared.commands.Command.TheVariants as commands
use Rattle.pm_session.specs.Answers.{session_after}
use Rattle.pm_session.specs.Orders.{Order, order_of}
use Rattle.pm_session.specs.Orders.Order.{Does, Types}
use Rattle.pm_session.specs.Sessions.{answers, is_quit, opened}

-- ---- the steps of `go`, `step`, `finish` and `until`

-- Each of the `n` steps from the state `s` succeeds, and `test` is false before each of them from step number `first`
-- on. Steps are counted from 0.
pub record GoesOn (test : State → Bool) (first n : ℕ) (s : State) : Type 0 where
  pub went : AllWent n s
  pub free : (k : ℕ) → first ≤ k → k < n → test (after_steps k s) ≡ false

-- States why a run executes only this number of steps: the machine had ended before; the limit is reached; `test` is
-- true after the last step; or the last step did not succeed, because the machine ended, halted or waits.
pub data StopsAfter (test : State → Bool) (first limit : ℕ) (s : State) : ℕ → Type 0 where
  rests : has_ended s.status ≡ true → StopsAfter test first limit s 0
  all : GoesOn test first limit s → StopsAfter test first limit s limit
  breaks_there : (n : ℕ) → first ≤ n → n < limit → GoesOn test first n s → test (after_steps n s) ≡ true
      → StopsAfter test first limit s n
  stops : (n : ℕ) → n < limit → GoesOn test first n s → (first ≤ n → test (after_steps n s) ≡ false)
      → (stepped (after_steps n s)).1 ≢ stop.Went → StopsAfter test first limit s (n + 1)

-- `events` are the steps of a run of at most `limit` steps from the state `s`. The run ends in a state in which `test`
-- is true, and tests from step number `first` on.
abbrev pub AreStepsFrom : ℕ → (State → Bool) → ℕ → State → List Event → Type 0
AreStepsFrom first test limit s events =
    (steps : ℕ) × StopsAfter test first limit s steps × (events ≡ replicate steps Step)

-- `events` are the steps of a run of at most `limit` steps from the state `s` that tests from its second step on.
abbrev pub AreStepsTo : (State → Bool) → ℕ → State → List Event → Type 0
AreStepsTo test limit s events = AreStepsFrom 1 test limit s events

-- Returns the number, counted from 0, of the first step before which a run tests. The run has executed the given number
-- of steps before. It tests before every step except its first one.
abbrev pub first_look : ℕ → ℕ
first_look zero = 1
first_look (suc made) = 0

-- ---- breakpoints that are ignored

-- `events` are the steps of a run after the ignored breakpoint at the state `s`. The list is empty if the run is at its
-- end, which the first argument states.
abbrev pub AreStepsPast : Bool → (State → Bool) → ℕ → State → List Event → Type 0
AreStepsPast true test limit s events = events ≡ []
AreStepsPast false test limit s events = AreStepsTo test limit s events

-- `events` are the steps of a run after each of the breakpoints that it ignores. The run has at most `most` steps and
-- stopped at `s`.
abbrev pub AreStepsBehind : List Breakpoint → ℕ → ℕ → Left → State → List Event → Type 0
AreStepsBehind breaks most zero left s events = events ≡ []
AreStepsBehind breaks most (suc passes) Nothing s events = events ≡ []
AreStepsBehind breaks most (suc passes) (Rest depth made watched) s events = events ≡ []
AreStepsBehind breaks most (suc passes) (AtBreak depth made watched) s events =
    (first more : List Event)
    × AreStepsPast (is_there depth s) (stops_at watched breaks (is_there depth)) (most - made) s first
    × AreStepsBehind breaks most passes (left_past breaks (AtBreak depth made watched) most s)
    (gone_past breaks watched depth made most s).machine more × (events ≡ first ++ more)

-- `events` are the steps of a run up to its first stop `run`, and the steps after the breakpoints that it ignores.
abbrev pub AreStepsOfRun : Session → ℕ → Left → Gone → (List Event → Type 0) → List Event → Type 0
AreStepsOfRun d most left run Up events =
    (first more : List Event) × Up first × AreStepsBehind d.breaks most d.passes left run.machine more
    × (events ≡ first ++ more)

-- `events` are the steps of a run that begins in the session `d`. `depth` states at which depth of calls it stops.
abbrev pub AreStepsOfBegun : Session → Depth → ℕ → Gone → (State → Bool) → List Event → Type 0
AreStepsOfBegun d depth limit run test events =
    AreStepsOfRun d limit (left_of depth d.watches d.machine run) run (AreStepsTo test limit d.machine) events

-- Returns the result of the rest of a run, of which `made` steps were executed before.
abbrev pub rest_of : Session → Depth → ℕ → List WatchedWord → ℕ → Gone
rest_of d depth made watched limit = gone_from d.breaks watched (is_there depth) made (countable made limit) d.machine

-- `events` are the steps of the rest of a run, with at most `limit` steps.
abbrev pub AreStepsOn : Session → Left → ℕ → List Event → Type 0
AreStepsOn d Nothing limit events = events ≡ []
AreStepsOn d (AtBreak depth made watched) limit events = events ≡ []
AreStepsOn d (Rest depth made watched) limit events =
    AreStepsOfRun d (made + countable made limit) (left_behind depth watched (rest_of d depth made watched limit))
    (rest_of d depth made watched limit) (AreStepsFrom (first_look made)
    (λ t. (is_there depth t || has_changed watched t.memory) || is_at_break d.breaks t) (countable made limit)
    d.machine) events

-- ---- sessions

-- A watched word in the state `s` differs from its value in the session `d`, at the time of the command.
abbrev pub has_changed_since : Session → State → Bool
has_changed_since d s = has_changed (watched_words d.watches d.machine.memory) s.memory

-- States the events of a line in the session `d`. A poke and a key are one event each. A typed text is a key for each
-- of its bytes. `go` is its steps up to its limit, to a changed word or to a breakpoint, and its steps after each
-- ignored breakpoint. `step`, `finish` and `until` are the same, but they also end when MP is at least its value
-- before, when MP is greater than this value, or at the named position. `on` is the steps of the rest of the last run.
-- All other lines have no events.
abbrev pub AreEventsOf : Option Order → Session → List Event → Type 0
AreEventsOf (Some (Does (commands.Poke a w))) d events = events ≡ Poke a w ∷ []
AreEventsOf (Some (Does (commands.Key b))) d events = events ≡ Key b ∷ []
AreEventsOf (Some (Does (commands.Go n))) d events =
    AreStepsOfBegun d depths.Any n (gone d.breaks d.watches n d.machine)
    (λ s. has_changed_since d s || is_at_break d.breaks s) events
AreEventsOf (Some (Does (commands.Step n))) d events =
    AreStepsOfBegun d (depths.Back d.machine.registers.mp) n (gone_over d.breaks d.watches n d.machine)
    (λ s. (nat_le d.machine.registers.mp s.registers.mp || has_changed_since d s) || is_at_break d.breaks s) events
AreEventsOf (Some (Does (commands.Finish n))) d events =
    AreStepsOfBegun d (depths.Left d.machine.registers.mp) n (gone_out d.breaks d.watches n d.machine)
    (λ s. (nat_lt d.machine.registers.mp s.registers.mp || has_changed_since d s) || is_at_break d.breaks s) events
AreEventsOf (Some (Does (commands.Until s p o n))) d events =
    AreStepsOfBegun d (depths.Place (code_place s p o)) n
    (gone_until d.breaks d.watches (code_place s p o) n d.machine)
    (λ t. (stands_at (code_place s p o) t || has_changed_since d t) || is_at_break d.breaks t) events
AreEventsOf (Some (Does (commands.On n))) d events = AreStepsOn d d.left n events
AreEventsOf (Some (Types bytes)) d events = events ≡ map Key bytes
AreEventsOf other d events = events ≡ []

-- `events` are the events of the lines in the session `d`, one line after the other.
abbrev pub AreEventsOfLines : List (List ℕ) → Session → List Event → Type 0
AreEventsOfLines [] d events = events ≡ []
AreEventsOfLines (line ∷ lines) d events =
    (first more : List Event) × AreEventsOf (order_of line) d first
    × AreEventsOfLines lines (session_after (order_of line) d) more × (events ≡ first ++ more)

-- None of the lines is `quit`.
abbrev pub GoesOnAfter : List (List ℕ) → Type 0
GoesOnAfter [] = ⊤
GoesOnAfter (line ∷ lines) = (is_quit (order_of line) ≡ false) × GoesOnAfter lines

-- After these lines, a session with the machine `s` is in the state after the events of the lines. The answers to all
-- lines that follow are those of a session in that state.
pub record ShowsTheTable (lines : List (List ℕ)) (s : State) : Type 0 where
  pub events : List Event
  pub named : AreEventsOfLines lines (opened s) events
  pub session : Session
  pub state : session.machine ≡ after_all s events
  pub answered : (more : List (List ℕ)) →
      answers (lines ++ more) (opened s) ≡ answers lines (opened s) ++ answers more session

abbrev pub SessionsShowTheTable : Type 0
SessionsShowTheTable = (lines : List (List ℕ)) (s : State) → GoesOnAfter lines → ShowsTheTable lines s
