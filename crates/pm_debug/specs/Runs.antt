-- Runs of the debugger. They stop before a step if a watched word has changed, at a breakpoint, or at their
-- destination.
use Rattle.std.specs.Prelude.{◌≡◌, ℕ, ◌+◌, ◌-◌, min, ◌==◌, ◌&&◌, ◌||◌, not, nat_le, nat_lt, Bool, true, false, List, []}
use Rattle.std.specs.Prelude.{Option, Some, None, if◌then◌else◌}
use Rattle.pm_machine.specs.declared.state.RunEnd.{RunEnd}
use Rattle.pm_machine.specs.declared.state.RunEnd.TheVariants as ends
use Rattle.pm_machine.specs.declared.state.Status.{Status}
use Rattle.pm_machine.specs.declared.state.Status.TheVariants as status
use Rattle.pm_machine.specs.declared.state.Stop.{Stop}
use Rattle.pm_machine.specs.declared.state.Stop.TheVariants as stop
use Rattle.pm_machine.specs.State.{State, Whole}
use Rattle.pm_machine.specs.Runs.{GaveUp, Ran, RunOutcome, run_from}
use Rattle.pm_machine.specs.declared.code_place.CodePlace.{CodePlace}
use Rattle.pm_debug.specs.declared.breaks.Breakpoint.{Breakpoint}
use Rattle.pm_debug.specs.declared.reason.BreakReason.{BreakReason}
use Rattle.pm_debug.specs.declared.reason.BreakReason.TheVariants as reasons
use Rattle.pm_debug.specs.declared.run.Depth.{Depth}
use Rattle.pm_debug.specs.declared.run.Depth.TheVariants as depths
use Rattle.pm_debug.specs.declared.run.LastRun.{LastRun}
use Rattle.pm_debug.specs.declared.run.LastRun.TheVariants as last
use Rattle.pm_debug.specs.declared.watches.WatchedWord.{WatchedWord}
use Rattle.pm_debug.specs.Breaks.{is_at_break, stands_at}
use Rattle.pm_debug.specs.Watches.{first_changed, has_changed, watched_words}

-- ---- what stops a run

-- Is true if a run stops in the state `s` after `k` steps because of `test`. A run never stops before its first step.
abbrev pub later : (State → Bool) → ℕ → State → Bool
later test k s = not (k == 0) && test s

-- Is true if a run stops in the state `s`: `s` is its destination (`test` is true), a watched word has changed, or a
-- breakpoint stops the run.
abbrev pub stops_at : List WatchedWord → List Breakpoint → (State → Bool) → State → Bool
stops_at watched breaks test s = (test s || has_changed watched s.memory) || is_at_break breaks s

-- The test that stops a run that begins in the state `began`, with these breakpoints and the words at `watches`
-- watched.
abbrev pub stops_after : List Breakpoint → List ℕ → (State → Bool) → State → ℕ → State → Bool
stops_after breaks watches test began = later (stops_at (watched_words watches began.memory) breaks test)

-- ---- the reason of the end

abbrev pub has_ended : Status → Bool
has_ended status.Ended = true
has_ended status.Running = false
has_ended (status.Halted e) = false

-- The reason of a run that ended because its last step had this answer.
abbrev pub answered_so : Stop → BreakReason
answered_so stop.Went = reasons.Limit
answered_so stop.Waiting = reasons.Waiting
answered_so stop.Ended = reasons.Ended
answered_so (stop.Halted e) = reasons.Halted e

abbrev pub changed_or : Option ℕ → BreakReason → BreakReason
changed_or (Some address) other = reasons.Changed address
changed_or None other = other

-- The reason why a run stops in the state `s`. If a watched word has changed, the reason is this word. Otherwise the
-- reason is a breakpoint if one stops the run, and else the destination.
abbrev pub stopped_so : List WatchedWord → List Breakpoint → State → BreakReason
stopped_so watched breaks s =
    changed_or (first_changed watched s.memory) (if is_at_break breaks s then reasons.Break else reasons.There)

-- The reason why a run of the debugger has ended, from the end of the run of the machine and its last state.
abbrev pub reason_of : List WatchedWord → List Breakpoint → RunEnd → State → BreakReason
reason_of watched breaks ends.Limit s = reasons.Limit
reason_of watched breaks ends.Stopped s = stopped_so watched breaks s
reason_of watched breaks (ends.Answered answer) s = answered_so answer

-- ---- runs

-- The outcome of a run of the debugger: the number of steps, the reason of the end, and the last state.
pub record Gone : Type 0 where
  pub steps : ℕ
  pub reason : BreakReason
  pub machine : State

abbrev pub gone_by : List WatchedWord → List Breakpoint → RunOutcome → Gone
gone_by watched breaks run =
    record { steps = run.count; reason = reason_of watched breaks run.end run.state; machine = run.state }

-- The outcome of at most `limit` more steps of a run that has executed `made` steps. The stops are checked before each
-- step except the first of the whole run. The values of `watched` are those of the state in which the whole run began.
abbrev pub gone_from : List Breakpoint → List WatchedWord → (State → Bool) → ℕ → ℕ → State → Gone
gone_from breaks watched test made limit s =
    gone_by watched breaks (run_from (later (stops_at watched breaks test)) made limit s)

-- The outcome of a run of at most `limit` steps, until a watched word has changed, a breakpoint stops it, or `test` is
-- true. The watched words are compared with their values in the state `s`, in which the run begins. A machine that has
-- ended executes no step.
unfoldable pub gone_to : List Breakpoint → List ℕ → (State → Bool) → ℕ → State → Gone
gone_to breaks watches test limit s =
    if has_ended s.status then record { steps = 0; reason = reasons.Ended; machine = s }
    else gone_from breaks (watched_words watches s.memory) test 0 limit s

-- The test of a run without a destination.
abbrev pub nowhere : State → Bool
nowhere s = false

-- The outcome of a run of at most `limit` steps without a destination.
abbrev pub gone : List Breakpoint → List ℕ → ℕ → State → Gone
gone breaks watches limit s = gone_to breaks watches nowhere limit s

-- ---- runs over calls

-- Is true if the machine is in the frame at this address, or in a frame at a higher address. A called procedure has its
-- frame below SP, and therefore below its caller's frame. The frames at higher addresses are those of the callers.
abbrev pub is_back : ℕ → State → Bool
is_back frame s = nat_le frame s.registers.mp

-- Is true if the frame at this address was left: the machine is in a frame at a higher address.
abbrev pub has_left : ℕ → State → Bool
has_left frame s = nat_lt frame s.registers.mp

-- Is true if the machine is at the destination of a run.
abbrev pub is_there : Depth → State → Bool
is_there depths.Any s = nowhere s
is_there (depths.Back frame) s = is_back frame s
is_there (depths.Left frame) s = has_left frame s
is_there (depths.Place place) s = stands_at place s

-- The greatest number of steps that can be requested for such a run.
abbrev pub most_steps : ℕ
most_steps = 4294967295

-- The outcome of `step_over`: one instruction is executed, and if it is a call, the whole called procedure.
abbrev pub gone_over : List Breakpoint → List ℕ → ℕ → State → Gone
gone_over breaks watches limit s = gone_to breaks watches (is_back s.registers.mp) limit s

-- The outcome of `finish`: the rest of the running procedure and its return are executed.
abbrev pub gone_out : List Breakpoint → List ℕ → ℕ → State → Gone
gone_out breaks watches limit s = gone_to breaks watches (has_left s.registers.mp) limit s

-- The outcome of `until`: the run stops at the position `place`, before the instruction at this position.
abbrev pub gone_until : List Breakpoint → List ℕ → CodePlace → ℕ → State → Gone
gone_until breaks watches place limit s = gone_to breaks watches (stands_at place) limit s

-- ---- continued runs

-- The rest of the last run: what its continuation needs. It exists if its limit or a breakpoint stopped the run. It
-- consists of the destination, the number of steps executed, and the watched words with their values when the run
-- began.
pub data Left : Type 0 where
  Nothing : Left
  Rest : Depth → ℕ → List WatchedWord → Left
  AtBreak : Depth → ℕ → List WatchedWord → Left

-- Is true if the run can be continued with more steps, because its limit stopped it.
abbrev pub has_rest : Left → Bool
has_rest Nothing = false
has_rest (Rest depth made watched) = true
has_rest (AtBreak depth made watched) = false

-- The rest of a run that ended after `steps` steps for this reason. The run is over unless its limit or a breakpoint
-- stopped it.
abbrev pub left_so : Depth → List WatchedWord → ℕ → BreakReason → Left
left_so depth watched steps reasons.Limit = Rest depth steps watched
left_so depth watched steps reasons.Break = AtBreak depth steps watched
left_so depth watched steps other = Nothing

-- The rest of a run that began in the state `began`, with the words at `watches` watched.
abbrev pub left_after : Depth → List ℕ → State → ℕ → BreakReason → Left
left_after depth watches began steps reason = left_so depth (watched_words watches began.memory) steps reason

abbrev pub left_of : Depth → List ℕ → State → Gone → Left
left_of depth watches began run = left_after depth watches began run.steps run.reason

-- The rest of the last run as contracts describe it. `watched` has the watched words with their values when the run
-- began.
abbrev pub left_seen : LastRun → List WatchedWord → Left
left_seen last.Over watched = Nothing
left_seen (last.AtLimit depth steps) watched = Rest depth steps watched
left_seen (last.AtBreak depth steps) watched = AtBreak depth steps watched

-- The number of steps that a run may execute after `made` steps: `limit`, or fewer, so that the sum is at most the
-- greatest number of 64 bits.
abbrev pub countable : ℕ → ℕ → ℕ
countable made limit = min limit (18446744073709551615 - made)

-- The outcome of the last run if it is continued for at most `limit` more steps. `None` if the limit did not stop the
-- run.
abbrev pub gone_on : List Breakpoint → Left → ℕ → State → Option Gone
gone_on breaks Nothing limit s = None
gone_on breaks (AtBreak depth made watched) limit s = None
gone_on breaks (Rest depth made watched) limit s =
    Some (gone_from breaks watched (is_there depth) made (countable made limit) s)

abbrev pub left_behind : Depth → List WatchedWord → Gone → Left
left_behind depth watched run = left_so depth watched run.steps run.reason

-- The rest of the last run after its continuation.
abbrev pub left_on : List Breakpoint → Left → ℕ → State → Left
left_on breaks Nothing limit s = Nothing
left_on breaks (AtBreak depth made watched) limit s = AtBreak depth made watched
left_on breaks (Rest depth made watched) limit s =
    left_behind depth watched (gone_from breaks watched (is_there depth) made (countable made limit) s)

-- The test `test`, for the rest of a run that has executed `made` steps: these steps are added to `k`.
abbrev pub behind_steps : ℕ → (ℕ → State → Bool) → ℕ → State → Bool
behind_steps made test k s = test (made + k) s

-- States that the continuation of the last run stopped because it was out of memory.
abbrev pub GaveUpOn : List Breakpoint → Left → ℕ → Whole → Whole → Type 0
GaveUpOn breaks Nothing limit m t = ⊥
GaveUpOn breaks (AtBreak depth made watched) limit m t = ⊥
GaveUpOn breaks (Rest depth made watched) limit m t =
    GaveUp (behind_steps made (later (stops_at watched breaks (is_there depth)))) (countable made limit) m t

-- ---- laws

-- States that a run without breakpoints and watched words is a run of the machine, with as many steps and the same last
-- state. The reason is that of the last answer. The machine must not have ended before.
abbrev pub GoIsRun : Type 0
GoIsRun =
    (limit count : ℕ) (s t : State) (answer : Stop) → Ran limit s count answer t →
    gone [] [] limit s ≡ record {
      steps = count;
      reason = if has_ended s.status then reasons.Ended else answered_so answer;
      machine = t;
    }
