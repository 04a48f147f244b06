-- Laws of the debugger's runs.
use Rattle.std.specs.Prelude.{◌≡◌, ◌≢◌, ℕ, ◌<◌, ◌≤◌, ◌+◌, Some, None, Bool, false, List, [], ◌∷◌, ◌++◌, All}
use Rattle.pm_words.specs.Words.{word_at}
use Rattle.pm_machine.specs.declared.state.RunEnd.{RunEnd}
use Rattle.pm_machine.specs.declared.state.RunEnd.TheVariants as ends
use Rattle.pm_machine.specs.State.{State}
use Rattle.pm_machine.specs.Runs.{AllWent, RunOutcome, after_steps, run_until}
use Rattle.pm_debug.specs.declared.breaks.Breakpoint.{Breakpoint}
use Rattle.pm_debug.specs.declared.breaks.Spot.{Spot}
use Rattle.pm_debug.specs.declared.reason.BreakReason.{BreakReason}
use Rattle.pm_debug.specs.declared.reason.BreakReason.TheVariants as reasons
use Rattle.pm_debug.specs.Breaks.{breakpoint, is_at_break, word_is}
use Rattle.pm_debug.specs.declared.run.Depth.{Depth}
use Rattle.pm_debug.specs.Runs.{Gone, Left, answered_so, gone, gone_on, gone_to, has_ended, is_there, later, left_of}
use Rattle.pm_debug.specs.Runs.{left_on}

-- Is true if the word at each of these addresses is the same in `t` as in `s`.
abbrev pub AreAsIn : State → List ℕ → State → Type 0
AreAsIn s addresses t = All (λ a. word_at t.memory a ≡ word_at s.memory a) addresses

-- States that the watched word at the address `a` stopped a run from `s` after `steps` steps, all of which succeeded.
-- In the last state the word at `a` has changed, and no watched word before `a` in the list has changed. After each
-- smaller number of steps all watched words are unchanged.
pub record StopsAtChange (watches : List ℕ) (s : State) (a steps : ℕ) (t : State) : Type 0 where
  pub some : 1 ≤ steps
  pub went : AllWent steps s
  pub left : t ≡ after_steps steps s
  pub changed : word_at t.memory a ≢ word_at s.memory a
  pub front : List ℕ
  pub back : List ℕ
  pub order : watches ≡ front ++ a ∷ back
  pub first : AreAsIn s front t
  pub before : (k : ℕ) → k < steps → AreAsIn s watches (after_steps k s)

-- States what it means that the reason of a run is a change of the word at an address.
abbrev pub ChangesAreFirst : Type 0
ChangesAreFirst =
    (breaks : List Breakpoint) (watches : List ℕ) (test : State → Bool) (limit : ℕ) (s : State) (a : ℕ) →
    (gone_to breaks watches test limit s).reason ≡ reasons.Changed a →
    StopsAtChange watches s a (gone_to breaks watches test limit s).steps (gone_to breaks watches test limit s).machine

-- The reason of a run that only breakpoints may stop, from its end.
abbrev pub break_reason : RunEnd → BreakReason
break_reason ends.Limit = reasons.Limit
break_reason ends.Stopped = reasons.Break
break_reason (ends.Answered answer) = answered_so answer

abbrev pub to_a_break : RunOutcome → Gone
to_a_break run = record { steps = run.count; reason = break_reason run.end; machine = run.state }

-- States that without watched words, a run of at most `limit` steps is the run of the machine that only breakpoints may
-- stop.
abbrev pub GoStopsAtBreaks : Type 0
GoStopsAtBreaks =
    (breaks : List Breakpoint) (limit : ℕ) (s : State) → has_ended s.status ≡ false →
    gone breaks [] limit s ≡ to_a_break (run_until (later (is_at_break breaks)) limit s)

-- States that a run that its limit stopped and its continuation are one run with the sum of both limits. This run has
-- the same steps, reason, last state and rest.
pub record AreOneRun (breaks : List Breakpoint) (watches : List ℕ) (depth : Depth) (limit more : ℕ) (s t : State)
    (rest : Left) : Type 0 where
  pub ran : gone_on breaks rest more t ≡ Some (gone_to breaks watches (is_there depth) (limit + more) s)
  pub left : left_on breaks rest more t
      ≡ left_of depth watches s (gone_to breaks watches (is_there depth) (limit + more) s)

abbrev pub RunsGoOnAsOne : Type 0
RunsGoOnAsOne =
    (breaks : List Breakpoint) (watches : List ℕ) (depth : Depth) (limit more : ℕ) (s : State) →
    limit + more ≤ 18446744073709551615 → (gone_to breaks watches (is_there depth) limit s).reason ≡ reasons.Limit →
    AreOneRun breaks watches depth limit more s (gone_to breaks watches (is_there depth) limit s).machine
    (left_of depth watches s (gone_to breaks watches (is_there depth) limit s))

-- The list of the breakpoints `front`, then `b`, then `back`.
abbrev pub among : List Breakpoint → Breakpoint → List Breakpoint → List Breakpoint
among front b back = front ++ b ∷ back

-- States that a breakpoint whose condition is never true does not change a run. The condition, that the word at `a` is
-- `w`, must be false after each step of the run that only the other breakpoints may stop.
abbrev pub FalseConditionsStopNothing : Type 0
FalseConditionsStopNothing =
    (front back : List Breakpoint) (spot : Spot) (a w : ℕ) (watches : List ℕ) (test : State → Bool)
    (limit : ℕ) (s : State) →
    ((k : ℕ) → 1 ≤ k → k ≤ (gone_to (front ++ back) watches test limit s).steps
    → word_at (after_steps k s).memory a ≢ w) →
    gone_to (among front (breakpoint spot (Some (word_is a w))) back) watches test limit s
    ≡ gone_to (front ++ back) watches test limit s

-- States that a breakpoint whose condition is always true stops a run as the same breakpoint without a condition does.
-- The word at `a` must be `w` after each step of the run with the breakpoint without a condition.
abbrev pub TrueConditionsAreNone : Type 0
TrueConditionsAreNone =
    (front back : List Breakpoint) (spot : Spot) (a w : ℕ) (watches : List ℕ) (test : State → Bool)
    (limit : ℕ) (s : State) →
    ((k : ℕ) → 1 ≤ k → k ≤ (gone_to (among front (breakpoint spot None) back) watches test limit s).steps
    → word_at (after_steps k s).memory a ≡ w) →
    gone_to (among front (breakpoint spot (Some (word_is a w))) back) watches test limit s
    ≡ gone_to (among front (breakpoint spot None) back) watches test limit s
