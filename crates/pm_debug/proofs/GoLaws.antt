-- Runs that nothing stops, and runs that only breakpoints may stop.
use Rattle.std.proofs.Common.{◌≡◌, ◌∙◌, ap, sym, refl, arith, ℕ, zero, suc, Bool, true, false, not, ◌&&◌, List, [], ◌∷◌, length, inl, inr}
use Rattle.std.specs.Prelude.{◌==◌}
use Rattle.std.proofs.lemmas.Bool.{cases_Bool, eqb-true}
use Rattle.pm_machine.specs.declared.state.RunEnd.{RunEnd}
use Rattle.pm_machine.specs.declared.state.RunEnd.TheVariants as ends
use Rattle.pm_machine.specs.declared.state.Status.{Status}
use Rattle.pm_machine.specs.declared.state.Status.TheVariants as status
use Rattle.pm_machine.specs.declared.state.Stop.{Stop}
use Rattle.pm_machine.specs.declared.state.Stop.TheVariants as stop
use Rattle.pm_machine.specs.State.{State}
use Rattle.pm_machine.specs.Steps.{stepped}
use Rattle.pm_machine.specs.Runs.{RunOutcome, never, run_from, run_until}
use Rattle.pm_machine.specs.RunLaws.{EndsSo, as_outcome}
use Rattle.pm_machine.proofs.UntilLaws.{outcome_of, runs_end_so, same_runs}
use Rattle.pm_debug.specs.declared.breaks.Breakpoint.{Breakpoint}
use Rattle.pm_debug.specs.declared.reason.BreakReason.TheVariants as reasons
use Rattle.pm_debug.specs.declared.run.Depth.{Depth}
use Rattle.pm_debug.specs.declared.run.Depth.TheVariants as depths
use Rattle.pm_debug.specs.declared.watches.WatchedWord.{WatchedWord}
use Rattle.pm_debug.specs.Breaks.{is_at_break}
use Rattle.pm_debug.specs.RunLaws.{GoStopsAtBreaks, break_reason, to_a_break}
use Rattle.pm_debug.specs.Runs.{GoIsRun, Gone, answered_so, gone_by, gone_to, has_ended, is_there, later, nowhere, reason_of, stops_after, stops_at}
use Rattle.pm_debug.specs.Watches.{first_changed}

and_false : (b : Bool) → b && false ≡ false
and_false true = refl
and_false false = refl

-- Without breakpoints, watched words and destination, no test stops a run.
pub none_stop : (k : ℕ) (s : State) → later (stops_at [] [] nowhere) k s ≡ false
unfolding first_changed
none_stop k s = and_false (not (k == 0))

pub never_stops : (watched : List WatchedWord) (breaks : List Breakpoint) (depth : Depth) → (length watched == 0) ≡ true → (length breaks == 0) ≡ true
    → depth ≡ depths.Any → (k : ℕ) (s : State) → later (stops_at watched breaks (is_there depth)) k s ≡ false
never_stops [] [] depth w b d k s = rw d (none_stop k s)
never_stops [] (x ∷ breaks) depth w b d k s = absurd (omega (arith, eqb-true (length (x ∷ breaks)) 0 b))
never_stops (x ∷ watched) breaks depth w b d k s = absurd (omega (arith, eqb-true (length (x ∷ watched)) 0 w))

without_stops : (limit : ℕ) (s : State) → run_until (stops_after [] [] nowhere s) limit s ≡ run_until never limit s
without_stops limit s = same_runs (stops_after [] [] nowhere s) never none_stop limit 0 s

gone_as : (count : ℕ) (a : Stop) (t : State) → gone_by [] [] (as_outcome count a t) ≡ record { steps = count; reason = answered_so a; machine = t }
gone_as count stop.Went t = refl
gone_as count stop.Waiting t = refl
gone_as count stop.Ended t = refl
gone_as count (stop.Halted e) t = refl

outcome_count : (count : ℕ) (a : Stop) (t : State) → (as_outcome count a t).count ≡ count
outcome_count count stop.Went t = refl
outcome_count count stop.Waiting t = refl
outcome_count count stop.Ended t = refl
outcome_count count (stop.Halted e) t = refl

outcome_state : (count : ℕ) (a : Stop) (t : State) → (as_outcome count a t).state ≡ t
outcome_state count stop.Went t = refl
outcome_state count stop.Waiting t = refl
outcome_state count stop.Ended t = refl
outcome_state count (stop.Halted e) t = refl

-- If a status has ended, then it is `Ended`. Such a machine executes no step.
ended_is : (st : Status) → has_ended st ≡ true → st ≡ status.Ended
ended_is status.Ended h = refl
ended_is status.Running h = absurd (cc)
ended_is (status.Halted e) h = absurd (cc)

ended_count : (limit : ℕ) (s : State) → s.status ≡ status.Ended → (run_until never limit s).count ≡ 0
unfolding run_from stepped
ended_count zero s h = refl
ended_count (suc n) s h = rw h refl

ended_state : (limit : ℕ) (s : State) → s.status ≡ status.Ended → (run_until never limit s).state ≡ s
unfolding run_from stepped
ended_state zero s h = refl
ended_state (suc n) s h = rw h refl

same_gone : (c d : ℕ) (s t : State) → c ≡ d → s ≡ t → ◌≡◌ {A = Gone} (record { steps = c; reason = reasons.Ended; machine = s })
    (record { steps = d; reason = reasons.Ended; machine = t })
same_gone c d s t e h = rw (e, h) refl

pub go_is_run : GoIsRun
unfolding gone_to
go_is_run limit count s t a h =
    let so = outcome_of limit count s t a h in
    elim (cases_Bool (has_ended s.status)) [
      | inl ended ↦
          let st = ended_is s.status ended in
          rw ended (same_gone 0 count s t (sym (ended_count limit s st) ∙ ap (λ (d : RunOutcome). d.count) so ∙ outcome_count count a t)
          (sym (ended_state limit s st) ∙ ap (λ (d : RunOutcome). d.state) so ∙ outcome_state count a t))
      | inr going ↦ rw going (ap (gone_by [] []) (without_stops limit s ∙ so) ∙ gone_as count a t)
    ]

-- ---- only breakpoints

held_later : (k : ℕ) (b : Bool) → (not (k == 0) && b) ≡ true → b ≡ true
held_later k b h = behind (not (k == 0)) b h
  where
    behind : (first b : Bool) → (first && b) ≡ true → b ≡ true
    behind true b h = h
    behind false b h = absurd (cc)

-- Without watched words, the reason of a run is that of a run that only breakpoints may stop.
break_told : (breaks : List Breakpoint) (limit n count : ℕ) (s t : State) (end : RunEnd) → EndsSo (later (is_at_break breaks)) limit n s end count t
    → reason_of [] breaks end t ≡ break_reason end
unfolding first_changed
break_told breaks limit n count s t ends.Limit h = refl
break_told breaks limit n count s t ends.Stopped h = rw (held_later n (is_at_break breaks t) h.1) refl
break_told breaks limit n count s t (ends.Answered a) h = refl

told_so : (breaks : List Breakpoint) (run : RunOutcome) → reason_of [] breaks run.end run.state ≡ break_reason run.end
    → gone_by [] breaks run ≡ to_a_break run
told_so breaks run h = ap (λ reason. record { steps = run.count; reason = reason; machine = run.state }) h

pub go_stops_at_breaks : GoStopsAtBreaks
unfolding gone_to first_changed
go_stops_at_breaks breaks limit s h =
    let test = later (is_at_break breaks) in
    let run = run_until test limit s in
    let so = runs_end_so test limit s in
    rw h (told_so breaks run (break_told breaks limit so.0 run.count s run.state run.end so.2))
