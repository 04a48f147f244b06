-- Lemmas about continued runs.
use Rattle.std.proofs.Common.{◌≡◌, ◌≢◌, ◌≤◌, ◌∙◌, ap, sym, refl, arith, ℕ, zero, suc, ◌+◌, Bool, true, false, inl, inr, List, Option, Some, None}
use Rattle.std.specs.Prelude.{if◌then◌else◌}
use Rattle.std.proofs.lemmas.Bool.Decides.{nat_tests}
use Rattle.std.proofs.lemmas.Bool.{cases_Bool}
use Rattle.pm_machine.specs.declared.state.RunEnd.{RunEnd}
use Rattle.pm_machine.specs.declared.state.RunEnd.TheVariants as ends
use Rattle.pm_machine.specs.declared.state.Status.{Status}
use Rattle.pm_machine.specs.declared.state.Status.TheVariants as status
use Rattle.pm_machine.specs.declared.state.Stop.{Stop}
use Rattle.pm_machine.specs.declared.state.Stop.TheVariants as stop
use Rattle.pm_machine.specs.State.{State, Whole}
use Rattle.pm_machine.specs.Steps.{stepped}
use Rattle.pm_machine.specs.Runs.{GaveUp, RunOutcome, after_steps, last_counts, on_answer, run_from}
use Rattle.pm_machine.specs.RunLaws.{EndsSo}
use Rattle.pm_machine.proofs.UntilLaws.{runs_end_so}
use Rattle.pm_debug.specs.declared.breaks.Breakpoint.{Breakpoint}
use Rattle.pm_debug.specs.declared.reason.BreakReason.{BreakReason}
use Rattle.pm_debug.specs.declared.reason.BreakReason.TheVariants as reasons
use Rattle.pm_debug.specs.declared.watches.WatchedWord.{WatchedWord}
use Rattle.pm_debug.specs.Breaks.{is_at_break}
use Rattle.pm_debug.specs.RunLaws.{AreOneRun, RunsGoOnAsOne}
use Rattle.pm_debug.specs.Runs.{Gone, answered_so, behind_steps, changed_or, countable, gone_by, gone_from, gone_to, has_ended, is_there, later}
use Rattle.pm_debug.specs.Runs.{left_behind, left_of, reason_of, stops_at}
use Rattle.pm_debug.specs.Watches.{first_changed, watched_words}

-- ---- the steps that count

one_at_most : (st : Status) (a : Stop) → last_counts st a ≤ 1
one_at_most status.Running stop.Ended = omega arith
one_at_most status.Running stop.Went = omega arith
one_at_most status.Running stop.Waiting = omega arith
one_at_most status.Running (stop.Halted e) = omega arith
one_at_most status.Ended a = omega arith
one_at_most (status.Halted e) a = omega arith

answered_within : (st : Status) (k n : ℕ) (rest : State → RunOutcome) (t : State) → ((u : State) → (rest u).count ≤ (k + 1) + n) → (a : Stop)
    → (on_answer st k rest t a).count ≤ k + suc n
answered_within st k n rest t more stop.Went = let h = more t in omega (arith, h)
answered_within st k n rest t more stop.Waiting = let h = one_at_most st stop.Waiting in omega (arith, h)
answered_within st k n rest t more stop.Ended = let h = one_at_most st stop.Ended in omega (arith, h)
answered_within st k n rest t more (stop.Halted e) = let h = one_at_most st (stop.Halted e) in omega (arith, h)

-- The count of a run is at most the sum of its limit and the steps that were executed before.
counts_within : (test : ℕ → State → Bool) (n k : ℕ) (s : State) → (run_from test k n s).count ≤ k + n
unfolding run_from
counts_within test zero k s = omega arith
counts_within test (suc n) k s = elim (cases_Bool (test k s)) [
  | inl b ↦ rw b (omega arith)
  | inr b ↦ rw b (answered_within s.status k n (run_from test (k + 1) n) (stepped s).0 (counts_within test n (k + 1)) (stepped s).1)
]

pub within : (test : ℕ → State → Bool) (limit count : ℕ) (end : RunEnd) (s t : State)
    → run_from test 0 limit s ≡ record { count = count; end = end; state = t } → count ≤ limit
within test limit count end s t h =
    let most = counts_within test limit 0 s in
    let so : (run_from test 0 limit s).count ≡ count = ap (λ (r : RunOutcome). r.count) h in
    omega (arith, most, so)

-- ---- a run after steps that were executed

-- The outcome `run` if `made` steps were executed before: its count includes these steps.
abbrev pub behind_made : ℕ → RunOutcome → RunOutcome
behind_made made run = record { count = made + run.count; end = run.end; state = run.state }

add_assoc : (a b c : ℕ) → (a + b) + c ≡ a + (b + c)
add_assoc a b c = omega arith

answered_behind : (made k : ℕ) (st : Status) (rest others : State → RunOutcome) → ((u : State) → rest u ≡ behind_made made (others u))
    → (t : State) (a : Stop) → on_answer st (made + k) rest t a ≡ behind_made made (on_answer st k others t a)
answered_behind made k st rest others same t stop.Went = same t
answered_behind made k st rest others same t stop.Waiting =
    ap (λ n. record { count = n; end = ends.Answered stop.Waiting; state = t }) (add_assoc made k (last_counts st stop.Waiting))
answered_behind made k st rest others same t stop.Ended =
    ap (λ n. record { count = n; end = ends.Answered stop.Ended; state = t }) (add_assoc made k (last_counts st stop.Ended))
answered_behind made k st rest others same t (stop.Halted e) =
    ap (λ n. record { count = n; end = ends.Answered (stop.Halted e); state = t }) (add_assoc made k (last_counts st (stop.Halted e)))

-- If `made` steps were executed before, the run is that of a test to whose count these steps are added.
goes_behind : (test : ℕ → State → Bool) (made n k : ℕ) (s : State)
    → run_from test (made + k) n s ≡ behind_made made (run_from (behind_steps made test) k n s)
unfolding run_from
goes_behind test made zero k s = refl
goes_behind test made (suc n) k s =
    let more : (u : State) → run_from test ((made + k) + 1) n u ≡ behind_made made (run_from (behind_steps made test) (k + 1) n u) =
    λ u. ap (λ j. run_from test j n u) (add_assoc made k 1) ∙ goes_behind test made n (k + 1) u in
    elim (cases_Bool (test (made + k) s)) [
      | inl b ↦ rw b refl
      | inr b ↦ rw b (answered_behind made k s.status (run_from test ((made + k) + 1) n) (run_from (behind_steps made test) (k + 1) n) more (stepped s).0
          (stepped s).1)
    ]

pub goes_on_behind : (test : ℕ → State → Bool) (made n : ℕ) (s : State)
    → run_from test made n s ≡ behind_made made (run_from (behind_steps made test) 0 n s)
goes_on_behind test made n s = ap (λ j. run_from test j n s) (plus_none made) ∙ goes_behind test made n 0 s
  where
    plus_none : (m : ℕ) → m ≡ m + 0
    plus_none m = omega arith

-- The outcome `gone_from` of the rest of a run follows from the outcome of the machine's run.
pub gone_rest : (breaks : List Breakpoint) (watched : List WatchedWord) (test : State → Bool) (made limit : ℕ) (s : State) (run : RunOutcome)
    (reason : BreakReason) → run_from (behind_steps made (later (stops_at watched breaks test))) 0 limit s ≡ run
    → reason ≡ reason_of watched breaks run.end run.state
    → gone_from breaks watched test made limit s ≡ record { steps = made + run.count; reason = reason; machine = run.state }
gone_rest breaks watched test made limit s run reason ran told =
    ap (gone_by watched breaks) (goes_on_behind (later (stops_at watched breaks test)) made limit s ∙ ap (behind_made made) ran)
    ∙ ap (as_gone (made + run.count) run.state) (sym told)
  where
    as_gone : ℕ → State → BreakReason → Gone
    as_gone steps machine reason = record { steps = steps; reason = reason; machine = machine }

-- If a run uses the breakpoints, watched words and state that were passed to it, then its outcome is that of `gone_to`.
pub begins : (breaks : List Breakpoint) (watches : List ℕ) (test : State → Bool) (limit : ℕ) (s : State) (given : List Breakpoint)
    (watched : List WatchedWord) (began : State) (outcome : Gone) → has_ended s.status ≡ false → given ≡ breaks
    → watched ≡ watched_words watches s.memory → began ≡ s
    → gone_from given watched test 0 limit began ≡ outcome → gone_to breaks watches test limit s ≡ outcome
unfolding gone_to
begins breaks watches test limit s given watched began outcome going b w m h =
    rw going (ap (λ bs. gone_from bs (watched_words watches s.memory) test 0 limit s) (sym b) ∙ ap (λ ws. gone_from given ws test 0 limit s) (sym w)
    ∙ ap (gone_from given watched test 0 limit) (sym m) ∙ h)

-- If a run that begins is out of memory, then the same holds for the test without previous steps.
pub gave_up_first : (test : ℕ → State → Bool) (limit : ℕ) (m t : Whole) → GaveUp (behind_steps 0 test) limit m t → GaveUp test limit m t
gave_up_first test limit m t h = (
  h.0,
  h.1,
  record { went = h.2.went; free = λ k below. sym (none k (after_steps k m.state)) ∙ h.2.free k below },
  h.3,
  sym (none h.0 t.state) ∙ h.4,
  h.5,
)
  where
    none : (k : ℕ) (s : State) → test (0 + k) s ≡ test k s
    none k s = let e : 0 + k ≡ k = omega arith in ap (λ j. test j s) e

-- ---- a run that its limit stopped

abbrev AtLimit : ℕ → State → RunOutcome
AtLimit count t = record { count = count; end = ends.Limit; state = t }

-- States that a run whose limit stopped it and its continuation count their steps as one run.
abbrev IsFollowed : (ℕ → State → Bool) → ℕ → ℕ → ℕ → State → ℕ → State → Type 0
IsFollowed test k n m s count t = (count ≡ k + n) × (run_from test k (n + m) s ≡ run_from test count m t)

no_answer : (answer : Stop) → ends.Answered answer ≡ ends.Limit → ⊥
no_answer answer h = cc

no_stop : ends.Stopped ≡ ends.Limit → ⊥
no_stop h = cc

next_follows : (test : ℕ → State → Bool) (k n m : ℕ) (s : State) (count : ℕ) (t : State) → test k s ≡ false → (a : Stop) → (stepped s).1 ≡ a
    → on_answer s.status k (run_from test (k + 1) n) (stepped s).0 a ≡ AtLimit count t
    → (run_from test (k + 1) n (stepped s).0 ≡ AtLimit count t → IsFollowed test (k + 1) n m (stepped s).0 count t)
    → IsFollowed test k (suc n) m s count t
unfolding run_from
next_follows test k n m s count t b stop.Went w h more =
    let rest = more h in
    let e : suc n + m ≡ suc (n + m) = omega arith in
    let c = rest.0 in (
      omega (arith, c),
      rw (e, b, w) rest.1,
    )
next_follows test k n m s count t b stop.Waiting w h more = absurd (no_answer stop.Waiting (ap (λ (r : RunOutcome). r.end) h))
next_follows test k n m s count t b stop.Ended w h more = absurd (no_answer stop.Ended (ap (λ (r : RunOutcome). r.end) h))
next_follows test k n m s count t b (stop.Halted x) w h more = absurd (no_answer (stop.Halted x) (ap (λ (r : RunOutcome). r.end) h))

first_follows : (test : ℕ → State → Bool) (k n m : ℕ) (s : State) (count : ℕ) (t : State)
    → ((u : State) → run_from test (k + 1) n u ≡ AtLimit count t → IsFollowed test (k + 1) n m u count t)
    → (b : Bool) → test k s ≡ b
    → (if b then record { count = k; end = ends.Stopped; state = s } else on_answer s.status k (run_from test (k + 1) n) (stepped s).0 (stepped s).1)
    ≡ AtLimit count t → IsFollowed test k (suc n) m s count t
first_follows test k n m s count t more true b h = absurd (no_stop (ap (λ (r : RunOutcome). r.end) h))
first_follows test k n m s count t more false b h = next_follows test k n m s count t b (stepped s).1 refl h (more (stepped s).0)

pub follows : (test : ℕ → State → Bool) (n k m : ℕ) (s : State) (count : ℕ) (t : State) → run_from test k n s ≡ AtLimit count t
    → IsFollowed test k n m s count t
unfolding run_from
follows test zero k m s count t h =
    let c : k ≡ count = ap (λ (r : RunOutcome). r.count) h in
    let u : s ≡ t = ap (λ (r : RunOutcome). r.state) h in
    let e : 0 + m ≡ m = omega arith in (
      omega (arith, c),
      rw (e, sym c, sym u) refl,
    )
follows test (suc n) k m s count t h = first_follows test k n m s count t (λ u. follows test n (k + 1) m u count t) (test k s) refl h

no_went : (answer : Stop) (count : ℕ) (test : ℕ → State → Bool) (limit : ℕ) (s t : State)
    → run_from test 0 limit s ≡ record { count = count; end = ends.Answered answer; state = t }
    → answer ≢ stop.Went
no_went answer count test limit s t h =
    let so = runs_end_so test limit s in
    of_end (run_from test 0 limit s).end answer so.0 (run_from test 0 limit s).count (run_from test 0 limit s).state (ap (λ (r : RunOutcome). r.end) h) so.2
  where
    of_end : (end : RunEnd) (answer : Stop) (n count : ℕ) (t : State) → end ≡ ends.Answered answer → EndsSo test limit n s end count t → answer ≢ stop.Went
    of_end ends.Limit answer n count t e so = absurd (cc)
    of_end ends.Stopped answer n count t e so = absurd (cc)
    of_end (ends.Answered other) answer n count t e so = λ w. so.0 (cc)

told_limit : (watched : List WatchedWord) (breaks : List Breakpoint) (run : RunOutcome)
    → ((answer : Stop) → run.end ≡ ends.Answered answer → answer ≢ stop.Went)
    → reason_of watched breaks run.end run.state ≡ reasons.Limit → run.end ≡ ends.Limit
told_limit watched breaks run other h = by_end run.end refl h
  where
    stopped : (changed : Option ℕ) (at_break : Bool) → changed_or changed (if at_break then reasons.Break else reasons.There) ≡ reasons.Limit → ⊥
    stopped (Some a) at_break h = let x : reasons.Changed a ≡ reasons.Limit = h in cc
    stopped None true h = let x : reasons.Break ≡ reasons.Limit = h in cc
    stopped None false h = let x : reasons.There ≡ reasons.Limit = h in cc

    answered : (answer : Stop) → answered_so answer ≡ reasons.Limit → answer ≡ stop.Went
    answered stop.Went h = refl
    answered stop.Waiting h = absurd (cc)
    answered stop.Ended h = absurd (cc)
    answered (stop.Halted e) h = absurd (cc)

    by_end : (end : RunEnd) → run.end ≡ end → reason_of watched breaks end run.state ≡ reasons.Limit → end ≡ ends.Limit
    by_end ends.Limit e h = refl
    by_end ends.Stopped e h = absurd (stopped (first_changed watched run.state.memory) (is_at_break breaks run.state) h)
    by_end (ends.Answered answer) e h = absurd (other answer e (answered answer h))

all_countable : (made limit : ℕ) → made + limit ≤ 18446744073709551615 → countable made limit ≡ limit
all_countable made limit h = grind (arith, nat_tests)

pub runs_go_on_as_one : RunsGoOnAsOne
unfolding gone_to
runs_go_on_as_one breaks watches depth limit more s small told = by_end (has_ended s.status) refl told
  where
    watched : List WatchedWord
    watched = watched_words watches s.memory

    test : ℕ → State → Bool
    test = later (stops_at watched breaks (is_there depth))

    begun : ℕ → Bool → Gone
    begun n ended = if ended then record { steps = 0; reason = reasons.Ended; machine = s } else gone_by watched breaks (run_from test 0 n s)

    by_end : (b : Bool) → has_ended s.status ≡ b → (begun limit b).reason ≡ reasons.Limit
        → AreOneRun breaks watches depth limit more s (begun limit b).machine (left_of depth watches s (begun limit b))
    by_end true e h = absurd (cc)
    by_end false e h =
        let run = run_from test 0 limit s in
        let at : run.end ≡ ends.Limit =
        told_limit watched breaks run (λ a x. no_went a run.count test limit s run.state
        (ap (λ end. record { count = run.count; end = end; state = run.state }) x)) h in
        let next = follows test limit 0 more s run.count run.state (ap (λ end. record { count = run.count; end = end; state = run.state }) at) in
        let count : run.count ≡ limit = let c = next.0 in omega (arith, c) in
        let most : countable run.count more ≡ more = all_countable run.count more (omega (arith, count, small)) in
        let whole : gone_from breaks watched (is_there depth) run.count (countable run.count more) run.state
        ≡ gone_to breaks watches (is_there depth) (limit + more) s =
        rw (e, most) (ap (gone_by watched breaks) (sym next.1)) in
        record {
          ran = rw h (ap Some whole);
          left = rw h (ap (left_behind depth watched) whole);
        }
