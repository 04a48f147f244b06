-- Runs with two lists of breakpoints that stop in the same states. They differ in a condition that is false in all
-- states of the run, or true in all of them.
use Rattle.std.proofs.Common.{◌≡◌, ◌≢◌, ◌∙◌, ◌+◌, ◌≤◌, ap, sym, refl, arith, ℕ, zero, suc, Bool, true, false, not, ◌&&◌, ◌||◌}
use Rattle.std.proofs.Common.{List, ◌∷◌, ◌++◌, Some, None, inl, inr}
use Rattle.std.specs.Prelude.{◌==◌, if◌then◌else◌}
use Rattle.std.specs.List.{list_any}
use Rattle.std.proofs.lemmas.Bool.Decides.{nat_tests}
use Rattle.std.proofs.lemmas.Bool.{cases_Bool}
use Rattle.std.proofs.lemmas.List.Folds.{list_any-append}
use Rattle.pm_words.specs.Words.{word_at}
use Rattle.pm_machine.specs.declared.state.RunEnd.{RunEnd}
use Rattle.pm_machine.specs.declared.state.RunEnd.TheVariants as ends
use Rattle.pm_machine.specs.declared.state.Status.{Status}
use Rattle.pm_machine.specs.declared.state.Stop.{Stop}
use Rattle.pm_machine.specs.declared.state.Stop.TheVariants as stop
use Rattle.pm_machine.specs.State.{State}
use Rattle.pm_machine.specs.Steps.{stepped}
use Rattle.pm_machine.specs.Runs.{RunOutcome, after_steps, on_answer, run_from, run_until}
use Rattle.pm_machine.specs.RunLaws.{EndsSo}
use Rattle.pm_machine.proofs.UntilLaws.{runs_end_so}
use Rattle.pm_debug.specs.declared.breaks.Breakpoint.{Breakpoint}
use Rattle.pm_debug.specs.declared.reason.BreakReason.TheVariants as reasons
use Rattle.pm_debug.specs.declared.watches.WatchedWord.{WatchedWord}
use Rattle.pm_debug.specs.Breaks.{breakpoint, is_at_break, is_met, stops_here, word_is}
use Rattle.pm_debug.specs.RunLaws.{FalseConditionsStopNothing, TrueConditionsAreNone, among}
use Rattle.pm_debug.specs.Runs.{Gone, gone_by, gone_to, has_ended, later, reason_of, stops_at}
use Rattle.pm_debug.specs.Watches.{has_changed, watched_words}

-- ---- tests that agree on the states of a run

-- Is true if both tests are equal after each number of steps up to `count`. `k` steps were executed before the state
-- `s`.
abbrev Agree : (ℕ → State → Bool) → (ℕ → State → Bool) → ℕ → ℕ → State → Type 0
Agree test other k count s = (j : ℕ) → k + j ≤ count → other (k + j) (after_steps j s) ≡ test (k + j) (after_steps j s)

answered_up : (st : Status) (k : ℕ) (rest : State → RunOutcome) (t : State) → ((u : State) → k + 1 ≤ (rest u).count) → (a : Stop)
    → k ≤ (on_answer st k rest t a).count
answered_up st k rest t more stop.Went = let h = more t in omega (arith, h)
answered_up st k rest t more stop.Waiting = omega arith
answered_up st k rest t more stop.Ended = omega arith
answered_up st k rest t more (stop.Halted e) = omega arith

-- The count of a run includes the `k` steps that were executed before it.
counts_up : (test : ℕ → State → Bool) (n k : ℕ) (s : State) → k ≤ (run_from test k n s).count
unfolding run_from
counts_up test zero k s = omega arith
counts_up test (suc n) k s = elim (cases_Bool (test k s)) [
  | inl b ↦ rw b (omega arith)
  | inr b ↦ rw b (answered_up s.status k (run_from test (k + 1) n) (stepped s).0 (counts_up test n (k + 1)) (stepped s).1)
]

after_first : (n : ℕ) (s : State) → after_steps n (stepped s).0 ≡ (stepped (after_steps n s)).0
unfolding after_steps
after_first zero s = refl
after_first (suc n) s = ap (λ t. (stepped t).0) (after_first n s)

agree_first : (test other : ℕ → State → Bool) (k count : ℕ) (s : State) → k ≤ count → Agree test other k count s → other k s ≡ test k s
unfolding after_steps
agree_first test other k count s within agree =
    let e : k + 0 ≡ k = omega arith in
    ap (λ i. other i s) (sym e) ∙ agree 0 (omega (arith, within)) ∙ ap (λ i. test i s) e

next_went : (test : ℕ → State → Bool) (k n : ℕ) (s : State) → test k s ≡ false → (stepped s).1 ≡ stop.Went
    → run_from test k (suc n) s ≡ run_from test (k + 1) n (stepped s).0
unfolding run_from
next_went test k n s b w = rw (b, w) refl

agree_next : (test other : ℕ → State → Bool) (k n : ℕ) (s : State) → test k s ≡ false → (stepped s).1 ≡ stop.Went
    → Agree test other k (run_from test k (suc n) s).count s → Agree test other (k + 1) (run_from test (k + 1) n (stepped s).0).count (stepped s).0
unfolding after_steps
agree_next test other k n s b w agree = λ j below.
    let e : (k + 1) + j ≡ k + suc j = omega arith in
    let c : (run_from test k (suc n) s).count ≡ (run_from test (k + 1) n (stepped s).0).count = ap (λ (r : RunOutcome). r.count) (next_went test k n s b w) in
    let at : after_steps j (stepped s).0 ≡ after_steps (suc j) s = after_first j s in
    ap (λ i. other i (after_steps j (stepped s).0)) e ∙ ap (other (k + suc j)) at ∙ agree (suc j) (omega (arith, below, c))
    ∙ ap (test (k + suc j)) (sym at) ∙ ap (λ i. test i (after_steps j (stepped s).0)) (sym e)

by_answer : (test other : ℕ → State → Bool) (k n : ℕ) (s : State) → test k s ≡ false
    → ((u : State) → Agree test other (k + 1) (run_from test (k + 1) n u).count u → run_from other (k + 1) n u ≡ run_from test (k + 1) n u)
    → Agree test other k (run_from test k (suc n) s).count s → (a : Stop) → (stepped s).1 ≡ a
    → on_answer s.status k (run_from other (k + 1) n) (stepped s).0 a ≡ on_answer s.status k (run_from test (k + 1) n) (stepped s).0 a
by_answer test other k n s b more agree stop.Went w = more (stepped s).0 (agree_next test other k n s b w agree)
by_answer test other k n s b more agree stop.Waiting w = refl
by_answer test other k n s b more agree stop.Ended w = refl
by_answer test other k n s b more agree (stop.Halted e) w = refl

-- If two tests agree on the states of a run, then both tests have the same run.
same_along : (test other : ℕ → State → Bool) (n k : ℕ) (s : State) → Agree test other k (run_from test k n s).count s
    → run_from other k n s ≡ run_from test k n s
unfolding run_from
same_along test other zero k s agree = refl
same_along test other (suc n) k s agree =
    let same : other k s ≡ test k s = agree_first test other k (run_from test k (suc n) s).count s (counts_up test (suc n) k s) agree in
    elim (cases_Bool (test k s)) [
      | inl b ↦ rw (same ∙ b, b) refl
      | inr b ↦ rw (same ∙ b, b) (by_answer test other k n s b (λ u. same_along test other n (k + 1) u) agree (stepped s).1 refl)
    ]

-- ---- breakpoints that stop in the same states

-- Is true if `others` stop a run exactly if `breaks` do, after each number of steps from 1 up to `count`.
abbrev Alike : List Breakpoint → List Breakpoint → ℕ → State → Type 0
Alike breaks others count s = (k : ℕ) → 1 ≤ k → k ≤ count → is_at_break others (after_steps k s) ≡ is_at_break breaks (after_steps k s)

some_made : (k : ℕ) (test : Bool) → (not (k == 0) && test) ≡ true → 1 ≤ k
some_made zero test h = absurd (cc)
some_made (suc k) test h = omega arith

module _ (breaks others : List Breakpoint) (watched : List WatchedWord) (test : State → Bool) (limit : ℕ) (s : State) where
  abbrev stops : ℕ → State → Bool
  stops = later (stops_at watched breaks test)

  abbrev run : RunOutcome
  run = run_until stops limit s

  agree : Alike breaks others run.count s → Agree stops (later (stops_at watched others test)) 0 run.count s
  agree alike = at
    where
      at : Agree stops (later (stops_at watched others test)) 0 run.count s
      at zero below = refl
      at (suc j) below =
          let u = after_steps (suc j) s in
          ap (λ b. not (0 + suc j == 0) && ((test u || has_changed watched u.memory) || b)) (alike (suc j) (omega arith) (omega (arith, below)))

  told_alike : Alike breaks others run.count s → (n count : ℕ) (end : RunEnd) (t : State) → count ≡ run.count → EndsSo stops limit n s end count t
      → reason_of watched others end t ≡ reason_of watched breaks end t
  told_alike alike n count ends.Limit t c h = refl
  told_alike alike n count (ends.Answered answer) t c h = refl
  told_alike alike n count ends.Stopped t c h =
      let made = some_made n (stops_at watched breaks test t) h.1 in
      let counted : count ≡ n = h.2 in
      let same : is_at_break others t ≡ is_at_break breaks t =
      ap (is_at_break others) h.3 ∙ alike n made (omega (arith, c, counted)) ∙ ap (is_at_break breaks) (sym h.3) in
      rw same refl

  pub stop_alike : Alike breaks others run.count s
      → gone_by watched others (run_until (later (stops_at watched others test)) limit s) ≡ gone_by watched breaks run
  stop_alike alike =
      let h = runs_end_so stops limit s in
      let told = told_alike alike h.0 run.count run.end run.state refl h.2 in
      ap (gone_by watched others) (same_along stops (later (stops_at watched others test)) limit 0 s (agree alike))
      ∙ ap (λ reason. record { steps = run.count; reason = reason; machine = run.state }) told

-- If two lists of breakpoints stop in the same states of a run, then both have the same run.
gone_alike : (breaks others : List Breakpoint) (watches : List ℕ) (test : State → Bool) (limit : ℕ) (s : State)
    → Alike breaks others (gone_to breaks watches test limit s).steps s → gone_to others watches test limit s ≡ gone_to breaks watches test limit s
unfolding gone_to
gone_alike breaks others watches test limit s alike = by_end (has_ended s.status) refl alike
  where
    watched : List WatchedWord
    watched = watched_words watches s.memory

    begun : List Breakpoint → Bool → Gone
    begun bs ended = if ended then record { steps = 0; reason = reasons.Ended; machine = s }
        else gone_by watched bs (run_until (later (stops_at watched bs test)) limit s)

    by_end : (b : Bool) → has_ended s.status ≡ b → Alike breaks others (begun breaks b).steps s → begun others b ≡ begun breaks b
    by_end true e alike = refl
    by_end false e alike = stop_alike breaks others watched test limit s alike

-- ---- one breakpoint among others

and_false : (b : Bool) → b && false ≡ false
and_false true = refl
and_false false = refl

equal : (x y : ℕ) → x ≡ y → (x == y) ≡ true
equal x y h = grind (arith, nat_tests, h)

not_equal : (x y : ℕ) → x ≢ y → (x == y) ≡ false
not_equal x y h = grind (arith, nat_tests, h)

module _ (p : Breakpoint → Bool) (front back : List Breakpoint) (b : Breakpoint) where
  without_one : p b ≡ false → list_any p (front ++ b ∷ back) ≡ list_any p (front ++ back)
  without_one h =
      list_any-append p front (b ∷ back) ∙ ap (λ here. list_any p front || (here || list_any p back)) h ∙ sym (list_any-append p front back)

  with_another : (c : Breakpoint) → p b ≡ p c → list_any p (front ++ b ∷ back) ≡ list_any p (front ++ c ∷ back)
  with_another c h =
      list_any-append p front (b ∷ back) ∙ ap (λ here. list_any p front || (here || list_any p back)) h ∙ sym (list_any-append p front (c ∷ back))

pub false_conditions_stop_nothing : FalseConditionsStopNothing
false_conditions_stop_nothing front back spot a w watches test limit s other =
    gone_alike (front ++ back) (among front (breakpoint spot (Some (word_is a w))) back) watches test limit s (λ k some within.
    let t = after_steps k s in
    without_one (stops_here t) front back (breakpoint spot (Some (word_is a w)))
    (ap (λ held. is_met spot t && held) (not_equal (word_at t.memory a) w (other k some within)) ∙ and_false (is_met spot t)))

pub true_conditions_are_none : TrueConditionsAreNone
true_conditions_are_none front back spot a w watches test limit s same =
    gone_alike (among front (breakpoint spot None) back) (among front (breakpoint spot (Some (word_is a w))) back) watches test limit s (λ k some within.
    let t = after_steps k s in
    with_another (stops_here t) front back (breakpoint spot (Some (word_is a w))) (breakpoint spot None)
    (ap (λ held. is_met spot t && held) (equal (word_at t.memory a) w (same k some within))))
