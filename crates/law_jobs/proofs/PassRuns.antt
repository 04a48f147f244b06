-- Lemmas for runs that ignore breakpoints, and that `on` continues after their limit stopped them.
use Rattle.std.proofs.Common.{◌≡◌, ◌≢◌, ◌≤◌, ◌<◌, ◌⊎◌, inl, inr, ◌∙◌, ap, sym, subst, refl, arith, ℕ, zero, suc, ◌+◌, ◌-◌, Bool, true, false}
use Rattle.std.proofs.Common.{List, Option, Some, None, not, ◌==◌, ◌&&◌}
use Rattle.std.specs.Prelude.{if◌then◌else◌}
use Rattle.std.proofs.lemmas.Bool.Decides.{nat_tests}
use Rattle.std.proofs.lemmas.Bool.{cases_Bool}
use Rattle.pm_machine.specs.declared.state.RunEnd.{RunEnd}
use Rattle.pm_machine.specs.declared.state.RunEnd.TheVariants as ends
use Rattle.pm_machine.specs.declared.state.Status.{Status}
use Rattle.pm_machine.specs.declared.state.Stop.{Stop}
use Rattle.pm_machine.specs.declared.state.Stop.TheVariants as stop
use Rattle.pm_machine.specs.State.{State}
use Rattle.pm_machine.specs.Steps.{stepped}
use Rattle.pm_machine.specs.Runs.{RunOutcome, on_answer, run_from}
use Rattle.pm_machine.specs.RunLaws.{EndsSo}
use Rattle.pm_machine.proofs.UntilLaws.{runs_end_so, same_runs}
use Rattle.pm_debug.specs.declared.breaks.Breakpoint.{Breakpoint}
use Rattle.pm_debug.specs.declared.reason.BreakReason.{BreakReason}
use Rattle.pm_debug.specs.declared.reason.BreakReason.TheVariants as reasons
use Rattle.pm_debug.specs.declared.run.Depth.{Depth}
use Rattle.pm_debug.specs.declared.watches.WatchedWord.{WatchedWord}
use Rattle.pm_debug.specs.Breaks.{is_at_break}
use Rattle.pm_debug.specs.Passes.{Passed, all_passed, counted}
use Rattle.pm_debug.specs.Runs.{Gone, answered_so, behind_steps, changed_or, countable, gone_by, gone_from, gone_on, gone_to, has_ended, has_rest}
use Rattle.pm_debug.specs.Runs.{is_there, later, left_behind, left_so, reason_of, stops_at}
use Rattle.pm_debug.specs.Runs.Left.{AtBreak, Nothing, Rest}
use Rattle.pm_debug.specs.Session.{Session}
use Rattle.pm_debug.specs.Watches.{first_changed, watched_words}
use Rattle.pm_debug.proofs.OnLaws.{behind_made, follows, goes_on_behind}
use Rattle.pm_session.specs.Answers.{after_passing, passing, passing_on}

-- ---- a run that its limit did not stop is that of each greater limit

next_stays : (test : ℕ → State → Bool) (k n m : ℕ) (st : Status) (t : State) (a : Stop) → (on_answer st k (run_from test (k + 1) n) t a).end ≢ ends.Limit
    → ((run_from test (k + 1) n t).end ≢ ends.Limit → run_from test (k + 1) (n + m) t ≡ run_from test (k + 1) n t)
    → on_answer st k (run_from test (k + 1) (n + m)) t a ≡ on_answer st k (run_from test (k + 1) n) t a
next_stays test k n m st t stop.Went h more = more h
next_stays test k n m st t stop.Waiting h more = refl
next_stays test k n m st t stop.Ended h more = refl
next_stays test k n m st t (stop.Halted e) h more = refl

first_stays : (test : ℕ → State → Bool) (k n m : ℕ) (s : State) (b : Bool)
    → ((u : State) → (run_from test (k + 1) n u).end ≢ ends.Limit → run_from test (k + 1) (n + m) u ≡ run_from test (k + 1) n u)
    → (if b then record { count = k; end = ends.Stopped; state = s } else on_answer s.status k (run_from test (k + 1) n) (stepped s).0 (stepped s).1).end
    ≢ ends.Limit
    → (if b then record { count = k; end = ends.Stopped; state = s } else on_answer s.status k (run_from test (k + 1) (n + m)) (stepped s).0 (stepped s).1)
    ≡ (if b then record { count = k; end = ends.Stopped; state = s } else on_answer s.status k (run_from test (k + 1) n) (stepped s).0 (stepped s).1)
first_stays test k n m s true more h = refl
first_stays test k n m s false more h = next_stays test k n m s.status (stepped s).0 (stepped s).1 h (more (stepped s).0)

stays : (test : ℕ → State → Bool) (n k m : ℕ) (s : State) → (run_from test k n s).end ≢ ends.Limit → run_from test k (n + m) s ≡ run_from test k n s
unfolding run_from
stays test zero k m s h = absurd (h refl)
stays test (suc n) k m s h =
    let e : suc n + m ≡ suc (n + m) = omega arith in
    rw e (first_stays test k n m s (test k s) (λ u. stays test n (k + 1) m u) h)

-- ---- why a run ended

no_went : (answer : Stop) (count : ℕ) (test : ℕ → State → Bool) (limit : ℕ) (s t : State)
    → run_from test 0 limit s ≡ record { count = count; end = ends.Answered answer; state = t } → answer ≢ stop.Went
no_went answer count test limit s t h =
    let so = runs_end_so test limit s in
    of_end (run_from test 0 limit s).end answer so.0 (run_from test 0 limit s).count (run_from test 0 limit s).state (ap (λ (r : RunOutcome). r.end) h) so.2
  where
    of_end : (end : RunEnd) (answer : Stop) (n count : ℕ) (t : State) → end ≡ ends.Answered answer → EndsSo test limit n s end count t → answer ≢ stop.Went
    of_end ends.Limit answer n count t e so = absurd (cc)
    of_end ends.Stopped answer n count t e so = absurd (cc)
    of_end (ends.Answered other) answer n count t e so = λ w. so.0 (cc)

module _ (breaks : List Breakpoint) (watched : List WatchedWord) where
  told_limit : (run : RunOutcome) → ((answer : Stop) → run.end ≡ ends.Answered answer → answer ≢ stop.Went)
      → reason_of watched breaks run.end run.state ≡ reasons.Limit → run.end ≡ ends.Limit
  told_limit run other h = by_end run.end refl h
    where
      stopped : (changed : Option ℕ) (at_break : Bool) → changed_or changed (if at_break then reasons.Break else reasons.There) ≡ reasons.Limit → ⊥
      stopped (Some a) at_break h = let x : reasons.Changed a ≡ reasons.Limit = h in cc
      stopped None true h = let x : reasons.Break ≡ reasons.Limit = h in cc
      stopped None false h = let x : reasons.There ≡ reasons.Limit = h in cc

      answered : (answer : Stop) → answered_so answer ≡ reasons.Limit → answer ≡ stop.Went
      answered stop.Went h = refl
      answered stop.Waiting h = absurd (cc)
      answered stop.Ended h = absurd (cc)
      answered (stop.Halted e) h = absurd (cc)

      by_end : (end : RunEnd) → run.end ≡ end → reason_of watched breaks end run.state ≡ reasons.Limit → end ≡ ends.Limit
      by_end ends.Limit e h = refl
      by_end ends.Stopped e h = absurd (stopped (first_changed watched run.state.memory) (is_at_break breaks run.state) h)
      by_end (ends.Answered answer) e h = absurd (other answer e (answered answer h))

  told_break : (end : RunEnd) (t : State) → reason_of watched breaks end t ≡ reasons.Break → end ≡ ends.Stopped
  told_break ends.Limit t h = absurd (cc)
  told_break ends.Stopped t h = refl
  told_break (ends.Answered stop.Went) t h = absurd (cc)
  told_break (ends.Answered stop.Waiting) t h = absurd (cc)
  told_break (ends.Answered stop.Ended) t h = absurd (cc)
  told_break (ends.Answered (stop.Halted e)) t h = absurd (cc)

stopped_within : (test : ℕ → State → Bool) (n : ℕ) (s : State) → (run_from test 0 n s).end ≡ ends.Stopped → (run_from test 0 n s).count < n
stopped_within test n s h =
    let so = runs_end_so test n s in
    of_end (run_from test 0 n s).end so.0 h so.2
  where
    of_end : (end : RunEnd) (j : ℕ) → end ≡ ends.Stopped → EndsSo test n j s end (run_from test 0 n s).count (run_from test 0 n s).state
        → (run_from test 0 n s).count < n
    of_end ends.Limit j e so = absurd (cc)
    of_end ends.Stopped j e so =
        let few = so.0 in
        let count = so.2 in
        omega (arith, few, count)
    of_end (ends.Answered a) j e so = absurd (cc)

-- ---- parts of a run

all_countable : (made limit : ℕ) → made + limit ≤ 18446744073709551615 → countable made limit ≡ limit
all_countable made limit h = grind (arith, nat_tests)

module _ (d : Session) (depth : Depth) (watched : List WatchedWord) where
  abbrev At : State → Bool
  At = stops_at watched d.breaks (is_there depth)

  -- Returns the result of the run that begins at `s`, after `made` steps.
  abbrev part : ℕ → ℕ → State → Gone
  part made n s = counted made (gone_from d.breaks watched (is_there depth) 0 n s)

  -- Returns the result of the run `part` and of its continuations after the breakpoints that it ignores.
  abbrev whole : ℕ → ℕ → ℕ → State → Passed
  whole made n p s = all_passed d.breaks (made + n) p (left_behind depth watched (part made n s)) (part made n s)

  -- Returns the result of continuing the run `p` by at most `m` steps.
  abbrev goes : Passed → ℕ → Option Passed
  goes p m = passing_on (after_passing d p) m (gone_on d.breaks p.left m p.run.machine)

  -- If at least one step precedes a run, then `made` more steps before it only add `made` to the count of the result.
  shifted : (made n m : ℕ) (t : State) → run_from (later At) (made + suc n) m t ≡ behind_made made (run_from (later At) (suc n) m t)
  shifted made n m t =
      goes_on_behind (later At) (made + suc n) m t
      ∙ ap (behind_made (made + suc n)) (same_runs (behind_steps (made + suc n) (later At)) (behind_steps (suc n) (later At)) same m 0 t)
      ∙ joined (run_from (behind_steps (suc n) (later At)) 0 m t)
      ∙ sym (ap (behind_made made) (goes_on_behind (later At) (suc n) m t))
    where
      same : (k : ℕ) (u : State) → behind_steps (made + suc n) (later At) k u ≡ behind_steps (suc n) (later At) k u
      same k u =
          let a : ((made + suc n) + k == 0) ≡ false = grind (arith, nat_tests) in
          let b : (suc n + k == 0) ≡ false = grind (arith, nat_tests) in
          ap (λ x. not x && At u) (a ∙ sym b)

      joined : (r : RunOutcome) → behind_made (made + suc n) r ≡ behind_made made (behind_made (suc n) r)
      joined r =
          let e : (made + suc n) + r.count ≡ made + (suc n + r.count) = omega arith in
          ap (λ c. record { count = c; end = r.end; state = r.state }) e

  shifted_none : (n m : ℕ) (t : State) → run_from (later At) (0 + n) m t ≡ behind_made 0 (run_from (later At) n m t)
  shifted_none n m t =
      let a : 0 + n ≡ n = omega arith in
      ap (λ j. run_from (later At) j m t) a ∙ none_before (run_from (later At) n m t)
    where
      none_before : (r : RunOutcome) → r ≡ behind_made 0 r
      none_before r =
          let e : r.count ≡ 0 + r.count = omega arith in
          ap (λ c. record { count = c; end = r.end; state = r.state }) e

  -- The run has executed a step, or no step was executed before it.
  abbrev IsBegun : ℕ → ℕ → Type 0
  IsBegun made n = (made ≡ 0) ⊎ (1 ≤ n)

  shift : (made n m : ℕ) (t : State) → IsBegun made n → run_from (later At) (made + n) m t ≡ behind_made made (run_from (later At) n m t)
  shift made n m t (inl none) = rw none (shifted_none n m t)
  shift made zero m t (inr some) = absurd (omega (arith, some))
  shift made (suc n) m t (inr some) = shifted made n m t

  part_on : (made n m : ℕ) (s t : State) → IsBegun made n → run_from (later At) 0 n s ≡ record { count = n; end = ends.Limit; state = t }
      → part made (n + m) s ≡ gone_from d.breaks watched (is_there depth) (made + n) m t
  part_on made n m s t ok h =
      ap (λ r. counted made (gone_by watched d.breaks r)) (follows (later At) n 0 m s n t h).1
      ∙ ap (gone_by watched d.breaks) (sym (shift made n m t ok))

  passed_rest : (most p k : ℕ) (run : Gone)
      → all_passed d.breaks most p (Rest depth k watched) run ≡ record { run = run; left = Rest depth k watched; passes = p }
  unfolding all_passed
  passed_rest most zero k run = refl
  passed_rest most (suc p) k run = refl

  nothing_left : (most p : ℕ) (run : Gone) → has_rest (all_passed d.breaks most p Nothing run).left ≡ false
  unfolding all_passed
  nothing_left most zero run = refl
  nothing_left most (suc p) run = refl

  -- ---- a part that its limit stopped

  at_limit : (p made n m : ℕ) (s : State) → IsBegun made n → made + (n + m) ≤ 18446744073709551615
      → (part made n s).reason ≡ reasons.Limit
      → goes (record { run = part made n s; left = Rest depth (part made n s).steps watched; passes = p }) m ≡ Some (whole made (n + m) p s)
  at_limit p made n m s ok small told =
      let run = run_from (later At) 0 n s in
      let end : run.end ≡ ends.Limit =
      told_limit d.breaks watched run (λ a x. no_went a run.count (later At) n s run.state
      (ap (λ end. record { count = run.count; end = end; state = run.state }) x)) told in
      let is : run ≡ record { count = run.count; end = ends.Limit; state = run.state } =
      ap (λ end. record { count = run.count; end = end; state = run.state }) end in
      let count : run.count ≡ n = let c = (follows (later At) n 0 m s run.count run.state is).0 in omega (arith, c) in
      let made_all : made + run.count ≡ made + n = ap (λ c. made + c) count in
      let most : countable (made + n) m ≡ m = all_countable (made + n) m (omega (arith, small)) in
      let sum : (made + n) + m ≡ made + (n + m) = omega arith in
      ap (λ c. all (c + countable c m) (rest c (countable c m) run.state)) made_all
      ∙ ap (λ k. all ((made + n) + k) (rest (made + n) k run.state)) most
      ∙ ap (λ k. all k (rest (made + n) m run.state)) sum
      ∙ ap (all (made + (n + m))) (sym (part_on made n m s run.state ok
      (is ∙ ap (λ c. record { count = c; end = ends.Limit; state = run.state }) count)))
    where
      rest : ℕ → ℕ → State → Gone
      rest made m t = gone_from d.breaks watched (is_there depth) made m t

      all : ℕ → Gone → Option Passed
      all most g = Some (all_passed d.breaks most p (left_behind depth watched g) g)

  -- ---- a part that a breakpoint stopped

  -- If the run is not at its end, then it ignores this breakpoint and continues after it.
  passed_next : (most q c : ℕ) (run : Gone) → is_there depth run.machine ≡ false
      → all_passed d.breaks most (suc q) (AtBreak depth c watched) run
      ≡ all_passed d.breaks most q (left_behind depth watched (part c (most - c) run.machine)) (part c (most - c) run.machine)
  unfolding all_passed
  passed_next most q c run h = rw h refl

  -- If the run is at its end at this breakpoint, then it has no rest.
  passed_there : (most q c : ℕ) (run : Gone) → is_there depth run.machine ≡ true
      → has_rest (all_passed d.breaks most (suc q) (AtBreak depth c watched) run).left ≡ false
  unfolding all_passed
  passed_there most q c run h =
      subst (λ b. has_rest (all_passed d.breaks most q (left_behind depth watched (next b)) (next b)).left ≡ false) (sym h)
      (nothing_left most q (record { steps = c; reason = reasons.There; machine = run.machine }))
    where
      next : Bool → Gone
      next b = if b then record { steps = c; reason = reasons.There; machine = run.machine } else part c (most - c) run.machine

  part_stays : (made n m : ℕ) (s : State) → (part made n s).reason ≡ reasons.Break → part made (n + m) s ≡ part made n s
  part_stays made n m s h =
      let run = run_from (later At) 0 n s in
      let end = told_break d.breaks watched run.end run.state h in
      ap (λ r. counted made (gone_by watched d.breaks r)) (stays (later At) n 0 m s (λ e. other (sym end ∙ e)))
    where
      other : ends.Stopped ≡ ends.Limit → ⊥
      other e = cc

  as_whole : (p made n most c k : ℕ) (u : State) → most ≡ c + k → most - c ≡ k
      → all_passed d.breaks most p (left_behind depth watched (part c (most - c) u)) (part c (most - c) u) ≡ whole c k p u
  as_whole p made n most c k u sum rest =
      ap (λ j. all_passed d.breaks most p (left_behind depth watched (part c j u)) (part c j u)) rest
      ∙ ap (λ j. all_passed d.breaks j p (left_behind depth watched (part c k u)) (part c k u)) sum

  -- ---- all parts

  abbrev GoesOn : ℕ → ℕ → ℕ → ℕ → State → Type 0
  GoesOn p made n m s = has_rest (whole made n p s).left ≡ true → goes (whole made n p s) m ≡ Some (whole made (n + m) p s)

  -- If the run stopped for another reason than its limit, then it has no rest.
  no_rest : (p made n : ℕ) (s : State) (reason : BreakReason) → (part made n s).reason ≡ reason
      → left_so depth watched (part made n s).steps reason ≡ Nothing → has_rest (whole made n p s).left ≡ true → ⊥
  no_rest p made n s reason e none some =
      let is : (whole made n p s).left ≡ (all_passed d.breaks (made + n) p Nothing (part made n s)).left =
      ap (λ r. (all_passed d.breaks (made + n) p (left_so depth watched (part made n s).steps r) (part made n s)).left) e
      ∙ ap (λ l. (all_passed d.breaks (made + n) p l (part made n s)).left) none in
      let no : has_rest (whole made n p s).left ≡ false = ap has_rest is ∙ nothing_left (made + n) p (part made n s) in
      cc

  limited : (p made n m : ℕ) (s : State) → IsBegun made n → made + (n + m) ≤ 18446744073709551615
      → (part made n s).reason ≡ reasons.Limit → goes (whole made n p s) m ≡ Some (whole made (n + m) p s)
  limited p made n m s ok small e =
      ap (λ a. goes a m)
      (ap (λ r. all_passed d.breaks (made + n) p (left_so depth watched (part made n s).steps r) (part made n s)) e
      ∙ passed_rest (made + n) p (part made n s).steps (part made n s))
      ∙ at_limit p made n m s ok small e

  no_pass : (made n m : ℕ) (s : State) → (part made n s).reason ≡ reasons.Break → GoesOn 0 made n m s
  unfolding all_passed
  no_pass made n m s e some =
      let no : has_rest (whole made n 0 s).left ≡ false = ap (λ r. has_rest (left_so depth watched (part made n s).steps r)) e in
      absurd (cc)

  at_break : (q made n m : ℕ) (s : State) → made + (n + m) ≤ 18446744073709551615 → (part made n s).reason ≡ reasons.Break
      → ((c k : ℕ) (u : State) → IsBegun c k → c + (k + m) ≤ 18446744073709551615 → GoesOn q c k m u) → GoesOn (suc q) made n m s
  at_break q made n m s small e more some = by_place (is_there depth u) refl
    where
      run : RunOutcome
      run = run_from (later At) 0 n s

      u : State
      u = run.state

      c : ℕ
      c = made + run.count

      few : run.count < n
      few = stopped_within (later At) n s (told_break d.breaks watched run.end u e)

      -- The whole run, split at this breakpoint, for the limit `n` and for the greater limit `n + m`.
      now : whole made n (suc q) s ≡ all_passed d.breaks (made + n) (suc q) (AtBreak depth c watched) (part made n s)
      now = ap (λ r. all_passed d.breaks (made + n) (suc q) (left_so depth watched c r) (part made n s)) e

      further : whole made (n + m) (suc q) s ≡ all_passed d.breaks (made + (n + m)) (suc q) (AtBreak depth c watched) (part made n s)
      further =
          ap (λ g. all_passed d.breaks (made + (n + m)) (suc q) (left_behind depth watched g) g) (part_stays made n m s e)
          ∙ ap (λ r. all_passed d.breaks (made + (n + m)) (suc q) (left_so depth watched c r) (part made n s)) e

      by_place : (b : Bool) → is_there depth u ≡ b → goes (whole made n (suc q) s) m ≡ Some (whole made (n + m) (suc q) s)
      by_place true there =
          let no : has_rest (whole made n (suc q) s).left ≡ false =
          ap (λ (a : Passed). has_rest a.left) now ∙ passed_there (made + n) q c (part made n s) there in
          absurd (cc)
      by_place false there =
          let first : whole made n (suc q) s ≡ whole c (n - run.count) q u =
          now ∙ passed_next (made + n) q c (part made n s) there
          ∙ as_whole q made n (made + n) c (n - run.count) u (omega (arith, few)) (omega (arith, few)) in
          let after : whole made (n + m) (suc q) s ≡ whole c ((n - run.count) + m) q u =
          further ∙ passed_next (made + (n + m)) q c (part made n s) there
          ∙ as_whole q made n (made + (n + m)) c ((n - run.count) + m) u (omega (arith, few)) (omega (arith, few)) in
          ap (λ a. goes a m) first
          ∙ more c (n - run.count) u (inr (omega (arith, few))) (omega (arith, few, small))
          (ap (λ (a : Passed). has_rest a.left) (sym first) ∙ some)
          ∙ ap Some (sym after)

  by_break : (p made n m : ℕ) (s : State) → IsBegun made n → made + (n + m) ≤ 18446744073709551615
      → ((part made n s).reason ≡ reasons.Break → GoesOn p made n m s) → GoesOn p made n m s
  by_break p made n m s ok small at some = by_reason (part made n s).reason refl
    where
      by_reason : (r : BreakReason) → (part made n s).reason ≡ r → goes (whole made n p s) m ≡ Some (whole made (n + m) p s)
      by_reason reasons.Limit e = limited p made n m s ok small e
      by_reason reasons.Break e = at e some
      by_reason reasons.There e = absurd (no_rest p made n s reasons.There e refl some)
      by_reason reasons.Waiting e = absurd (no_rest p made n s reasons.Waiting e refl some)
      by_reason reasons.Ended e = absurd (no_rest p made n s reasons.Ended e refl some)
      by_reason (reasons.Changed a) e = absurd (no_rest p made n s (reasons.Changed a) e refl some)
      by_reason (reasons.Halted x) e = absurd (no_rest p made n s (reasons.Halted x) e refl some)

  goes_on : (p made n m : ℕ) (s : State) → IsBegun made n → made + (n + m) ≤ 18446744073709551615 → GoesOn p made n m s
  goes_on zero made n m s ok small = by_break 0 made n m s ok small (λ e. no_pass made n m s e)
  goes_on (suc q) made n m s ok small =
      by_break (suc q) made n m s ok small (λ e. at_break q made n m s small e (λ c k u begun few. goes_on q c k m u begun few))

-- ---- the run of a command

module _ (d : Session) (depth : Depth) where
  abbrev watched : List WatchedWord
  watched = watched_words d.watches d.machine.memory

  abbrev run : ℕ → Gone
  run n = gone_to d.breaks d.watches (is_there depth) n d.machine

  counted_none : (g : Gone) → g ≡ counted 0 g
  counted_none g =
      let e : g.steps ≡ 0 + g.steps = omega arith in
      ap (λ c. record { steps = c; reason = g.reason; machine = g.machine }) e

  run_is : (n : ℕ) → has_ended d.machine.status ≡ false → run n ≡ part d depth watched 0 n d.machine
  unfolding gone_to
  run_is n going = rw going (counted_none (gone_from d.breaks watched (is_there depth) 0 n d.machine))

  passing_is : (n : ℕ) → has_ended d.machine.status ≡ false → passing d depth n (run n) ≡ whole d depth watched 0 n d.passes d.machine
  passing_is n going =
      let e : n ≡ 0 + n = omega arith in
      ap (λ g. all_passed d.breaks n d.passes (left_behind depth watched g) g) (run_is n going)
      ∙ ap (λ k. all_passed d.breaks k d.passes (left_behind depth watched (part d depth watched 0 n d.machine)) (part d depth watched 0 n d.machine)) e

  no_run : (n : ℕ) → has_ended d.machine.status ≡ true → has_rest (passing d depth n (run n)).left ≡ false
  unfolding gone_to
  no_run n ended = rw ended (nothing_left d depth watched n d.passes (record { steps = 0; reason = reasons.Ended; machine = d.machine }))

  -- If its limit stopped a run, then the run and its continuation are the run with the sum of both limits.
  pub passing_goes_on : (a b : ℕ) → a + b ≤ 4294967295 → has_rest (passing d depth a (run a)).left ≡ true
      → passing_on (after_passing d (passing d depth a (run a))) b (gone_on d.breaks (passing d depth a (run a)).left b (passing d depth a (run a)).run.machine)
      ≡ Some (passing d depth (a + b) (run (a + b)))
  passing_goes_on a b small some = elim (cases_Bool (has_ended d.machine.status)) [
    | inl ended ↦ let no = no_run a ended in absurd (cc)
    | inr going ↦
        ap (λ p. goes d depth watched p b) (passing_is a going)
        ∙ goes_on d depth watched d.passes 0 a b d.machine (inl refl) (omega (arith, small))
        (ap (λ (p : Passed). has_rest p.left) (sym (passing_is a going)) ∙ some)
        ∙ ap Some (sym (passing_is (a + b) going))
  ]
