-- A run continues after steps that have no output.
use Rattle.std.proofs.Common.{◌≡◌, ◌<◌, ◌≤◌, ℕ, zero, suc, ◌-◌, ◌++◌, List, [], drop, length, refl, sym, ap, ◌∙◌, append-nil, arith, subst}
use Rattle.std.proofs.lemmas.List.{drop_all}
use Rattle.pm_machine.specs.State.{State}
use Rattle.pm_machine.specs.Steps.{stepped}
use Rattle.pm_machine.specs.Runs.{AllWent, after_steps}
use Rattle.pm_machine.specs.Quick.{QuickSteps}
use Rattle.pm_machine.specs.declared.state.Stop.TheVariants.{Went}
use Rattle.pm_jobs.specs.declared.saving.Saving.{Saving}
use Rattle.pm_jobs.specs.declared.selection.Selection.{Selection}
use Rattle.pm_jobs.specs.Streams.{Streams}
use Rattle.pm_tool.specs.declared.steps.Show.{Show}
use Rattle.pm_tool.specs.declared.steps.Show.TheVariants.{Trace, Console}
use Rattle.pm_tool.specs.Run.{Unshown, shown_of}
use Rattle.pm_tool.proofs.Driven.{IsUnderWay, under_way_went}

-- If all elements of a list are dropped, then the empty list remains.
drop_whole : (xs : List ℕ) → drop (length xs) xs ≡ []
drop_whole xs = drop_all (length xs) xs (omega arith)

pub quick_steps_unshown : (saving : Saving) (limit : ℕ) (s : State) (count : ℕ) (t : State) → QuickSteps limit s count t
    → Unshown (Console saving) limit s count t
quick_steps_unshown saving limit s count t g = record {
  within = g.within;
  went = g.went;
  left = g.left;
  blank = λ k h.
      ap (λ d. drop (length d.console) (after_steps (suc k) s).devices.console) (g.devices k (omega (arith, h)))
      ∙ ap (λ d. drop (length s.devices.console) d.console) (g.devices (suc k) (omega (arith, h)))
      ∙ drop_whole s.devices.console;
}

-- If the fast path executed one step (`count` is 1), then this step succeeded and led to `t`.
pub quick_step_went : (s : State) (count : ℕ) (t : State) → QuickSteps 1 s count t → count ≡ 1 → stepped s ≡ (t, Went)
unfolding after_steps
quick_step_went s count t g e =
    let went : (stepped s).1 ≡ Went = g.went 0 (omega (arith, e)) in
    let left : t ≡ (stepped s).0 = g.left ∙ ap (λ k. after_steps k s) e in
    rw left (ap (λ a. ((stepped s).0, a)) went)

pub quick_step_none : (s : State) (count : ℕ) (t : State) → QuickSteps 1 s count t → count ≡ 0 → t ≡ s
unfolding after_steps
quick_step_none s count t g none = g.left ∙ ap (λ k. after_steps k s) none

pub unshown_none : (selection : Selection) (limit : ℕ) (s : State) → Unshown (Trace selection) limit s 0 s
unfolding after_steps
unshown_none selection limit s = record { within = omega arith; went = λ k h. absurd (omega arith); left = refl; blank = λ k h. absurd (omega arith) }

module _ (old now : Streams) (page : List ℕ) (taken : ℕ) (show : Show) (limit : ℕ) (began : State) (n : ℕ) (m : State)
    (u : IsUnderWay old now page taken show limit began n m) where
  under_way_after : (count : ℕ) → count ≤ n → AllWent count m → ((k : ℕ) → k < count → shown_of show (after_steps k m) (after_steps (suc k) m) ≡ [])
      → IsUnderWay old now page taken show limit began (n - count) (after_steps count m)
  unfolding after_steps
  under_way_after zero within went blank = let e : n - 0 ≡ n = omega arith in rw e u
  under_way_after (suc k) within went blank =
      let before = under_way_after k (omega (arith, within)) (λ i h. went i (omega (arith, h))) (λ i h. blank i (omega (arith, h))) in
      let some : 0 < n - k = omega (arith, within) in
      let step : stepped (after_steps k m) ≡ ((stepped (after_steps k m)).0, Went) = ap (λ a. ((stepped (after_steps k m)).0, a)) (went k (omega arith)) in
      let grown : page ≡ page ++ shown_of show (after_steps k m) (after_steps (suc k) m) = rw (blank k (omega arith)) (sym (append-nil page)) in
      under_way_went old now page taken show limit began (n - k) (after_steps k m) before page (stepped (after_steps k m)).0 some
      (n - suc k) step grown (omega arith)

  pub under_way_unshown : (count j : ℕ) (t : State) → Unshown show n m count t → j ≡ n - count → IsUnderWay old now page taken show limit began j t
  under_way_unshown count j t h e = subst (λ i. IsUnderWay old now page taken show limit began i t) (sym e)
      (subst (IsUnderWay old now page taken show limit began (n - count)) (sym h.left) (under_way_after count h.within h.went h.blank))
