-- Laws of runs: runs one after another, runs with a greater limit, and the equality of outcomes.
use Rattle.std.proofs.Common.{◌≡◌, ◌≢◌, ◌<◌, ◌⊎◌, inl, inr, ℕ, zero, suc, ◌+◌, ◌-◌, refl, sym, ap, ◌∙◌, arith}
use Rattle.std.proofs.lemmas.Bool.{cases_lt, cases_order}
use Rattle.pm_machine.specs.declared.state.Stop.{Stop}
use Rattle.pm_machine.specs.declared.state.Stop.TheVariants as stop
use Rattle.pm_machine.specs.State.{State}
use Rattle.pm_machine.specs.Steps.{stepped}
use Rattle.pm_machine.specs.Runs.{after_steps, AllWent, Ran, WentAll, StoppedAfter, last_counts}
use Rattle.pm_machine.specs.RunLaws.{RunsGoOn, RunsStay, RunsAreOne, SameOutcome}

-- The state after `m + k` steps is the state after `k` steps from the state after `m` steps.
pub after_both : (k m : ℕ) (s : State) → after_steps (m + k) s ≡ after_steps k (after_steps m s)
unfolding after_steps
after_both zero m s = let e : m + zero ≡ m = omega arith in rw e refl
after_both (suc k) m s =
    let e : m + suc k ≡ suc (m + k) = omega arith in
    rw e (ap (λ u. (stepped u).0) (after_both k m s))

-- ---- a continued run

pub went_both : (m n : ℕ) (s t : State) → t ≡ after_steps m s → AllWent m s → AllWent n t → AllWent (m + n) s
went_both m n s t left first second k below = elim (cases_lt k m) [
  | inl early ↦ first k early
  | inr late ↦
      let e : k ≡ m + (k - m) = omega arith in
      let there : after_steps k s ≡ after_steps (k - m) t = ap (λ i. after_steps i s) e ∙ after_both (k - m) m s ∙ ap (after_steps (k - m)) (sym left) in
      rw there (second (k - m) (omega arith))
]

stopped_both : (m n c d k : ℕ) (s t u : State) (a : Stop) → WentAll m s c t → StoppedAfter k n t d a u → StoppedAfter (m + k) (m + n) s (c + d) a u
stopped_both m n c d k s t u a w h =
    let there : after_steps (m + k) s ≡ after_steps k t = after_both k m s ∙ ap (after_steps k) (sym w.left) in
    record {
      within = omega (arith, h.within);
      went = went_both m k s t w.left w.went h.went;
      last = rw there h.last;
      counted = rw there (omega (arith, h.counted, w.counted));
    }

pub runs_go_on : RunsGoOn
runs_go_on m n c d s t u stop.Went w h = record {
  counted = omega (arith, w.counted, h.counted);
  went = went_both m n s t w.left w.went h.went;
  left = h.left ∙ ap (after_steps n) w.left ∙ sym (after_both n m s);
}
runs_go_on m n c d s t u stop.Waiting w h = (m + h.0, stopped_both m n c d h.0 s t u stop.Waiting w h.1)
runs_go_on m n c d s t u stop.Ended w h = (m + h.0, stopped_both m n c d h.0 s t u stop.Ended w h.1)
runs_go_on m n c d s t u (stop.Halted e) w h = (m + h.0, stopped_both m n c d h.0 s t u (stop.Halted e) w h.1)

-- ---- a greater limit

stays : (m n c k : ℕ) (s t : State) (a : Stop) → StoppedAfter k m s c a t → StoppedAfter k (m + n) s c a t
stays m n c k s t a h = record { within = omega (arith, h.within); went = h.went; last = h.last; counted = h.counted }

pub runs_stay : RunsStay
runs_stay m n c s t stop.Went other h = absurd (other refl)
runs_stay m n c s t stop.Waiting other h = (h.0, stays m n c h.0 s t stop.Waiting h.1)
runs_stay m n c s t stop.Ended other h = (h.0, stays m n c h.0 s t stop.Ended h.1)
runs_stay m n c s t (stop.Halted e) other h = (h.0, stays m n c h.0 s t (stop.Halted e) h.1)

-- ---- one outcome

-- A run was stopped by some answer, after some number of steps.
abbrev Stopped : ℕ → State → ℕ → Stop → State → Type 0
Stopped limit s c a t = (n : ℕ) × StoppedAfter n limit s c a t

as_stopped : (limit c : ℕ) (s t : State) (a : Stop) → Ran limit s c a t → (WentAll limit s c t × (a ≡ stop.Went)) ⊎ (Stopped limit s c a t × (a ≢ stop.Went))
as_stopped limit c s t stop.Went h = inl (h, refl)
as_stopped limit c s t stop.Waiting h = inr (h, λ e. cc)
as_stopped limit c s t stop.Ended h = inr (h, λ e. cc)
as_stopped limit c s t (stop.Halted x) h = inr (h, λ e. cc)

-- If an answer other than `Went` stopped a run after `n` steps, then it is false that more than `n` steps answered
-- `Went`.
not_went : (n limit c k : ℕ) (s t : State) (a : Stop) → StoppedAfter n limit s c a t → a ≢ stop.Went → AllWent k s → n < k → ⊥
not_went n limit c k s t a h other went below =
    other (sym (ap (λ (p : State × Stop). p.1) h.last) ∙ went n below)

same_place : (n k limit c d : ℕ) (s t u : State) (a b : Stop) → StoppedAfter n limit s c a t → StoppedAfter k limit s d b u → n ≡ k → SameOutcome c d a b t u
same_place n k limit c d s t u a b h j e =
    let both = sym h.last ∙ ap (λ i. stepped (after_steps i s)) e ∙ j.last in
    let answers : a ≡ b = ap (λ (p : State × Stop). p.1) both in
    record {
      count = h.counted ∙ ap (λ i. i + last_counts (after_steps i s).status a) e ∙ ap (λ x. k + last_counts (after_steps k s).status x) answers ∙ sym j.counted;
      answer = answers;
      state = ap (λ (p : State × Stop). p.0) both;
    }

both_stopped : (n k limit c d : ℕ) (s t u : State) (a b : Stop) → StoppedAfter n limit s c a t → StoppedAfter k limit s d b u → a ≢ stop.Went → b ≢ stop.Went
    → SameOutcome c d a b t u
both_stopped n k limit c d s t u a b h j first second = elim (cases_order n k) [
  | inl e ↦ same_place n k limit c d s t u a b h j e
  | inr (inl below) ↦ absurd (not_went n limit c k s t a h first j.went below)
  | inr (inr above) ↦ absurd (not_went k limit d n s u b j second h.went above)
]

outcomes : (limit c d : ℕ) (s t u : State) (a b : Stop)
    → (WentAll limit s c t × (a ≡ stop.Went)) ⊎ (Stopped limit s c a t × (a ≢ stop.Went))
    → (WentAll limit s d u × (b ≡ stop.Went)) ⊎ (Stopped limit s d b u × (b ≢ stop.Went)) → SameOutcome c d a b t u
outcomes limit c d s t u a b (inl w) (inl v) =
    record { count = w.0.counted ∙ sym v.0.counted; answer = w.1 ∙ sym v.1; state = w.0.left ∙ sym v.0.left }
outcomes limit c d s t u a b (inl w) (inr v) = absurd (not_went v.0.0 limit d limit s u b v.0.1 v.1 w.0.went v.0.1.within)
outcomes limit c d s t u a b (inr w) (inl v) = absurd (not_went w.0.0 limit c limit s t a w.0.1 w.1 v.0.went w.0.1.within)
outcomes limit c d s t u a b (inr w) (inr v) = both_stopped w.0.0 v.0.0 limit c d s t u a b w.0.1 v.0.1 w.1 v.1

pub runs_are_one : RunsAreOne
runs_are_one limit c d s t u a b h j = outcomes limit c d s t u a b (as_stopped limit c s t a h) (as_stopped limit d s u b j)
