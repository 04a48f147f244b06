-- Watched words that have changed, and runs that they stop.
use Rattle.std.proofs.Common.{◌≡◌, ◌≢◌, ◌∙◌, ◌+◌, ◌<◌, ◌≤◌, ap, sym, refl, subst, arith, ℕ, zero, suc, Bool, true, false, not, ◌&&◌, ◌||◌}
use Rattle.std.proofs.Common.{List, [], ◌∷◌, ◌++◌, length, drop, get_or, Option, Some, None}
use Rattle.std.proofs.Math.Seq.{drop-cons}
use Rattle.std.proofs.Common.{add-one}
use Rattle.std.specs.Prelude.{◌==◌, All, is_some, if◌then◌else◌}
use Rattle.std.proofs.lemmas.Bool.{eqb-true}
use Rattle.std.proofs.lemmas.Bool.Decides.{nat_tests}
use Rattle.pm_words.specs.Words.{word_at}
use Rattle.pm_machine.specs.declared.state.RunEnd.{RunEnd}
use Rattle.pm_machine.specs.declared.state.RunEnd.TheVariants as ends
use Rattle.pm_machine.specs.declared.state.Stop.{Stop}
use Rattle.pm_machine.specs.declared.state.Stop.TheVariants as stop
use Rattle.pm_machine.specs.State.{State}
use Rattle.pm_machine.specs.Runs.{AllWent, Passes, after_steps, run_until}
use Rattle.pm_machine.specs.RunLaws.{EndsSo}
use Rattle.pm_machine.proofs.UntilLaws.{after_none, runs_end_so}
use Rattle.pm_debug.specs.declared.breaks.Breakpoint.{Breakpoint}
use Rattle.pm_debug.specs.declared.reason.BreakReason.TheVariants as reasons
use Rattle.pm_debug.specs.declared.watches.WatchedWord.{WatchedWord}
use Rattle.pm_debug.specs.Breaks.{is_at_break}
use Rattle.pm_debug.specs.RunLaws.{AreAsIn, ChangesAreFirst, StopsAtChange}
use Rattle.pm_debug.specs.Runs.{Gone, answered_so, changed_or, gone_by, gone_to, has_ended, reason_of, stops_after}
use Rattle.pm_debug.specs.Watches.{first_changed, has_changed, watched_words}

-- ---- the first changed word, word by word

module _ (whole : Option ℕ) (watched : List WatchedWord) (m : List ℕ) (i : ℕ) (d : WatchedWord) (h : whole ≡ first_changed (drop i watched) m)
    (inside : i < length watched) where
  next : whole ≡ first_changed (get_or watched i d ∷ drop (i + 1) watched) m
  next = h ∙ ap (λ ws. first_changed ws m) (rw add-one (drop-cons watched i d inside))

  -- If word `i` is unchanged, then the first changed word is among the words from `i + 1` on.
  pub first_later : (word_at m (get_or watched i d).address == (get_or watched i d).word) ≡ true → whole ≡ first_changed (drop (i + 1) watched) m
  unfolding first_changed
  first_later same = next ∙ rw same refl

  -- If word `i` has changed, then it is the first changed word.
  pub first_here : (word_at m (get_or watched i d).address == (get_or watched i d).word) ≡ false → whole ≡ Some (get_or watched i d).address
  unfolding first_changed
  first_here other = next ∙ rw other refl

-- If no word remains, then no word has changed.
pub first_none : (whole : Option ℕ) (left : List WatchedWord) (m : List ℕ) → whole ≡ first_changed left m → left ≡ [] → whole ≡ None
unfolding first_changed
first_none whole left m h none = h ∙ ap (λ ws. first_changed ws m) none

-- ---- words between two states

all_none : {X : Type 0} (P : X → Type 0) → All P []
all_none P k d h = absurd (omega (arith, h))

all_more : {X : Type 0} (P : X → Type 0) (x : X) (xs : List X) → P x → All P xs → All P (x ∷ xs)
all_more P x xs here rest zero d h = here
all_more P x xs here rest (suc k) d h = rest k d (omega (arith, h))

same_state : (s : State) (addresses : List ℕ) → AreAsIn s addresses s
same_state s addresses k d h = refl

-- States that the word at the address `a` has changed from `s` to `t`, and that no watched word before it in the list
-- has.
record FirstOf (watches : List ℕ) (s t : State) (a : ℕ) : Type 0 where
  changed : word_at t.memory a ≢ word_at s.memory a
  front : List ℕ
  back : List ℕ
  order : watches ≡ front ++ a ∷ back
  first : AreAsIn s front t

behind_one : (b : ℕ) (watches : List ℕ) (s t : State) (a : ℕ) → word_at t.memory b ≡ word_at s.memory b → FirstOf watches s t a
    → FirstOf (b ∷ watches) s t a
behind_one b watches s t a same u = record {
  changed = u.changed;
  front = b ∷ u.front;
  back = u.back;
  order = ap (λ xs. b ∷ xs) u.order;
  first = all_more (λ c. word_at t.memory c ≡ word_at s.memory c) b u.front same u.first;
}

at_first : (b : ℕ) (watches : List ℕ) (s t : State) (a : ℕ) → (word_at t.memory b == word_at s.memory b) ≡ false → b ≡ a
    → FirstOf (b ∷ watches) s t a
at_first b watches s t a other e = record {
  changed = subst (λ x. word_at t.memory x ≢ word_at s.memory x) e (differs (word_at t.memory b) (word_at s.memory b) other);
  front = [];
  back = watches;
  order = ap (λ x. x ∷ watches) e;
  first = all_none (λ c. word_at t.memory c ≡ word_at s.memory c);
}
  where
    differs : (x y : ℕ) → (x == y) ≡ false → x ≢ y
    differs x y other = grind (arith, nat_tests)

first_is : (watches : List ℕ) (s t : State) (a : ℕ) → first_changed (watched_words watches s.memory) t.memory ≡ Some a → FirstOf watches s t a
unfolding first_changed
first_is [] s t a h = absurd (cc)
first_is (b ∷ watches) s t a h = by_test (first_is watches s t a) (word_at t.memory b == word_at s.memory b) refl h
  where
    by_test : (first_changed (watched_words watches s.memory) t.memory ≡ Some a → FirstOf watches s t a)
        → (same : Bool) → (word_at t.memory b == word_at s.memory b) ≡ same
        → (if same then first_changed (watched_words watches s.memory) t.memory else Some b) ≡ Some a → FirstOf (b ∷ watches) s t a
    by_test later true e is = behind_one b watches s t a (eqb-true _ _ e) (later is)
    by_test later false e is = at_first b watches s t a e (cc)

none_changed : (watches : List ℕ) (s t : State) → has_changed (watched_words watches s.memory) t.memory ≡ false → AreAsIn s watches t
unfolding first_changed
none_changed [] s t h = all_none (λ c. word_at t.memory c ≡ word_at s.memory c)
none_changed (b ∷ watches) s t h = by_test (none_changed watches s t) (word_at t.memory b == word_at s.memory b) refl h
  where
    by_test : (has_changed (watched_words watches s.memory) t.memory ≡ false → AreAsIn s watches t)
        → (same : Bool) → (word_at t.memory b == word_at s.memory b) ≡ same
        → is_some (if same then first_changed (watched_words watches s.memory) t.memory else Some b) ≡ false → AreAsIn s (b ∷ watches) t
    by_test later true e is = all_more (λ c. word_at t.memory c ≡ word_at s.memory c) b watches (eqb-true _ _ e) (later is)
    by_test later false e is = absurd (cc)

-- ---- runs

told_first : (changed : Option ℕ) (at_break : Bool) (a : ℕ) → changed_or changed (if at_break then reasons.Break else reasons.There) ≡ reasons.Changed a
    → changed ≡ Some a
told_first (Some b) at_break a h = cc
told_first None true a h = absurd (cc)
told_first None false a h = absurd (cc)

not_answered : (answer : Stop) (a : ℕ) → answered_so answer ≢ reasons.Changed a
not_answered stop.Went a h = cc
not_answered stop.Waiting a h = cc
not_answered stop.Ended a h = cc
not_answered (stop.Halted e) a h = cc

-- If the test of a run is false before a step that is not the first, then no watched word has changed.
not_changed : (k : ℕ) (there changed at_break : Bool) → 1 ≤ k → (not (k == 0) && ((there || changed) || at_break)) ≡ false → changed ≡ false
not_changed k there changed at_break some h = behind (k == 0) there changed at_break (grind (arith, nat_tests, some)) h
  where
    behind : (first there changed at_break : Bool) → first ≡ false → (not first && ((there || changed) || at_break)) ≡ false → changed ≡ false
    behind true there changed at_break e h = absurd (cc)
    behind false true changed at_break e h = absurd (cc)
    behind false false true at_break e h = absurd (cc)
    behind false false false at_break e h = refl

not_at_once : (k : ℕ) (test : Bool) → (not (k == 0) && test) ≡ true → 1 ≤ k
not_at_once zero test h = absurd (cc)
not_at_once (suc k) test h = omega arith

module _ (breaks : List Breakpoint) (watches : List ℕ) (test : State → Bool) (limit : ℕ) (s : State) where
  as_before : (n : ℕ) → Passes (stops_after breaks watches test s) n s → (k : ℕ) → k < n → AreAsIn s watches (after_steps k s)
  as_before n p zero below = subst (AreAsIn s watches) (after_none s) (same_state s watches)
  as_before n p (suc k) below =
      let t = after_steps (suc k) s in
      none_changed watches s t (not_changed (suc k) (test t) (has_changed (watched_words watches s.memory) t.memory) (is_at_break breaks t) (omega arith)
      (p.free (suc k) below))

  stopped_there : (n count : ℕ) (t : State) (end : RunEnd) (a : ℕ) → Passes (stops_after breaks watches test s) n s
      → EndsSo (stops_after breaks watches test s) limit n s end count t → reason_of (watched_words watches s.memory) breaks end t ≡ reasons.Changed a
      → StopsAtChange watches s a count t
  stopped_there n count t ends.Limit a p h told = absurd (cc)
  stopped_there n count t (ends.Answered answer) a p h told = absurd (not_answered answer a told)
  stopped_there n count t ends.Stopped a p h told =
      let u = first_is watches s t a (told_first (first_changed (watched_words watches s.memory) t.memory) (is_at_break breaks t) a told) in
      let counted : n ≡ count = sym h.2 in
      record {
        some = subst (λ k. 1 ≤ k) counted (not_at_once n _ h.1);
        went = subst (λ k. AllWent k s) counted p.went;
        left = h.3 ∙ ap (λ k. after_steps k s) counted;
        changed = u.changed;
        front = u.front;
        back = u.back;
        order = u.order;
        first = u.first;
        before = λ k below. as_before n p k (subst (λ x. k < x) (sym counted) below);
      }

pub changes_are_first : ChangesAreFirst
unfolding gone_to
changes_are_first breaks watches test limit s a told = by_end (has_ended s.status) refl told
  where
    run : Gone
    run = gone_by (watched_words watches s.memory) breaks (run_until (stops_after breaks watches test s) limit s)

    by_end : (b : Bool) → has_ended s.status ≡ b
        → (if b then record { steps = 0; reason = reasons.Ended; machine = s } else run).reason ≡ reasons.Changed a
        → StopsAtChange watches s a (if b then record { steps = 0; reason = reasons.Ended; machine = s } else run).steps
        (if b then record { steps = 0; reason = reasons.Ended; machine = s } else run).machine
    by_end true e is = absurd (cc)
    by_end false e is =
        let h = runs_end_so (stops_after breaks watches test s) limit s in
        let out = run_until (stops_after breaks watches test s) limit s in
        stopped_there breaks watches test limit s h.0 out.count out.state out.end a h.1 h.2 is
