-- Laws of the walk of EXIT from frame to frame: how it continues, and where it ends.
use Rattle.std.proofs.Common.{◌≡◌, ℕ, zero, suc, ◌+◌, ◌-◌, ◌%◌, ◌<◌, Bool, true, false, not, List, Some, None, Ok, Err, refl, arith, add-one, add-zero, add-suc}
use Rattle.pm_words.specs.declared.error.ExecError.{ExecError}
use Rattle.pm_words.specs.declared.error.ExecError.TheVariants.{NoProcedure}
use Rattle.pm_words.specs.Words.{with_word}
use Rattle.pm_calls.specs.declared.exits.Wanted.{Wanted}
use Rattle.pm_calls.specs.Exits.{control, exit_code, frame_up, goes_on, last_frame, least_below, met, walked, with_exits}

-- If no number below `n` passes the test, then none is found.
pub least_none : (t : ℕ → Bool) (n : ℕ) → ((i : ℕ) → i < n → t i ≡ false) → least_below t n ≡ None
unfolding least_below
least_none t zero h = refl
least_none t (suc n) h =
    let found : least_below t n ≡ None = least_none t n (λ i l. h i (omega arith)) in
    let fails : t n ≡ false = h n (omega arith) in
    rw (found, fails) refl

-- If `k` is the first number that passes the test, then `k` is found below every larger bound.
pub least_from : (t : ℕ → Bool) (k d : ℕ) → ((i : ℕ) → i < k → t i ≡ false) → t k ≡ true → least_below t (k + suc d) ≡ Some k
unfolding least_below
least_from t k zero h e =
    let found : least_below t k ≡ None = least_none t k h in
    rw (add-suc, add-zero, found, e) refl
least_from t k (suc d) h e = rw (add-suc, least_from t k d h e) refl

pub least_is : (t : ℕ → Bool) (k n : ℕ) → k < n → ((i : ℕ) → i < k → t i ≡ false) → t k ≡ true → least_below t n ≡ Some k
least_is t k n l h e =
    let whole : k + suc (n - k - 1) ≡ n = omega arith in
    rw whole at (least_from t k (n - k - 1) h e)

-- The walk of EXIT continues at each of the first `n` frames, of which the first is at `a`.
abbrev pub Passes : List ℕ → Wanted → ℕ → ℕ → Type 0
Passes m p a n = (i : ℕ) → i < n → met m p (frame_up m a i) ≡ Ok false

-- Is true if the walk stops at the frame to which the given number of dynamic links leads.
abbrev pub stops : List ℕ → Wanted → ℕ → ℕ → Bool
stops m p a i = not (goes_on (met m p (frame_up m a i)))

pub stops-not : (m : List ℕ) (p : Wanted) (a n : ℕ) → Passes m p a n → (i : ℕ) → i < n → stops m p a i ≡ false
stops-not m p a n h i l = rw (h i l) refl

-- If the walk continues at the first `k` frames, and the caller of frame `k` is the requested procedure, then the walk
-- stops there.
pub walked-there : (m : List ℕ) (p : Wanted) (a k : ℕ) → k < 32768 → Passes m p a k → met m p (frame_up m a k) ≡ Ok true
    → walked m p a ≡ Ok (with_exits m a (k + 1))
unfolding walked last_frame
walked-there m p a k l h e =
    let there : stops m p a k ≡ true = rw e refl in
    let found : least_below (stops m p a) 32768 ≡ Some k = least_is (stops m p a) k 32768 l (stops-not m p a k h) there in
    rw (found, e) refl

-- If the walk continues at the first `k` frames, and the check of frame `k` returns an error, then this error is the
-- result.
pub walked-fails : (m : List ℕ) (p : Wanted) (a k : ℕ) (e : ExecError) → k < 32768 → Passes m p a k → met m p (frame_up m a k) ≡ Err e → walked m p a ≡ Err e
unfolding walked last_frame
walked-fails m p a k x l h e =
    let there : stops m p a k ≡ true = rw e refl in
    let found : least_below (stops m p a) 32768 ≡ Some k = least_is (stops m p a) k 32768 l (stops-not m p a k h) there in
    rw (found, e) refl

-- If the walk continues at 32,768 frames, then the chain is circular, and the result is `NoProcedure`.
pub walked-round : (m : List ℕ) (p : Wanted) (a n : ℕ) → n ≡ 32768 → Passes m p a n → walked m p a ≡ Err NoProcedure
unfolding walked last_frame
walked-round m p a n w h =
    let found : least_below (stops m p a) n ≡ None = least_none (stops m p a) n (stops-not m p a n h) in
    let whole : least_below (stops m p a) 32768 ≡ None = rw w at found in
    rw whole refl

-- If `f` is the frame to which `k` dynamic links lead, then the dynamic link of `f` leads to the frame of `k + 1`
-- links.
pub frame_up-more : (m : List ℕ) (a k f : ℕ) → f ≡ frame_up m a k → frame_up m a (k + 1) ≡ control m f 2
unfolding frame_up
frame_up-more m a k f e = rw (add-one, e) refl

pub with_exits-more : (m : List ℕ) (a k f : ℕ) → f ≡ frame_up m a k
    → with_exits m a (k + 1) ≡ with_word (with_exits m a k) ((f + 8) % 65536) (exit_code m (control m f 4))
unfolding with_exits
with_exits-more m a k f e = rw (add-one, e) refl
