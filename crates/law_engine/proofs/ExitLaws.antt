-- Lemmas for the memory that EXIT leaves.
use Rattle.std.proofs.Common.{◌≡◌, ◌≢◌, ◌<◌, ℕ, zero, suc, ◌+◌, ◌%◌, Bool, true, false, not, List, length, Option, Some, None}
use Rattle.std.proofs.Common.{Result, Ok, Err, refl, sym, ap, ◌∙◌, arith, inl, inr}
use Rattle.std.proofs.lemmas.Bool.{cases_Bool, cases_lt}
use Rattle.std.proofs.lemmas.Bool.Decides.{nat_tests}
use Rattle.pm_words.specs.declared.error.ExecError.{ExecError}
use Rattle.pm_words.specs.Words.{word_at}
use Rattle.pm_words.specs.Stack.{◌>>=◌, is_even, load}
use Rattle.pm_words.proofs.Laws.{word_at-with_word, word_at-with_word_other}
use Rattle.pm_calls.specs.declared.exits.Wanted.{Wanted}
use Rattle.pm_calls.specs.Places.{Parts}
use Rattle.pm_calls.specs.Exits.{control, exit_code, exited, frame_up, goes_on, is_wanted, last_frame, least_below, met, or_else_if, stopped, walked}
use Rattle.pm_calls.specs.Exits.{walked_unless, with_exits}
use Rattle.law_engine.specs.ExitLaws.{ExitChangesSavedIpsAlone, frames_left, saved_ip}
use Rattle.pm_calls.proofs.ReturnLaws.{bound, ok_same, size-with_word}
use Rattle.pm_calls.proofs.WalkLaws.{stops}

-- ---- the least number that passes

pub some_same : (x y : ℕ) → Some x ≡ Some y → x ≡ y
some_same x y h = cc

-- If no number up to `n` satisfies the test `t`, then no number below `n` satisfies it, and `n` does not either.
none_at : (t : ℕ → Bool) (n : ℕ) (o : Option ℕ) (b : Bool) → least_below t n ≡ o → t n ≡ b → or_else_if o b n ≡ None
    → (least_below t n ≡ None) × (t n ≡ false)
none_at t n (Some k) b found here h = cc
none_at t n None true found here h = cc
none_at t n None false found here h = (found, here)

pub none_passes : (t : ℕ → Bool) (n : ℕ) → least_below t n ≡ None → (i : ℕ) → i < n → t i ≡ false
unfolding least_below
none_passes t zero h i l = absurd (omega (arith, l))
none_passes t (suc n) h i l =
    let both = none_at t n (least_below t n) (t n) refl refl h in
    elim (cases_lt i n) [
      | inl less ↦ none_passes t n both.0 i less
      | inr more ↦ let same : i ≡ n = omega (arith, l, more) in rw same both.1
    ]

-- `k` is less than `n`, satisfies the test `t`, and no lower number satisfies it.
pub record IsLeast (t : ℕ → Bool) (n k : ℕ) : Type 0 where
  pub below : k < n
  pub passes : t k ≡ true
  pub before : (i : ℕ) → i < k → t i ≡ false

found_at : (t : ℕ → Bool) (n k : ℕ) (o : Option ℕ) (b : Bool) → least_below t n ≡ o → t n ≡ b → or_else_if o b n ≡ Some k
    → (least_below t n ≡ Some k → IsLeast t n k) → IsLeast t (suc n) k
found_at t n k (Some j) b found here h rest =
    let least = rest (found ∙ h) in
    record { below = omega (arith, least.below); passes = least.passes; before = least.before }
found_at t n k None false found here h rest = cc
found_at t n k None true found here h rest =
    let same : n ≡ k = some_same n k h in
    record { below = omega (arith, same); passes = rw same at here; before = rw same at (none_passes t n found) }

pub found_is_least : (t : ℕ → Bool) (n k : ℕ) → least_below t n ≡ Some k → IsLeast t n k
unfolding least_below
found_is_least t zero k h = cc
found_is_least t (suc n) k h = found_at t n k (least_below t n) (t n) refl refl h (found_is_least t n k)

-- ---- the frames of a walk that ended

-- The frames before the frame `k` are not the one that EXIT searches, and the frame `k` is.
pub record IsWalk (m : List ℕ) (p : Wanted) (a k : ℕ) : Type 0 where
  pub before : (i : ℕ) → i < k → met m p (frame_up m a i) ≡ Ok false
  pub there : met m p (frame_up m a k) ≡ Ok true

on : (r : Result Bool ExecError) → not (goes_on r) ≡ false → r ≡ Ok false
on (Ok false) h = refl
on (Ok true) h = cc
on (Err e) h = cc

off : (r : Result Bool ExecError) (b : Bool) → r ≡ Ok b → not (goes_on r) ≡ true → r ≡ Ok true
off r true e h = e
off r false e h = cc

met_at : (m : List ℕ) (p : Wanted) (a j k : ℕ) (b : Bool) → j ≡ k → met m p (frame_up m a j) ≡ Ok b → met m p (frame_up m a k) ≡ Ok b
met_at m p a j k b e h = sym (ap (λ i. met m p (frame_up m a i)) e) ∙ h

pub stopped_at : (m : List ℕ) (p : Wanted) (a k : ℕ) (o : Option ℕ) → stopped m p a o ≡ Ok k
    → (o ≡ Some k) × (b : Bool) × (met m p (frame_up m a k) ≡ Ok b)
stopped_at m p a k None h = cc
stopped_at m p a k (Some j) h =
    let x = bound (met m p (frame_up m a j)) (λ wanted. Ok j) k h in
    let same : j ≡ k = ok_same j k x.2 in
    (ap Some same, x.0, met_at m p a j k x.0 same x.1)

pub last_is_walk : (m : List ℕ) (p : Wanted) (a k : ℕ) → last_frame m p a ≡ Ok k → IsWalk m p a k
unfolding last_frame
last_is_walk m p a k h =
    let x = stopped_at m p a k (least_below (stops m p a) 32768) h in
    let least = found_is_least (stops m p a) 32768 k x.0 in
    record {
      before = λ i l. on (met m p (frame_up m a i)) (least.before i l);
      there = off (met m p (frame_up m a k)) x.1 x.2 least.passes;
    }

-- If a word is loaded from an address, then the address is even.
loaded_even : (m : List ℕ) (a w : ℕ) → load m a ≡ Ok w → a % 2 ≡ 0
loaded_even m a w h = elim (cases_Bool (is_even a)) [ inl e ↦ grind (arith, nat_tests, e) | inr e ↦ cc ]

pub met_even : (m : List ℕ) (p : Wanted) (f : ℕ) (b : Bool) → met m p f ≡ Ok b → f % 2 ≡ 0
unfolding met
met_even m p f b h =
    let x = bound (load m ((f + 2) % 65536)) _ _ h in
    let even = loaded_even m ((f + 2) % 65536) x.0 x.1 in
    omega (arith, even)

pub walk_even : (m : List ℕ) (p : Wanted) (a k : ℕ) → IsWalk m p a k → (i : ℕ) → i < k + 1 → frame_up m a i % 2 ≡ 0
walk_even m p a k walk i l = elim (cases_lt i k) [
  | inl less ↦ met_even m p (frame_up m a i) false (walk.before i less)
  | inr more ↦ let same : i ≡ k = omega (arith, l, more) in rw same (met_even m p (frame_up m a k) true walk.there)
]

-- ---- the words that are written

pub size-with_exits : (m : List ℕ) (a n : ℕ) → length (with_exits m a n) ≡ length m
unfolding with_exits
size-with_exits m a zero = refl
size-with_exits m a (suc n) =
    size-with_word (with_exits m a n) ((frame_up m a n + 8) % 65536) (exit_code m (control m (frame_up m a n) 4)) ∙ size-with_exits m a n

-- The addresses of the first `n` frames from `a` on are even.
abbrev pub AreEven : List ℕ → ℕ → ℕ → Type 0
AreEven m a n = (i : ℕ) → i < n → frame_up m a i % 2 ≡ 0

-- If `x` is not the address of a saved IPC of the `n` frames, then the word at `x` is unchanged.
pub others_stay : (m : List ℕ) (a n x : ℕ) → AreEven m a n → x % 2 ≡ 0 → ((i : ℕ) → i < n → x ≢ (frame_up m a i + 8) % 65536)
    → word_at (with_exits m a n) x ≡ word_at m x
unfolding with_exits
others_stay m a zero x even here apart = refl
others_stay m a (suc n) x even here apart =
    let f = even n (omega arith) in
    word_at-with_word_other (with_exits m a n) ((frame_up m a n + 8) % 65536) x (exit_code m (control m (frame_up m a n) 4))
    (omega (arith, f)) here (apart n (omega arith))
    ∙ others_stay m a n x (λ i l. even i (omega (arith, l))) here (λ i l. apart i (omega (arith, l)))

-- If no later frame saves its IPC in the same word, then the saved IPC of the frame `i` becomes the exit address of its
-- procedure.
pub saved_stands : (m : List ℕ) (a n i : ℕ) → length m ≡ 32768 → AreEven m a n → i < n →
    ((j : ℕ) → i < j → j < n → (frame_up m a i + 8) % 65536 ≢ (frame_up m a j + 8) % 65536)
    → word_at (with_exits m a n) ((frame_up m a i + 8) % 65536) ≡ exit_code m (control m (frame_up m a i) 4)
unfolding with_exits
saved_stands m a zero i size even l apart = absurd (omega (arith, l))
saved_stands m a (suc n) i size even l apart =
    let f = even n (omega arith) in
    let g = even i l in
    let code = exit_code m (control m (frame_up m a n) 4) in
    elim (cases_lt i n) [
      | inl less ↦ word_at-with_word_other (with_exits m a n) ((frame_up m a n + 8) % 65536) ((frame_up m a i + 8) % 65536) code
          (omega (arith, f)) (omega (arith, g)) (apart n less (omega arith))
          ∙ saved_stands m a n i size (λ j k. even j (omega (arith, k))) less (λ j k h. apart j k (omega (arith, h)))
      | inr more ↦ let same : i ≡ n = omega (arith, l, more) in
          let whole : length (with_exits m a n) ≡ 32768 = size-with_exits m a n ∙ size in
          rw same (word_at-with_word (with_exits m a n) ((frame_up m a n + 8) % 65536) ((frame_up m a n + 8) % 65536) code refl (omega (arith, whole)))
    ]

-- ---- EXIT

-- The memory after EXIT is the memory in which `count` frames are left.
pub record IsExited (m n : List ℕ) (p : Wanted) (a : ℕ) (here : Bool) (count : ℕ) : Type 0 where
  pub frames : frames_left here m p a ≡ Ok count
  pub even : AreEven m a count
  pub memory : n ≡ with_exits m a count

pub walk_made : (m n : List ℕ) (p : Wanted) (a : ℕ) (here : Bool) → walked_unless here m p a ≡ Ok n → (count : ℕ) × IsExited m n p a here count
unfolding walked with_exits
walk_made m n p a true h = (0, record { frames = refl; even = λ i l. absurd (omega (arith, l)); memory = sym (ok_same _ _ h) })
walk_made m n p a false h =
    let x = bound (last_frame m p a) (λ k. Ok (with_exits m a (k + 1))) n h in
    let walk = last_is_walk m p a x.0 x.1 in (
      x.0 + 1,
      record {
        frames = ap (λ r. r >>= λ k. Ok (k + 1)) x.1;
        even = walk_even m p a x.0 walk;
        memory = sym (ok_same _ _ x.2);
      },
    )

pub exit_changes_saved_ips_alone : ExitChangesSavedIpsAlone
unfolding exited
exit_changes_saved_ips_alone c d p memory h =
    let here = bound (is_wanted c.memory p c.registers.seg c.registers.jtab) _ _ h in
    let left = bound (walked_unless here.0 c.memory p c.registers.mp) _ _ here.2 in
    let same = ok_same _ d left.2 in
    let made = walk_made c.memory left.0 p c.registers.mp here.0 left.1 in
    let is = made.1 in
    let written : d.memory ≡ with_exits c.memory c.registers.mp made.0 = sym (ap (λ (x : Parts). x.memory) same) ∙ is.memory in
    record {
      count = made.0;
      frames = ap (λ r. r >>= λ b. frames_left b c.memory p c.registers.mp) here.1 ∙ is.frames;
      registers = sym (ap (λ (x : Parts). x.registers) same);
      places = sym (ap (λ (x : Parts). x.places) same);
      rest = λ x even apart. ap (λ n. word_at n x) written ∙ others_stay c.memory c.registers.mp made.0 x is.even even apart;
      saved = λ i l apart. ap (λ n. word_at n (saved_ip c i)) written
          ∙ saved_stands c.memory c.registers.mp made.0 i memory.size is.even l apart;
    }
