-- Lemmas about the depth of a dynamic chain, frame by frame.
use Rattle.std.proofs.Common.{◌≡◌, ℕ, zero, suc, ◌+◌, ◌*◌, ◌≤◌, take, replicate, ◌%◌, ◌==◌}
use Rattle.std.proofs.Common.{◌||◌, not, List, Bool, true, false, None, Some, refl, arith, if◌then◌else◌}
use Rattle.std.proofs.lemmas.List.{take-replicate}
use Rattle.pm_words.specs.Words.{word_at}
use Rattle.pm_words.specs.Stack.{is_even}
use Rattle.pm_words.specs.declared.layout.TheConstants.{SYSTEM_FRAME}
use Rattle.pm_trace.specs.Selected.{blanks, depth_from, next_frame}

ends_by : (last : Bool) (f more : ℕ) → None ≡ (if last then None else Some f) → (if last then 0 else suc more) ≡ 0
ends_by true f more e = refl
ends_by false f more e = cc

goes_by : (last : Bool) (f g : ℕ) (below : ℕ → ℕ) → Some g ≡ (if last then None else Some f) → (if last then 0 else suc (below f)) ≡ suc (below g)
goes_by true f g below e = cc
goes_by false f g below e = cc

-- If no frame follows `f`, then the depth from `f` on is 0.
pub depth_ends : (m : List ℕ) (n f : ℕ) → None ≡ next_frame m f → depth_from m n f ≡ 0
unfolding depth_from
depth_ends m zero f e = refl
depth_ends m (suc n) f e = ends_by (f == SYSTEM_FRAME || not (is_even f)) (word_at m ((f + 2) % 65536)) (depth_from m n (word_at m ((f + 2) % 65536))) e

-- If the frame `g` follows `f`, then the depth from `f` on is 1 more than that from `g` on.
pub depth_goes : (m : List ℕ) (n f g : ℕ) → Some g ≡ next_frame m f → depth_from m (suc n) f ≡ suc (depth_from m n g)
unfolding depth_from
depth_goes m n f g e = goes_by (f == SYSTEM_FRAME || not (is_even f)) (word_at m ((f + 2) % 65536)) g (depth_from m n) e

pub depth_none : (m : List ℕ) (f : ℕ) → depth_from m 0 f ≡ 0
unfolding depth_from
depth_none m f = refl

-- If one frame is counted, then the sum of both numbers is unchanged.
pub one_more : (k d : ℕ) → k + suc d ≡ k + 1 + d
one_more k d = omega arith

-- If `n` is at most 64, then the first `2 * n` of 128 spaces are the spaces for `n` levels.
pub first_blanks : (n : ℕ) → n ≤ 64 → take (2 * n) (replicate 128 32) ≡ blanks n
first_blanks n few = take-replicate (2 * n) 128 32 (omega (arith, few))
