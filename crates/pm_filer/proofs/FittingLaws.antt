-- Laws of removing the files whose names match a pattern, one after the other.
use Rattle.std.proofs.Common.{◌≡◌, ◌<◌, ℕ, zero, suc, ◌-◌, List, refl, arith}
use Rattle.pm_filer.specs.Fitting.{without_first, without_fitting}

-- Of the first `n` files, the last one is removed first.
pub last_first : (pattern : List ℕ) (n : ℕ) (image : List ℕ) → 0 < n
    → without_first pattern (n - 1) (without_fitting pattern (n - 1) image) ≡ without_first pattern n image
last_first pattern zero image h = absurd (omega (arith, h))
last_first pattern (suc n) image h = let e : suc n - 1 ≡ n = omega arith in rw e refl
