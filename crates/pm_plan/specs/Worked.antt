-- Worked examples of the maximum number of steps.
use Rattle.std.specs.Prelude.{◌≡◌, ◌≤◌, ◌<◌, ℕ, true, false, None}
use Rattle.pm_plan.specs.Asked.{IsRunLimit}

-- With `--unlimited`, the limit is not less than any number of steps below 2 ^ 64. Without `--unlimited` and `--limit`,
-- the limit is 10,000,000 steps.
pub record WorkedLimits : Type 0 where
  pub unlimited : (limit steps : ℕ) → IsRunLimit true None limit → steps < 18446744073709551616 → steps ≤ limit
  pub without : (limit : ℕ) → IsRunLimit false None limit → limit ≡ 10000000
