-- Proofs of the worked examples of the maximum number of steps.
use Rattle.std.proofs.Common.{arith, ◌≡◌, ◌≤◌, ◌<◌, ℕ, true, false}
use Rattle.std.specs.Prelude.{None}
use Rattle.pm_plan.specs.Asked.{IsRunLimit}
use Rattle.pm_plan.specs.Worked.{WorkedLimits}

pub worked_limits : WorkedLimits
worked_limits = record {
  unlimited = λ limit steps same below. omega (arith, same, below);
  without = λ limit same. same;
}
