use Rattle.std.proofs.Common.{◌≡◌, drop, take}
use Rattle.pm_import.specs.Listed.{cut}
use Rattle.pm_import.proofs.Cutting.{with_front}
use Rattle.pm_import.proofs.listed.cut.Given as goal

-- No byte before `at` is `mark`.
abbrev pub invariant-loop-at : goal.invariant-loop-at
invariant-loop-at l =
    cut l.mark l.bytes ≡ with_front (take l.at l.bytes) (cut l.mark (drop l.at l.bytes))
