use Rattle.std.proofs.Common.{◌≡◌, ◌-◌}
use Rattle.pm_undelete.specs.Codes.{are_likely}
use Rattle.pm_undelete.proofs.codes.are_likely.Given as goal

-- All slots are likely if and only if the slots from `n` on are likely.
abbrev pub invariant-loop-n : goal.invariant-loop-n
invariant-loop-n l = record {
  rest : are_likely l.file 0 16 ≡ are_likely l.file l.n (16 - l.n);
}
