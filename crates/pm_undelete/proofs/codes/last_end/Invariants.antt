use Rattle.std.proofs.Common.{◌≡◌, ◌-◌, max}
use Rattle.pm_undelete.specs.Codes.{last_end}
use Rattle.pm_undelete.proofs.codes.last_end.Given as goal

-- The block after all segments is the last one of the segments so far and of those of the slots from `n` on.
abbrev pub invariant-loop-n : goal.invariant-loop-n
invariant-loop-n l = record {
  rest : last_end l.file 0 16 ≡ max l.end (last_end l.file l.n (16 - l.n));
}
