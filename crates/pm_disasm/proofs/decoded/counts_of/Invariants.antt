use Rattle.std.proofs.Common.{◌≡◌, true, length}
use Rattle.pm_disasm.specs.Offsets.{HasCounts}
use Rattle.pm_disasm.specs.Views.{has}
use Rattle.pm_disasm.proofs.decoded.counts_of.Given as goal

-- The set contains the numbers of entries used up to here, and 0.
abbrev pub invariant-loop-front : goal.invariant-loop-front
invariant-loop-front l = record {
  counts : HasCounts l.counts l.fronts l.front-index;
  none : has l.counts 0 ≡ true;
  begin : l.counts.begin ≡ 0;
  size : length l.counts.marks.items ≡ 61;
}
