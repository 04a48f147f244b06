use Rattle.std.proofs.Common.{◌≡◌, ◌++◌, drop}
use Rattle.pm_statements.specs.Leading.{stretches}
use Rattle.pm_statements.proofs.leading.stretches.Given as goal

-- The code ranges so far, followed by the ranges of the remaining statements, are all code ranges.
abbrev pub invariant-loop-left : goal.invariant-loop-left
invariant-loop-left l = record {
  stretches : l.list.items ++ stretches l.start l.entries l.end (drop l.left-index l.lefts) l.rest ≡ stretches l.start l.entries l.end l.lefts l.phrases;
  more : l.more ≡ drop l.left-index l.lefts;
}
