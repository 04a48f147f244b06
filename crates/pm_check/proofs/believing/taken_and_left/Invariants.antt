use Rattle.std.proofs.Common.{◌≡◌, ◌≤◌, ◌-◌, ◌+◌, ◌++◌, [], length}
use Rattle.pm_check.specs.Believing.{left_from, taken_from}
use Rattle.pm_check.proofs.believing.taken_and_left.Given as goal

-- If the valid entries in the remaining slots are inserted into the list so far, the result is the list of all files.
-- Each slot has at most one file. The invalid entries so far and those in the remaining slots are together all invalid
-- entries.
abbrev pub invariant-loop-n : goal.invariant-loop-n
invariant-loop-n l = record {
  rest : taken_from l.directory l.lowest l.blocks l.n (78 - l.n) l.taken.items ≡ taken_from l.directory l.lowest l.blocks 1 77 [];
  few : length l.taken.items + 1 ≤ l.n;
  left : l.left.items ++ left_from l.directory l.lowest l.blocks l.n (78 - l.n) ≡ left_from l.directory l.lowest l.blocks 1 77;
}
