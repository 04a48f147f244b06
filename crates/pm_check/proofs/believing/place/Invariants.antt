use Rattle.std.proofs.Common.{◌≡◌, ◌++◌, drop, take}
use Rattle.pm_check.specs.Believing.{placed}
use Rattle.pm_check.proofs.believing.place.Given as goal

-- If the new file is inserted into the remaining files, and the files so far are put before them, the result is that of
-- inserting it into all files.
abbrev pub invariant-loop-i : goal.invariant-loop-i
invariant-loop-i l = record {
  same : l.taken.items ≡ l.fn.taken.items;
  place : take l.i l.taken.items ++ placed l.file (drop l.i l.taken.items) ≡ placed l.file l.taken.items;
}
