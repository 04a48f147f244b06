use Rattle.std.proofs.Common.{◌≡◌, ◌-◌, ◌++◌}
use Rattle.std.specs.List.{AllByRecursion}
use Rattle.pm_statements.specs.Files.{IsSizedSegment, slots_callees}
use Rattle.pm_statements.proofs.sized.file_sizes.Given as goal

-- The sizes so far, followed by the sizes for the remaining slots, are all sizes. Each segment of the list has correct
-- attribute tables.
abbrev pub invariant-loop-n : goal.invariant-loop-n
invariant-loop-n l = record {
  callees : l.callees.items ++ slots_callees l.file l.n (16 - l.n) ≡ slots_callees l.file 0 16;
  segments : AllByRecursion IsSizedSegment l.segments.items;
}
