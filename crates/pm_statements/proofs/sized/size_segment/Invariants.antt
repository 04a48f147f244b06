use Rattle.std.proofs.Common.{◌≡◌, ◌+◌, ◌-◌, ◌++◌}
use Rattle.std.specs.List.{AllByRecursion}
use Rattle.pm_statements.specs.Files.{IsSizedTable, callees_from, segment_callees}
use Rattle.pm_statements.proofs.sized.size_segment.Given as goal

-- The sizes so far, followed by the sizes for the remaining numbers, are all sizes. The attribute tables that were read
-- have correct sizes.
abbrev pub invariant-loop-done : goal.invariant-loop-done
invariant-loop-done l = record {
  callees : l.callees.items ++ callees_from l.segment (l.done + 1) (255 - l.done) ≡ segment_callees l.segment;
  tables : AllByRecursion (IsSizedTable l.segment) l.tables.items;
}
