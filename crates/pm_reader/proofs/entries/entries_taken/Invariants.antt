use Rattle.std.proofs.Common.{◌≡◌, drop, map, max}
use Rattle.pm_line.specs.Views.{row_seen}
use Rattle.pm_source.specs.Source.{entries_used}
use Rattle.pm_reader.proofs.entries.entries_taken.Given as goal

-- The maximum of the number so far and the number for the remaining rows is the number for all rows.
abbrev pub invariant-loop-row : goal.invariant-loop-row
invariant-loop-row l = max l.most (entries_used (map row_seen (drop l.row-index l.rows))) ≡ entries_used (map row_seen l.rows)
