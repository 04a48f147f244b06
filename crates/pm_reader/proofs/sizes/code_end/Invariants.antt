use Rattle.std.proofs.Common.{◌≡◌, drop, map}
use Rattle.pm_line.specs.Views.{row_seen}
use Rattle.pm_source.specs.Source.{code_end}
use Rattle.pm_reader.proofs.sizes.code_end.Given as goal

-- The end of the remaining rows, which begin at `end`, is the end of all rows.
abbrev pub invariant-loop-row : goal.invariant-loop-row
invariant-loop-row l = code_end l.end (map row_seen (drop l.row-index l.rows)) ≡ code_end l.at (map row_seen l.rows)
