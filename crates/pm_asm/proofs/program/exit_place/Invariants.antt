use Rattle.std.proofs.Common.{◌≡◌, drop, map}
use Rattle.pm_line.specs.Views.{row_seen}
use Rattle.pm_source.specs.Meaning.{exit_place}
use Rattle.pm_asm.specs.Found.{exit_in}
use Rattle.pm_asm.proofs.program.exit_place.Given as goal

-- The offset of the exit code in the remaining lines is that in all lines.
abbrev pub invariant-loop-row : goal.invariant-loop-row
invariant-loop-row l = exit_place l.at (map row_seen (drop l.row-index l.row-items)) ≡ exit_in l.code
