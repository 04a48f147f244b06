use Rattle.std.proofs.Common.{length}
use Rattle.pm_import.proofs.imported.+take_lines.Given as goal

abbrev pub decreases-take_lines : goal.decreases-take_lines
decreases-take_lines g l = length l.lines.now
