use Rattle.std.proofs.Common.{length}
use Rattle.pm_export.proofs.fill.+add_files.Given as goal

abbrev pub decreases-add_files : goal.decreases-add_files
decreases-add_files g l = length l.files.now
