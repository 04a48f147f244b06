use Rattle.std.proofs.Common.{length}
use Rattle.pm_convert.proofs.report.+push_formats.Given as goal

abbrev pub decreases-push_formats : goal.decreases-push_formats
decreases-push_formats l = length l.formats.now
