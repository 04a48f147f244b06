use Rattle.std.proofs.Common.{length}
use Rattle.pm_compare.proofs.comparing.+push_only_there.Given as goal

abbrev pub decreases-push_only_there : goal.decreases-push_only_there
decreases-push_only_there l = length l.files.now
