use Rattle.std.proofs.Common.{length}
use Rattle.pm_table.proofs.json.+push_more.Given as goal

abbrev pub decreases-push_more : goal.decreases-push_more
decreases-push_more l = length l.rows.now
