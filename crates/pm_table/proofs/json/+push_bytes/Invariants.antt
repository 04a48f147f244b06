use Rattle.std.proofs.Common.{length}
use Rattle.pm_table.proofs.json.+push_bytes.Given as goal

abbrev pub decreases-push_bytes : goal.decreases-push_bytes
decreases-push_bytes l = length l.name.now
