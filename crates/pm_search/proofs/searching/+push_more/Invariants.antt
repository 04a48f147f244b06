use Rattle.std.proofs.Common.{length}
use Rattle.pm_search.proofs.searching.+push_more.Given as goal

abbrev pub decreases-push_more : goal.decreases-push_more
decreases-push_more l = length l.formats.now
