use Rattle.std.proofs.Common.{length}
use Rattle.pm_plan.proofs.search_words.+push_copies.Given as goal

abbrev pub decreases-push_copies : goal.decreases-push_copies
decreases-push_copies l = length l.paths.now
