use Rattle.std.specs.Prelude.{length}
use Rattle.pm_searches.proofs.searched.+search_each.Given as goal

abbrev pub decreases-search_each : goal.decreases-search_each
decreases-search_each g l = length l.paths.now
