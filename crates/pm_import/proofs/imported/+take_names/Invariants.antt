use Rattle.std.proofs.Common.{length}
use Rattle.pm_import.proofs.imported.+take_names.Given as goal

abbrev pub decreases-take_names : goal.decreases-take_names
decreases-take_names g l = length l.names.now
