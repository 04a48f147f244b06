use Rattle.pm_debug.proofs.WatchLaws.{changes_are_first}
use Rattle.law_jobs.proofs.debug.changes_are_first.Goals as goal

pub returns : goal.returns
returns c = record { law = changes_are_first }
