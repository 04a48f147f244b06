use Rattle.pm_filer.proofs.Made.{made-kind_set}
use Rattle.pm_filer.proofs.command.set_kind.Goals as goal

pub returns-clause-done : goal.returns-clause-done
returns-clause-done c = made-kind_set _ _ _ _ c.in_ok-set_kind.ensures.set
