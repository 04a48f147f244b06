use Rattle.pm_filer.proofs.Made.{made-slot_kind_set}
use Rattle.pm_filer.proofs.command.set_slot_kind.Goals as goal

pub returns-clause-done : goal.returns-clause-done
returns-clause-done c = made-slot_kind_set _ _ _ _ c.in_ok-set_slot_kind.ensures.set
