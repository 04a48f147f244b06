use Rattle.pm_filer.proofs.SystemKept.{stay_beside, where_ok}
use Rattle.pm_filer.proofs.SystemMade.{made-removed}
use Rattle.pm_filer.proofs.system_disk.exchange.Goals as goal

pub returns-clause-done : goal.returns-clause-done
returns-clause-done c = rw (made-removed _ _ _ c.in_ok-remove.ensures.removed) c.put_code.ensures.done

pub returns-clause-refusal : goal.returns-clause-refusal
returns-clause-refusal c = rw (made-removed _ _ _ c.in_ok-remove.ensures.removed) c.put_code.ensures.refusal

pub returns-clause-stay : goal.returns-clause-stay
returns-clause-stay c = where_ok c.put_code.result
    (stay_beside _ _ _ _ c.in_ok-remove.ensures.removed c.in_ok-remove.ensures.stay) c.put_code.ensures.stay
