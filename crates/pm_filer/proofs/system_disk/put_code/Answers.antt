use Rattle.std.proofs.lemmas.Result.{err_from_is_err_and}
use Rattle.pm_filer.proofs.SystemMade.{made-unadded}
use Rattle.pm_filer.proofs.system_disk.put_code.Goals as goal

pub returns-in_err-add-clause-refusal : goal.returns-in_err-add-clause-refusal
returns-in_err-add-clause-refusal c =
    let p = err_from_is_err_and c.from_residual.result c.from_residual.ensures.1 in
    rw (p.1, p.2) (made-unadded _ _ _ _ _ _ c.in_err-add.ensures.refusal)
