use Rattle.std.proofs.lemmas.Result.{err_from_is_err_and}
use Rattle.pm_filer.proofs.Made.{made-renamed, made-unrenamed}
use Rattle.pm_filer.proofs.command.change.Goals as goal

pub returns-in_err-rename-clause-refusal : goal.returns-in_err-rename-clause-refusal
returns-in_err-rename-clause-refusal c =
    let p = err_from_is_err_and c.from_residual.result c.from_residual.ensures.1 in
    rw (p.1, p.2) (made-unrenamed _ _ _ _ c.in_err-rename.ensures.refusal)

pub returns-clause-done : goal.returns-clause-done
returns-clause-done c = made-renamed _ _ _ _ c.in_ok-rename.ensures.renamed
