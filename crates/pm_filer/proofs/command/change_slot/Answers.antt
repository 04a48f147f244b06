use Rattle.std.proofs.lemmas.Result.{err_from_is_err_and}
use Rattle.pm_filer.proofs.Made.{made-slot_renamed, made-slot_unrenamed}
use Rattle.pm_filer.proofs.command.change_slot.Goals as goal

pub returns-in_err-rename_slot-clause-refusal : goal.returns-in_err-rename_slot-clause-refusal
returns-in_err-rename_slot-clause-refusal c =
    let p = err_from_is_err_and c.from_residual.result c.from_residual.ensures.1 in
    rw (p.1, p.2) (made-slot_unrenamed _ _ _ _ c.in_err-rename_slot.ensures.refusal)

pub returns-clause-done : goal.returns-clause-done
returns-clause-done c = made-slot_renamed _ _ _ _ c.in_ok-rename_slot.ensures.renamed
