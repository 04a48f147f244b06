use Rattle.std.proofs.Common.{refl}
use Rattle.pm_filer.proofs.Made.{made-slot_removed, made-slot_unremoved}
use Rattle.pm_filer.proofs.fitting.remove_there.Goals as goal

pub returns-in-Ok-clause-removed : goal.returns-in-Ok-clause-removed
returns-in-Ok-clause-removed c = rw (made-slot_removed _ _ _ c.in-Ok.ensures.removed) refl

pub returns-in-Err-clause-removed : goal.returns-in-Err-clause-removed
returns-in-Err-clause-removed c =
    rw (c.in-Err.ensures.unchanged, made-slot_unremoved _ _ (c.in-Err.ensures.refusal.1)) refl
