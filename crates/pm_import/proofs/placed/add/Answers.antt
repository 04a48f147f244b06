use Rattle.pm_filer.proofs.Made.{made-unadded}
use Rattle.pm_import.proofs.placed.add.Goals as goal

pub returns-in-Err-clause-refusal : goal.returns-in-Err-clause-refusal
returns-in-Err-clause-refusal c = made-unadded _ _ _ _ _ _ c.in-Err.ensures.refusal
