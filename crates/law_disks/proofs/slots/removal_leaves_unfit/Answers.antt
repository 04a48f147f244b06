use Rattle.law_disks.proofs.FittingLaws.{removal_leaves_unfit, unfit_is_refused}
use Rattle.law_disks.proofs.slots.removal_leaves_unfit.Goals as goal

pub returns : goal.returns
returns c = record { law = removal_leaves_unfit; refused = unfit_is_refused }
