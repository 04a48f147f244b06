use Rattle.law_disks.proofs.FittingLaws.{equals_is_anything, pattern_is_name}
use Rattle.law_disks.proofs.slots.equals_is_anything.Goals as goal

pub returns : goal.returns
returns c = record { law = equals_is_anything; name = pattern_is_name }
