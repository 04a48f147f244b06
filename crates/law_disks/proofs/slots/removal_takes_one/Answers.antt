use Rattle.law_disks.proofs.SlotLaws.{removal_takes_one}
use Rattle.law_disks.proofs.slots.removal_takes_one.Goals as goal

pub returns : goal.returns
returns c = record { law = removal_takes_one }
