use Rattle.law_disks.proofs.SlotLaws.{change_names_one}
use Rattle.law_disks.proofs.slots.change_names_one.Goals as goal

pub returns : goal.returns
returns c = record { law = change_names_one }
