use Rattle.law_disks.proofs.SlotLaws.{names_are_slots}
use Rattle.law_disks.proofs.slots.names_are_slots.Goals as goal

pub returns : goal.returns
returns c = record { law = names_are_slots }
