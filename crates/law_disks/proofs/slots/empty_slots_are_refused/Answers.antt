use Rattle.law_disks.proofs.SlotLaws.{empty_slots_are_refused}
use Rattle.law_disks.proofs.slots.empty_slots_are_refused.Goals as goal

pub returns : goal.returns
returns c = record { law = empty_slots_are_refused }
