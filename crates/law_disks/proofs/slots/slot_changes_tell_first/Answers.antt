use Rattle.law_disks.proofs.SlotLaws.{slot_changes_tell_first}
use Rattle.law_disks.proofs.slots.slot_changes_tell_first.Goals as goal

pub returns : goal.returns
returns c = record { law = slot_changes_tell_first }
