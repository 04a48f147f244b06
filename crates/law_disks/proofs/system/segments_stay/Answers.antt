use Rattle.law_disks.proofs.SystemSlots.{segments_stay}
use Rattle.law_disks.proofs.system.segments_stay.Goals as goal

pub returns : goal.returns
returns c = record { law = segments_stay }
