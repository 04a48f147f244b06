use Rattle.law_disks.proofs.VolumeLaws.{largest_is_a_gap}
use Rattle.law_disks.proofs.volumes.largest_is_a_gap.Goals as goal

pub returns : goal.returns
returns c = record { law = largest_is_a_gap }
