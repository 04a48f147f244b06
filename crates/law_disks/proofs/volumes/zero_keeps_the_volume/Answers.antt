use Rattle.law_disks.proofs.VolumeLaws.{zero_keeps_the_volume}
use Rattle.law_disks.proofs.volumes.zero_keeps_the_volume.Goals as goal

pub returns : goal.returns
returns c = record { law = zero_keeps_the_volume }
