use Rattle.law_disks.proofs.GivenLaws.{put_is_got}
use Rattle.law_disks.proofs.filer.put_is_got.Goals as goal

pub returns : goal.returns
returns c = record { law = put_is_got }
