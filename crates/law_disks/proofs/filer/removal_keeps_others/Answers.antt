use Rattle.law_disks.proofs.GivenLaws.{removal_keeps_others}
use Rattle.law_disks.proofs.filer.removal_keeps_others.Goals as goal

pub returns : goal.returns
returns c = record { law = removal_keeps_others }
