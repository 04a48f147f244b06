use Rattle.law_disks.proofs.GivenLaws.{names_are_kept}
use Rattle.law_disks.proofs.filer.names_are_kept.Goals as goal

pub returns : goal.returns
returns c = record { law = names_are_kept }
