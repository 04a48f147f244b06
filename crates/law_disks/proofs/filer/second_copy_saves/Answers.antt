use Rattle.pm_volume.proofs.SavedLaws.{second_copy_saves}
use Rattle.law_disks.proofs.filer.second_copy_saves.Goals as goal

pub returns : goal.returns
returns c = record { law = second_copy_saves }
