use Rattle.pm_volume.proofs.SavedLaws.{damage_is_undone}
use Rattle.law_disks.proofs.filer.damage_is_undone.Goals as goal

pub returns : goal.returns
returns c = record { law = damage_is_undone }
