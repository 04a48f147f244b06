use Rattle.pm_volume.proofs.SavedLaws.{good_images_stay}
use Rattle.law_disks.proofs.filer.good_images_stay.Goals as goal

pub returns : goal.returns
returns c = record { law = good_images_stay }
