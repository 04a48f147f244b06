use Rattle.law_disks.proofs.SystemSlots.{new_file_is_sound}
use Rattle.law_disks.proofs.system.new_file_is_sound.Goals as goal

pub returns : goal.returns
returns c = record { law = new_file_is_sound }
