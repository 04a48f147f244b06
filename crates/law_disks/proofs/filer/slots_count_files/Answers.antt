use Rattle.pm_filer.proofs.SlotLaws.{slots_count_files, slots_end}
use Rattle.law_disks.proofs.filer.slots_count_files.Goals as goal

pub returns : goal.returns
returns c = record { law = slots_count_files; end = slots_end }
