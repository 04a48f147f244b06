use Rattle.law_disks.proofs.KindLaws.{slot_copy_is_got, slot_copy_keeps_kind}
use Rattle.law_disks.proofs.filer.slot_copy_is_got.Goals as goal

pub returns : goal.returns
returns c = record { law = slot_copy_is_got; alike = slot_copy_keeps_kind }
