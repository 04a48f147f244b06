use Rattle.law_disks.proofs.KindLaws.{copy_is_got, copy_keeps_kind}
use Rattle.law_disks.proofs.filer.copy_is_got.Goals as goal

pub returns : goal.returns
returns c = record { law = copy_is_got; alike = copy_keeps_kind }
