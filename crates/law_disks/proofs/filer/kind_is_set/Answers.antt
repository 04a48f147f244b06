use Rattle.law_disks.proofs.KindLaws.{kind_is_set, kind_keeps_names}
use Rattle.law_disks.proofs.filer.kind_is_set.Goals as goal

pub returns : goal.returns
returns c = record { law = kind_is_set; names = kind_keeps_names }
