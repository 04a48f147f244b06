use Rattle.law_disks.proofs.TextLaws.{text_is_got, text_keeps_others}
use Rattle.law_disks.proofs.filer.text_is_got.Goals as goal

pub returns-clause-law : goal.returns-clause-law
returns-clause-law c = text_is_got

pub returns-clause-others : goal.returns-clause-others
returns-clause-others c = text_keeps_others
