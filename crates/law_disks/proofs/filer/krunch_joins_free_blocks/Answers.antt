use Rattle.law_disks.proofs.FreeLaws.{krunch_keeps_free, krunch_leaves_one_gap}
use Rattle.law_disks.proofs.filer.krunch_joins_free_blocks.Goals as goal

pub returns-clause-law : goal.returns-clause-law
returns-clause-law c = krunch_keeps_free

pub returns-clause-gap : goal.returns-clause-gap
returns-clause-gap c = krunch_leaves_one_gap
