use Rattle.law_disks.proofs.ChangeLaws.{change_keeps_others, new_name_gives}
use Rattle.law_disks.proofs.filer.change_moves_the_name.Goals as goal

pub returns-clause-law : goal.returns-clause-law
returns-clause-law c = new_name_gives

pub returns-clause-others : goal.returns-clause-others
returns-clause-others c = change_keeps_others
