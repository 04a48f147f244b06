use Rattle.law_engine.proofs.MoveLaws.{moves_stay_inside}
use Rattle.law_engine.proofs.stdproc.moves_stay_inside.Goals as goal

pub returns : goal.returns
returns c = record { law = moves_stay_inside }
