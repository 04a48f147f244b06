use Rattle.law_text.proofs.source.faults_ascend.Goals as goal
use Rattle.law_text.proofs.AscendingLabels.{faults_ascend}

pub returns : goal.returns
returns c = record { law = faults_ascend }
