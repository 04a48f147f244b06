use Rattle.law_engine.proofs.OutputLaws.{outputs_only_grow}
use Rattle.law_engine.proofs.outputs.outputs_only_grow.Goals as goal

pub returns : goal.returns
returns c = record { law = outputs_only_grow }
