use Rattle.law_text.proofs.source.faultless_is_said.Goals as goal
use Rattle.pm_source.proofs.Exactly.{faultless_is_said}

pub returns : goal.returns
returns c = record { law = faultless_is_said }
