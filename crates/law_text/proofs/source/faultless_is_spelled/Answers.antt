use Rattle.law_text.proofs.source.faultless_is_spelled.Goals as goal
use Rattle.pm_source.proofs.Spelled.{faultless_is_spelled}

pub returns : goal.returns
returns c = record { law = faultless_is_spelled }
