use Rattle.law_text.proofs.source.said_is_faultless.Goals as goal
use Rattle.pm_source.proofs.Exactly.{said_is_faultless}

pub returns : goal.returns
returns c = record { law = said_is_faultless }
