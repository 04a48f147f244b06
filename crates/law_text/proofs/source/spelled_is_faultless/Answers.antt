use Rattle.law_text.proofs.source.spelled_is_faultless.Goals as goal
use Rattle.pm_source.proofs.Spelled.{spelled_is_faultless}

pub returns : goal.returns
returns c = record { law = spelled_is_faultless }
