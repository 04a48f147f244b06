use Rattle.law_text.proofs.source.found_is_faultless.Goals as goal
use Rattle.pm_source.proofs.Unlabelled.{found_is_faultless}

pub returns : goal.returns
returns c = record { law = found_is_faultless }
