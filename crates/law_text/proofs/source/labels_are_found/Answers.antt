use Rattle.law_text.proofs.source.labels_are_found.Goals as goal
use Rattle.pm_source.proofs.Labels.{labels_found}

pub returns : goal.returns
returns c = record { law = labels_found }
