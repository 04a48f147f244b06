use Rattle.law_text.proofs.source.spelled_is_program.Goals as goal
use Rattle.pm_source.proofs.Programs.{spelled_is_program}

pub returns : goal.returns
returns c = record { law = spelled_is_program }
