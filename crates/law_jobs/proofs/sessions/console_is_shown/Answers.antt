use Rattle.law_jobs.proofs.Console.{console_is_shown}
use Rattle.law_jobs.proofs.sessions.console_is_shown.Goals as goal

pub returns : goal.returns
returns c = record { law = console_is_shown }
