use Rattle.law_jobs.proofs.Listed.{assembled_boots_listed}
use Rattle.law_headline.proofs.theorem.headline.Goals as goal

pub returns-in_err-machine-clause-starts : goal.returns-in_err-machine-clause-starts
returns-in_err-machine-clause-starts c = assembled_boots_listed
