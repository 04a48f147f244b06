use Rattle.law_jobs.proofs.OneRun.{finish_goes_on, go_goes_on, nothing_goes_on, step_goes_on, until_goes_on}
use Rattle.law_jobs.proofs.sessions.runs_go_on.Goals as goal

pub returns : goal.returns
returns c =
    record { go = go_goes_on; step = step_goes_on; finish = finish_goes_on; until = until_goes_on; nothing = nothing_goes_on }
