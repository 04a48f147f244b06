use Rattle.law_jobs.proofs.RefusalLaws.{lines_tell_first}
use Rattle.law_jobs.proofs.round_trip.lines_tell_first.Goals as goal

pub returns : goal.returns
returns c = record { law = lines_tell_first }
