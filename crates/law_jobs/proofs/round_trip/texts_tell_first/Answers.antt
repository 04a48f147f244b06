use Rattle.law_jobs.proofs.RefusalLaws.{texts_tell_first}
use Rattle.law_jobs.proofs.round_trip.texts_tell_first.Goals as goal

pub returns : goal.returns
returns c = record { law = texts_tell_first }
