use Rattle.law_jobs.proofs.RefusalLaws.{jumps_tell_first}
use Rattle.law_jobs.proofs.round_trip.jumps_tell_first.Goals as goal

pub returns : goal.returns
returns c = record { law = jumps_tell_first }
