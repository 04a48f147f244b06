use Rattle.law_jobs.proofs.Round.{shown_file_is_spelled}
use Rattle.law_jobs.proofs.round_trip.shown_file_is_spelled.Goals as goal

pub returns : goal.returns
returns c = record { law = shown_file_is_spelled }
