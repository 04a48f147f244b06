use Rattle.law_jobs.proofs.ShownAgain.{assembled_is_shown_again}
use Rattle.law_jobs.proofs.round_trip.assembled_is_shown_again.Goals as goal

pub returns : goal.returns
returns c = record { law = assembled_is_shown_again }
