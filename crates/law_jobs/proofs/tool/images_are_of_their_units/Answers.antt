use Rattle.law_jobs.proofs.RunImages.{images_are_of_their_units}
use Rattle.law_jobs.proofs.tool.images_are_of_their_units.Goals as goal

pub returns : goal.returns
returns c = record { law = images_are_of_their_units }
