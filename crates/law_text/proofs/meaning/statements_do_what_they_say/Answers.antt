use Rattle.law_text.proofs.MeaningLaws.{statements_do_what_they_say}
use Rattle.law_text.proofs.meaning.statements_do_what_they_say.Goals as goal

pub returns : goal.returns
returns c = record { law = statements_do_what_they_say }
