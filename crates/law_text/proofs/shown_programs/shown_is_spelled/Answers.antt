use Rattle.law_text.proofs.ShownPrograms.{shown_is_spelled}
use Rattle.law_text.proofs.shown_programs.shown_is_spelled.Goals as goal

pub returns : goal.returns
returns c = record { law = shown_is_spelled }
