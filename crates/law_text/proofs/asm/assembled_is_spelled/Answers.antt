use Rattle.pm_asm.proofs.Outcomes.{assembled_is_spelled}
use Rattle.law_text.proofs.asm.assembled_is_spelled.Goals as goal

pub returns : goal.returns
returns c = record { law = assembled_is_spelled }
