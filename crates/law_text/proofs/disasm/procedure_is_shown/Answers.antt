use Rattle.law_text.proofs.LeastCount.{procedure_is_shown}
use Rattle.law_text.proofs.disasm.procedure_is_shown.Goals as goal

pub returns : goal.returns
returns c = record { law = procedure_is_shown }
