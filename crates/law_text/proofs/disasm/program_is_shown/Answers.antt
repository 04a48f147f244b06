use Rattle.law_text.proofs.ShownFile.{program_is_shown}
use Rattle.law_text.proofs.disasm.program_is_shown.Goals as goal

pub returns : goal.returns
returns c = record { law = program_is_shown }
