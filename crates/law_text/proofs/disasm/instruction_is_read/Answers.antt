use Rattle.pm_disasm.proofs.Read.{instruction_is_read}
use Rattle.law_text.proofs.disasm.instruction_is_read.Goals as goal

pub returns : goal.returns
returns c = record { law = instruction_is_read }
