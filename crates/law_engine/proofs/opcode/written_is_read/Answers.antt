use Rattle.law_engine.proofs.OpcodeLaws.{written_is_read}
use Rattle.law_engine.proofs.opcode.written_is_read.Goals as goal

pub returns : goal.returns
returns c = record { law = written_is_read }
