use Rattle.law_engine.proofs.OpcodeLaws.{none_begins_another}
use Rattle.law_engine.proofs.opcode.none_begins_another.Goals as goal

pub returns : goal.returns
returns c = record { law = none_begins_another }
