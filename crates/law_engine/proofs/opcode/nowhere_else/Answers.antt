use Rattle.law_engine.proofs.Nowhere.{nowhere_else}
use Rattle.law_engine.proofs.opcode.nowhere_else.Goals as goal

pub returns : goal.returns
returns c = record { law = nowhere_else }
