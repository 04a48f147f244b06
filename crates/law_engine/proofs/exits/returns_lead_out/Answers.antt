use Rattle.law_engine.proofs.ExitReturns.{returns_lead_out}
use Rattle.law_engine.proofs.exits.returns_lead_out.Goals as goal

pub returns : goal.returns
returns c = record { law = returns_lead_out }
