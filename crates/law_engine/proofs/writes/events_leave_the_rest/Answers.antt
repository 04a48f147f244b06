use Rattle.law_engine.proofs.WriteLaws.{events_leave_the_rest}
use Rattle.law_engine.proofs.writes.events_leave_the_rest.Goals as goal

pub returns : goal.returns
returns c = record { law = events_leave_the_rest }
