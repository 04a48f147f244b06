use Rattle.pm_statements.proofs.Stripped.{front_kept, front_stripped}
use Rattle.pm_statements.proofs.conditions.without_front.Goals as goal

pub returns-in-Some : goal.returns-in-Some
returns-in-Some c = record { rest = front_stripped c.args.front.now c.args.text.now c.in-Some.rest.now c.in-Some.ensures.cases }

pub returns-in-None : goal.returns-in-None
returns-in-None c = record { rest = front_kept c.args.front.now c.args.text.now c.in-None.ensures.cases }
