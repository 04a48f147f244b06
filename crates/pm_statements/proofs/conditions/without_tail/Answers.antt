use Rattle.pm_statements.proofs.Stripped.{tail_kept, tail_stripped}
use Rattle.pm_statements.proofs.conditions.without_tail.Goals as goal

pub returns-in-Some : goal.returns-in-Some
returns-in-Some c = record { rest = tail_stripped c.args.tail.now c.args.text.now c.in-Some.rest.now c.in-Some.ensures.cases }

pub returns-in-None : goal.returns-in-None
returns-in-None c = record { rest = tail_kept c.args.tail.now c.args.text.now c.in-None.ensures.cases }
