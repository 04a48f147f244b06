use Rattle.std.proofs.Common.{rules, arith}
use Rattle.std.proofs.lemmas.Bool.Decides.{nat_tests}
use Rattle.pm_session.proofs.WordLaws.{return_cut, return_none, return_empty}
use Rattle.pm_session.proofs.commands.without_return.Goals as goal

pub returns-then-last-eq13 : goal.returns-then-last-eq13
returns-then-last-eq13 c = record { line = return_cut _ _ c.in-Some.last.now (search rules) (search rules) }

pub returns-else-last-eq13 : goal.returns-else-last-eq13
returns-else-last-eq13 c = record { line = return_none _ c.in-Some.front.now c.in-Some.last.now (search rules) (grind (arith, nat_tests)) }

pub returns-in_default : goal.returns-in_default
returns-in_default c = record { line = return_empty _ (search rules) }
