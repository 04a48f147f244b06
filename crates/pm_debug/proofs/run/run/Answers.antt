use Rattle.std.proofs.Common.{arith}
use Rattle.pm_debug.proofs.OnLaws.{gone_rest, within}
use Rattle.pm_debug.proofs.run.run.Goals as goal

pub overflow_add-result : goal.overflow_add-result
overflow_add-result c =
    let few = within _ _ _ _ _ _ c.in_ok-steps.ensures.run in
    let counted = c.requires.counts in
    omega (arith, few, counted)

pub returns-clause-gone : goal.returns-clause-gone
returns-clause-gone c = gone_rest _ _ _ _ _ _ _ _ c.in_ok-steps.ensures.run c.reason_of.ensures.reason

pub returns-clause-within : goal.returns-clause-within
returns-clause-within c =
    let few = within _ _ _ _ _ _ c.in_ok-steps.ensures.run in
    omega (arith, few)
