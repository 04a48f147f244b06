use Rattle.std.proofs.Common.{rules}
use Rattle.pm_plan.proofs.Found.{found_below}
use Rattle.pm_plan.proofs.words.plan_asked.Goals as goal

pub returns-clause-asked : goal.returns-clause-asked
returns-clause-asked c = (
  c.in-Some.command.now,
  c.in-Some.words.now,
  found_below c.args.matches.now _ _ (search rules) (search rules),
  c.in_ok-plan.ensures.asked,
  c.in_ok-form.ensures.asked,
  c.is_quiet-is_quiet.ensures.value,
)
