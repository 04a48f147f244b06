use Rattle.std.proofs.Common.{arith, ap, sym, ◌∙◌}
use Rattle.pm_machine.specs.Steps.{stepped}
use Rattle.pm_tool.proofs.QuickSteps.{quick_step_none, quick_step_went}
use Rattle.pm_tool.proofs.steps.next_step.Goals as goal

pub returns-then-quick_steps-eq1 : goal.returns-then-quick_steps-eq1
returns-then-quick_steps-eq1 g c = record { next = quick_step_went _ _ _ c.quick_steps.ensures.steps (omega arith) }

pub returns : goal.returns
returns g c = record {
  next = ap stepped (sym (quick_step_none _ _ _ c.quick_steps.ensures.steps (omega (arith, c.quick_steps.ensures.steps.within)))) ∙ c.in_ok-stop.ensures.step;
}
