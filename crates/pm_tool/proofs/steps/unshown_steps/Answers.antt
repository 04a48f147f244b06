use Rattle.pm_tool.proofs.QuickSteps.{unshown_none}
use Rattle.pm_tool.proofs.steps.unshown_steps.Goals as goal

pub returns-in-Trace : goal.returns-in-Trace
returns-in-Trace g c = record { unshown = rw c.in-Trace.is (unshown_none _ c.args.limit c.args.machine.now.state) }
