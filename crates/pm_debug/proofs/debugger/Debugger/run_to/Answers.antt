use Rattle.std.proofs.Common.{rules}
use Rattle.pm_debug.proofs.OnLaws.{begins}
use Rattle.pm_debug.proofs.debugger.Debugger.run_to.Goals as goal

pub returns-clause-gone : goal.returns-clause-gone
returns-clause-gone c =
    begins _ _ _ _ _ c.deref.result.now c.deref-2.result.now c.self.inside.machine.state _ (search rules) (search rules) (search rules) (search rules)
    c.in_ok-ran.ensures.gone
