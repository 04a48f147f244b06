use Rattle.std.proofs.Common.{◌++◌, ◌∷◌, [], ◌∙◌, None, ap, append_assoc, arith}
use Rattle.pm_statements.specs.Files.{system_from}
use Rattle.pm_statements.proofs.Filed.{next_system}
use Rattle.pm_statements.proofs.sized.add_system.Goals as goal

pub loop-done-init : goal.loop-done-init
loop-done-init c = ap (λ cs. cs ++ system_from 1 255) c.in_ok-push.ensures.items
    ∙ append_assoc c.args.callees.now.items (None ∷ []) (system_from 1 255)

pub loop-done-preserved : goal.loop-done-preserved
loop-done-preserved c = next_system c.loop-done.done c.push-in-loop-done.new.self.items c.loop-done.callees.items _
    (omega (arith, c.loop-done-test.true))
    (c.in_ok-push-2.ensures.items ∙ ap (λ callee. c.loop-done.callees.items ++ callee ∷ []) c.system_callee.ensures.callee)
    c.loop-done.invariant
