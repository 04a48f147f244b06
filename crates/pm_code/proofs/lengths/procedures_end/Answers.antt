use Rattle.std.proofs.Common.{◌≡◌, ◌+◌, ◌<◌, ◌≤◌, ◌∙◌, arith, drop, map, refl, subst, sym, ap}
use Rattle.pm_code.specs.Program.{FollowFrom, procedures_end}
use Rattle.pm_code.specs.Views.{procedure_seen}
use Rattle.pm_code.proofs.Counted.{procedures_after}
use Rattle.pm_code.proofs.Lists.{there}
use Rattle.pm_code.proofs.lengths.procedures_end.Goals as goal

pub returns-in_err-end-clause-too_long : goal.returns-in_err-end-clause-too_long
returns-in_err-end-clause-too_long c =
    let next = there c.args.procedures.now c.loop-procedure.procedure-index c.procedure-item.result c.loop-procedure-test.true c.procedure-item.is in
    let follow = subst (λ ps. FollowFrom c.loop-procedure.end (map procedure_seen ps)) next c.loop-procedure.invariant.follow in
    let rest = map procedure_seen (drop (c.loop-procedure.procedure-index + 1) c.args.procedures.now) in
    let after = procedures_after _ rest follow.1 in
    let last = ap (λ ps. procedures_end c.loop-procedure.end (map procedure_seen ps)) (sym next) ∙ c.loop-procedure.invariant.last in
    let long = c.in_err-end.ensures.too_long refl in
    λ none. omega (arith, after, last, long)
