use Rattle.std.proofs.Common.{refl, sym}
use Rattle.std.proofs.lemmas.Result.{err_from_is_err_and}
use Rattle.law_headline.proofs.Played.{is_cut, one_played}
use Rattle.law_headline.proofs.action.play.Goals as goal

pub loop-action-init : goal.loop-action-init
loop-action-init c = record {
  all = sym c.into_iter-action-iterator.ensures.into_iter_gives.0;
  state = refl;
}

pub loop-action-preserved : goal.loop-action-preserved
loop-action-preserved c =
    one_played c.args.machine.now.state c.loop-action.machine.state _ c.args.actions.items c.loop-action.yielded _ _ c.in-Some.action
    c.loop-action.invariant c.in-Some.ensures.steps.0 c.in_ok-act.ensures.event

pub returns-in_err-act-clause-cut : goal.returns-in_err-act-clause-cut
returns-in_err-act-clause-cut c =
    let p = err_from_is_err_and c.from_residual.result c.from_residual.ensures.1 in
    rw (p.1, c.in_err-act.ensures.unchanged) (is_cut c.args.machine.now.state c.loop-action.machine.state c.args.actions.items
    c.loop-action.yielded _ _ c.in-Some.action c.loop-action.invariant c.in-Some.ensures.steps.0)
