use Rattle.std.proofs.lemmas.Result.{err_from_is_err_and}
use Rattle.pm_tool.proofs.Played.{broken_run, broken_telling, done_over}
use Rattle.pm_tool.proofs.talk.do_run.Goals as goal

pub returns-in_err-ending-clause-broken : goal.returns-in_err-ending-clause-broken
returns-in_err-ending-clause-broken g c =
    let p = err_from_is_err_and c.from_residual.result c.from_residual.ensures.1 in
    rw (p.1, p.2) (broken_run _ _ c.args.show c.args.limit _ _ c.in_err-ending.ensures.broken)

pub returns-in_err-outcome-clause-broken : goal.returns-in_err-outcome-clause-broken
returns-in_err-outcome-clause-broken g c =
    let r = c.from_residual-in_err-outcome in
    let p = err_from_is_err_and r.result r.ensures.1 in
    rw (p.1, p.2) (broken_telling _ _ _ c.args.show c.args.limit _ c.in_ok-ending.ending c.drive.new.machine.state c.in_ok-ending.ensures.over
    _ _ c.in_err-outcome.ensures.front c.in_ok-ending.ensures.well.0 c.in_err-outcome.ensures.cause)

pub returns-clause-done : goal.returns-clause-done
returns-clause-done g c =
    done_over _ _ _ c.args.show c.args.limit _ c.in_ok-ending.ending c.drive.new.machine.state c.in_ok-ending.ensures.over
    _ _ c.in_ok-outcome.ensures.written c.in_ok-outcome.ensures.outcome
