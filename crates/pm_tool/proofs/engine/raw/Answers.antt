use Rattle.std.proofs.lemmas.Result.{err_from_is_err_and}
use Rattle.pm_tool.proofs.ReadWhole.{broken_unwritten, raw_done, raw_broken}
use Rattle.pm_tool.proofs.engine.raw.Goals as goal

pub returns-in_err-text-clause-broken : goal.returns-in_err-text-clause-broken
returns-in_err-text-clause-broken g c =
    let p = err_from_is_err_and c.from_residual.result c.from_residual.ensures.1 in
    let e = c.in_err-text.ensures.cause in
    rw (p.1, p.2) (broken_unwritten _ _ _ _ e.0 e.1 (rw c.requires.well.1 e.2))

pub returns-in_err-outcome-clause-broken : goal.returns-in_err-outcome-clause-broken
returns-in_err-outcome-clause-broken g c =
    let r = c.from_residual-in_err-outcome in
    let p = err_from_is_err_and r.result r.ensures.1 in
    rw (p.1, p.2) (raw_broken _ _ c.in_ok-text.text.items c.in_ok-text.ensures.all c.args.selection c.args.limit
    _ c.in_ok-text.ensures.well c.in_err-outcome.ensures.broken)

pub returns-clause-done : goal.returns-clause-done
returns-clause-done g c =
    raw_done _ _ c.in_ok-text.text.items c.in_ok-text.ensures.all c.args.selection c.args.limit _ c.in_ok-outcome.ensures.done
