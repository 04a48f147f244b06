use Rattle.std.proofs.Common.{true}
use Rattle.std.proofs.lemmas.Result.{err_from_is_err_and}
use Rattle.pm_tool.specs.Dis.{dis_product}
use Rattle.pm_tool.proofs.Batched.{batch_broken, batch_done}
use Rattle.pm_tool.proofs.ReadWhole.{broken_unwritten}
use Rattle.pm_tool.proofs.dis.do_dis.Goals as goal

pub returns-in_err-input-clause-broken : goal.returns-in_err-input-clause-broken
returns-in_err-input-clause-broken g c =
    let p = err_from_is_err_and c.from_residual.result c.from_residual.ensures.1 in
    let e = c.in_err-input.ensures.cause in
    rw (p.1, p.2) (broken_unwritten _ _ _ _ e.0 e.1 (rw c.requires.well.1 e.2))

pub returns-in_err-outcome-clause-broken : goal.returns-in_err-outcome-clause-broken
returns-in_err-outcome-clause-broken g c =
    let r = c.from_residual-in_err-outcome in
    let p = err_from_is_err_and r.result r.ensures.1 in
    rw (p.1, p.2) (batch_broken true _ _ c.in_ok-input.input.items (dis_product c.args.output) _ c.in_ok-input.ensures.all
    (rw c.deref.ensures.value at c.in_err-outcome.ensures.front) c.in_ok-input.ensures.well c.in_err-outcome.ensures.cause)

pub returns-clause-done : goal.returns-clause-done
returns-clause-done g c =
    batch_done true _ _ c.in_ok-input.input.items (dis_product c.args.output) _ c.in_ok-input.ensures.all
    (rw c.deref.ensures.value at c.in_ok-outcome.ensures.written) (rw c.deref.ensures.value at c.in_ok-outcome.ensures.outcome)
