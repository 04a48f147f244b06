use Rattle.pm_machine.specs.State.{Whole}
use Rattle.std.proofs.Common.{rules, ap}
use Rattle.std.proofs.lemmas.Result.{err_from_is_err_and}
use Rattle.pm_tool.proofs.Talked.{cut_told, done_told, first_told, opened_is}
use Rattle.pm_tool.proofs.talk.do_session.Goals as goal

pub returns-in_err-converse-clause-broken : goal.returns-in_err-converse-clause-broken
returns-in_err-converse-clause-broken g c =
    let p = err_from_is_err_and c.from_residual.result c.from_residual.ensures.1 in
    let m = c.args.machine.state in
    rw (p.1, p.2) (cut_told _ _ _ m _ c.in_err-converse.ensures.cut
    (opened_is _ _ (ap (λ (m : Whole). m.state) c.new-debugger.ensures.machine) c.new-debugger.ensures.breaks c.new-debugger.ensures.watches
    c.new-debugger.ensures.left c.new-debugger.ensures.passes c.new-debugger.ensures.shows))

pub returns-in_err-converse-clause-prompt : goal.returns-in_err-converse-clause-prompt
returns-in_err-converse-clause-prompt g c =
    let p = err_from_is_err_and c.from_residual.result c.from_residual.ensures.1 in
    let m = c.args.machine.state in
    rw p.1 (λ failed. first_told _ _ _ m _ c.in_err-converse.ensures.cut
    (opened_is _ _ (ap (λ (m : Whole). m.state) c.new-debugger.ensures.machine) c.new-debugger.ensures.breaks c.new-debugger.ensures.watches
    c.new-debugger.ensures.left c.new-debugger.ensures.passes c.new-debugger.ensures.shows) failed)

pub returns-clause-done : goal.returns-clause-done
returns-clause-done g c =
    let m = c.args.machine.state in
    done_told _ _ _ m _ c.in_ok-converse.ensures.told
    (opened_is _ _ (ap (λ (m : Whole). m.state) c.new-debugger.ensures.machine) c.new-debugger.ensures.breaks c.new-debugger.ensures.watches
    c.new-debugger.ensures.left c.new-debugger.ensures.passes c.new-debugger.ensures.shows)
    (λ unread written. search rules)
