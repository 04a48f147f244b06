use Rattle.std.proofs.Common.{rules, [], arith, IfErr, subst}
use Rattle.std.proofs.lemmas.Result.{err_from_is_err_and}
use Rattle.pm_tool.proofs.Unread.{consumes_none}
use Rattle.pm_tool.proofs.ReadWhole.{broken_unwritten}
use Rattle.pm_tool.proofs.Played.{talk_refused}
use Rattle.pm_tool.proofs.Talked.{session_said}
use Rattle.pm_tool.specs.Disks.{machine_at}
use Rattle.pm_tool.specs.Said.{BreaksOff}
use Rattle.pm_jobs.specs.Streams.{both}
use Rattle.pm_tool.proofs.talk.do_talk.Goals as goal

pub returns-in_err-machine-clause-broken : goal.returns-in_err-machine-clause-broken
returns-in_err-machine-clause-broken g c =
    let p = err_from_is_err_and c.from_residual.result c.from_residual.ensures.1 in
    rw (p.1, p.2) (broken_unwritten _ _ _ _ [] (consumes_none _) (c.requires.well.1, c.requires.well.0, omega arith))

pub returns-in_err-refuse_for-in-Err-clause-broken : goal.returns-in_err-refuse_for-in-Err-clause-broken
returns-in_err-refuse_for-in-Err-clause-broken g c =
    let r = c.from_residual-in_err-refuse_for-in-Err in
    let p = err_from_is_err_and r.result r.ensures.1 in
    rw (p.1, p.2) (broken_unwritten _ _ _ _ [] (consumes_none _) (c.requires.well.1, c.requires.well.0, omega arith))

pub returns-in-Err-clause-done : goal.returns-in-Err-clause-done
returns-in-Err-clause-done g c = talk_refused _ _ _ c.in-Err.none.refusal _ (search rules) c.in_ok-refuse_for-in-Err.ensures.outcome

pub returns-in_err-type_into-in-Session-clause-broken : goal.returns-in_err-type_into-in-Session-clause-broken
returns-in_err-type_into-in-Session-clause-broken g c =
    let r = c.from_residual-in_err-type_into-in-Session in
    let p = err_from_is_err_and r.result r.ensures.1 in
    rw (p.1, p.2) (broken_unwritten _ _ _ _ [] (consumes_none _) (c.requires.well.1, c.requires.well.0, omega arith))

pub returns-in_ok-type_into-in-Session-clause-broken : goal.returns-in_ok-type_into-in-Session-clause-broken
returns-in_ok-type_into-in-Session-clause-broken g c =
    subst (λ text. IfErr c.do_session.result (λ fault. BreaksOff (both (g.R.Source.seen c.args.source.now) (g.W.Sink.seen c.args.sink.now))
    (both (g.R.Source.seen c.do_session.new.source) (g.W.Sink.seen c.do_session.new.sink)) fault text))
    (session_said c.args.talk (machine_at c.args.start) c.in-Session.typed c.in-Ok.machine.state c.type_into.new.machine.state
    (search rules) (search rules) (search rules)) c.do_session.ensures.broken
