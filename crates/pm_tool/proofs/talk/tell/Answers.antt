use Rattle.std.proofs.Common.{[], refl}
use Rattle.std.proofs.lemmas.Result.{err_from_is_err_and}
use Rattle.std.proofs.KnownBytes.{Appends-nil}
use Rattle.pm_tool.proofs.talk.tell.Goals as goal

pub returns-in_err-line-in-Trace-clause-front : goal.returns-in_err-line-in-Trace-clause-front
returns-in_err-line-in-Trace-clause-front g c =
    let r = c.from_residual in
    let p = err_from_is_err_and r.result r.ensures.1 in
    rw p.1 ([], Appends-nil _, (_, refl))

pub returns-clause-outcome : goal.returns-clause-outcome
returns-clause-outcome g c = λ shown unread. rw c.in-Console.is (c.in_ok-left_by_run-in-Console.ensures.outcome c.steps.ensures.value shown unread)
