use Rattle.std.proofs.Common.{◌≡◌, string_bytes}
use Rattle.pm_session.specs.Orders.{order_of}
use Rattle.pm_session.proofs.SessionLaws.{is_answered}
use Rattle.pm_session.proofs.answers.answer.Goals as goal

pub returns-clause-going : goal.returns-clause-going
returns-clause-going c =
    is_answered (order_of c.args.line.now) _ (string_bytes c.in-Some.text) (rw c.in-Some.is at c.in_ok-text.ensures.text)
