use Rattle.std.proofs.KnownBytes.{Appends-nil}
use Rattle.pm_debug.specs.Session.{session_of}
use Rattle.pm_session.proofs.SessionLaws.{answer_quit}
use Rattle.pm_tool.proofs.debug.turn.Goals as goal

pub returns-in_default-clause-written : goal.returns-in_default-clause-written
returns-in_default-clause-written g c =
    rw (answer_quit c.args.line.now (session_of c.args.debugger.now) (rw c.in_default.is at c.in_ok-text.ensures.quit)) (Appends-nil _)
