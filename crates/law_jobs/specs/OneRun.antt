-- Laws of runs of a session that are continued by `on`.
use Rattle.std.specs.Prelude.{◌≡◌, ◌≤◌, ℕ, ◌+◌, Some, true, false}
use Rattle.pm_debug.specs.declared.refusal.DebugRefusal.TheVariants.{NothingLeft}
use Rattle.pm_debug.specs.Runs.{has_rest}
use Rattle.pm_debug.specs.Session.{Session}
use Rattle.pm_session.specs.declared.commands.Command.{Command}
use Rattle.pm_session.specs.declared.commands.Command.TheVariants as commands
use Rattle.pm_session.specs.Orders.Order.{Does}
use Rattle.pm_session.specs.Answers.{answer_text, session_after}
use Rattle.pm_session.specs.Texts.{refused_text}

-- `command a` followed by `on b` leaves the same session as `command (a + b)`, and the answer to `on b` is the answer
-- to `command (a + b)`.
pub record IsOneRun (command : ℕ → Command) (a b : ℕ) (d : Session) : Type 0 where
  pub session : session_after (Some (Does (commands.On b))) (session_after (Some (Does (command a))) d)
      ≡ session_after (Some (Does (command (a + b)))) d
  pub answer : answer_text (Some (Does (commands.On b))) (session_after (Some (Does (command a))) d)
      ≡ answer_text (Some (Does (command (a + b)))) d

-- If a run of `command` can be continued, then the run and its continuation by `on` are one run.
abbrev pub GoesOnAsOne : (ℕ → Command) → Type 0
GoesOnAsOne command =
    (a b : ℕ) (d : Session) → a + b ≤ 4294967295
    → has_rest (session_after (Some (Does (command a))) d).left ≡ true → IsOneRun command a b d

-- `on` is refused and changes nothing.
pub record IsRefused (n : ℕ) (d : Session) : Type 0 where
  pub session : session_after (Some (Does (commands.On n))) d ≡ d
  pub answer : answer_text (Some (Does (commands.On n))) d ≡ Some (refused_text NothingLeft)

-- If no run can be continued, then `on` is refused.
abbrev pub NothingGoesOn : Type 0
NothingGoesOn = (n : ℕ) (d : Session) → has_rest d.left ≡ false → IsRefused n d
