-- Laws of texts that are typed in a session with `type`.
use Rattle.std.specs.Prelude.{◌≡◌, ◌==◌, ⊤, ℕ, false, List, [], ◌∷◌, ◌++◌, Ok, Some, codes}
use Rattle.pm_machine.specs.State.{State}
use Rattle.pm_debug.specs.Session.{Session}
use Rattle.pm_session.specs.Orders.{order_of}
use Rattle.pm_session.specs.Orders.Order.{Types}
use Rattle.pm_session.specs.Answers.{answer_text, session_after}
use Rattle.pm_tool.specs.Said.{debugged, said_debug}

-- `type "AB"` leaves the same session as `key 65` followed by `key 66`, and has the same answer as each of them.
pub record IsTwoKeys (d : Session) : Type 0 where
  pub session : session_after (order_of (codes "type \"AB\"")) d
      ≡ session_after (order_of (codes "key 66")) (session_after (order_of (codes "key 65")) d)
  pub first : answer_text (order_of (codes "type \"AB\"")) d ≡ answer_text (order_of (codes "key 65")) d
  pub second : answer_text (order_of (codes "type \"AB\"")) d ≡ answer_text (order_of (codes "key 66")) d

abbrev pub TypesAreKeys : Type 0
TypesAreKeys = (d : Session) → IsTwoKeys d

-- The line contains no line feed.
abbrev pub IsOneLine : List ℕ → Type 0
IsOneLine [] = ⊤
IsOneLine (c ∷ line) = ((c == 10) ≡ false) × IsOneLine line

-- If the first line of a session is a `type`, then its answer is `ok`. The other answers are those of a session whose
-- console input queue contains the bytes of the text at the start.
abbrev pub InputIsTyped : Type 0
InputIsTyped = (typed line input : List ℕ) (machine : State) → IsOneLine line → order_of line ≡ Some (Types typed)
    → (debugged machine (line ++ 10 ∷ input)).written
    ≡ codes "ok" ++ 10 ∷ (said_debug typed (Ok machine) input).written
