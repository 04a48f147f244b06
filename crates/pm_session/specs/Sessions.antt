-- The session of a debugger: the answers to the lines of its input, up to `quit` or the end of the input.
use Rattle.std.specs.Prelude.{◌==◌, ℕ, ◌+◌, Bool, true, false, List, [], ◌∷◌, ◌++◌, drop}
use Rattle.std.specs.Prelude.{length, reverse, Option, Some, None, if◌then◌else◌, codes}
use Rattle.pm_machine.specs.State.{State}
use Rattle.pm_code.specs.Text.{quoted}
use Rattle.pm_debug.specs.Runs.Left.{Nothing}
use Rattle.pm_debug.specs.Session.{Session}
use Rattle.pm_session.specs.declared.commands.Command.TheVariants as commands
use Rattle.pm_session.specs.Orders.{Order, order_of}
use Rattle.pm_session.specs.Orders.Order.{Does}
use Rattle.pm_session.specs.Words.{lines_of_input}
use Rattle.pm_session.specs.Answers.{session_after, answer_text}

-- Is true if the order of a line is `quit`, which ends a session.
abbrev pub is_quit : Option Order → Bool
is_quit (Some (Does commands.Quit)) = true
is_quit other = false

abbrev pub with_feed : Option (List ℕ) → List ℕ
with_feed None = []
with_feed (Some text) = text ++ 10 ∷ []

-- The line that shows these console bytes, in the form of `console N`. It is empty if no bytes are given.
abbrev pub console_line : List ℕ → List ℕ
console_line [] = []
console_line (b ∷ bytes) = codes "console " ++ (quoted (b ∷ bytes) ++ 10 ∷ [])

-- The bytes that the order of a line writes to the console.
abbrev pub console_added : Option Order → Session → List ℕ
console_added order d =
    drop (length d.machine.devices.console) (session_after order d).machine.devices.console

-- The text before the answer to a line: the console bytes that its order writes, if `console on` was executed, else
-- nothing.
abbrev pub console_shown : Option Order → Session → List ℕ
console_shown order d = if d.shows_console then console_line (console_added order d) else []

-- The answer to a line with its line feed, preceded by the console bytes that are shown. `quit` has no answer.
abbrev pub answer_line : Option Order → Session → List ℕ
answer_line order d = console_shown order d ++ with_feed (answer_text order d)

-- The answers to these lines, up to the first `quit`.
unfoldable pub answers : List (List ℕ) → Session → List ℕ
answers [] d = []
answers (line ∷ lines) d =
    if is_quit (order_of line) then [] else answer_line (order_of line) d
    ++ answers lines (session_after (order_of line) d)

-- The part of `input`, which has these lines, after the first `quit`.
unfoldable pub behind_quit : List (List ℕ) → List ℕ → List ℕ
behind_quit [] input = input
behind_quit (line ∷ lines) input =
    if is_quit (order_of line) then drop (length line + 1) input else behind_quit lines (drop (length line + 1) input)

-- A session of a debugger without breakpoints and watched words. It has executed no run and does not show the console.
abbrev pub opened : State → Session
opened machine =
    record { machine = machine; breaks = []; watches = []; left = Nothing; passes = 0; shows_console = false }

-- The answers to an input, and the part of the input that was not read.
pub record Told : Type 0 where
  pub text : List ℕ
  pub unread : List ℕ

unfoldable pub told : List ℕ → Session → Told
told input d = record { text = answers (lines_of_input input) d; unread = behind_quit (lines_of_input input) input }

-- The part of a text in reverse order from its first line feed on.
unfoldable pub from_feed : List ℕ → List ℕ
from_feed [] = []
from_feed (c ∷ text) = if c == 10 then c ∷ text else from_feed text

-- The part of `text` up to its last line feed.
unfoldable pub whole_lines : List ℕ → List ℕ
whole_lines text = reverse (from_feed (reverse text))
