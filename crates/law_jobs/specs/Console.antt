-- Laws of what a session prints of the console output.
use Rattle.std.specs.Prelude.{◌≡◌, ℕ, Bool, true, false, List, [], ◌∷◌, ◌++◌, Option, Some, ⊤}
use Rattle.std.specs.List.{flat_map}
use Rattle.pm_debug.specs.Session.{Session}
use Rattle.pm_session.specs.declared.commands.Command.TheVariants as commands
use Rattle.pm_session.specs.Answers.{answer_text, session_after}
use Rattle.pm_session.specs.Orders.{Order, order_of}
use Rattle.pm_session.specs.Orders.Order.{Does}
use Rattle.pm_session.specs.Sessions.{answers, console_added, console_line, with_feed}

-- Returns whether the line is neither `quit` nor `console off`.
abbrev pub stays_on : Option Order → Bool
stays_on (Some (Does commands.Quit)) = false
stays_on (Some (Does (commands.ShowConsole shows))) = shows
stays_on other = true

abbrev pub StaysOn : List (List ℕ) → Type 0
StaysOn [] = ⊤
StaysOn (line ∷ lines) = (stays_on (order_of line) ≡ true) × StaysOn lines

-- Returns the session after the lines.
abbrev pub after_lines : List (List ℕ) → Session → Session
after_lines [] d = d
after_lines (line ∷ lines) d = after_lines lines (session_after (order_of line) d)

-- Returns, for each line, the bytes that its command writes to the console.
abbrev pub written_by : List (List ℕ) → Session → List (List ℕ)
written_by [] d = []
written_by (line ∷ lines) d =
    console_added (order_of line) d ∷ written_by lines (session_after (order_of line) d)

-- Returns, for each line, its answer and a line feed, without the console output.
abbrev pub answers_alone : List (List ℕ) → Session → List (List ℕ)
answers_alone [] d = []
answers_alone (line ∷ lines) d =
    with_feed (answer_text (order_of line) d) ∷ answers_alone lines (session_after (order_of line) d)

-- Returns the texts joined, each after a line with the console bytes that belong to it.
abbrev pub behind_console : List (List ℕ) → List (List ℕ) → List ℕ
behind_console [] texts = []
behind_console (part ∷ parts) [] = []
behind_console (part ∷ parts) (text ∷ texts) = (console_line part ++ text) ++ behind_console parts texts

-- The answer to each line is the answer of its command, after a line with the bytes that the command wrote to the
-- console. All these bytes, in order, are the bytes that the lines append to the console output.
pub record ShowsTheConsole (lines : List (List ℕ)) (d : Session) : Type 0 where
  pub answered : answers lines d ≡ behind_console (written_by lines d) (answers_alone lines d)
  pub whole : (after_lines lines d).machine.devices.console
      ≡ d.machine.devices.console ++ flat_map (λ part. part) (written_by lines d)

abbrev pub ConsoleIsShown : Type 0
ConsoleIsShown =
    (lines : List (List ℕ)) (d : Session) → d.shows_console ≡ true → StaysOn lines → ShowsTheConsole lines d
