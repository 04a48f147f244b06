-- The orders of the debugger. An order is what a line requests: a command, or bytes for the console input queue.
use Rattle.std.specs.Prelude.{ℕ, List, reverse, Option, Some, None, option_map, codes}
use Rattle.std.specs.Option.{option_and_then}
use Rattle.pm_disasm.specs.Shown.{cut}
use Rattle.pm_notes.specs.Names.{behind}
use Rattle.pm_source.specs.Line.{text_operand}
use Rattle.pm_session.specs.declared.commands.Command.{Command}
use Rattle.pm_session.specs.Commands.{command_of}
use Rattle.pm_session.specs.Words.{without_return}

-- An order of a line: a command, or bytes for the console input queue.
pub data Order : Type 0 where
  Does : Command → Order
  Types : List ℕ → Order

-- The text without the spaces at both ends.
abbrev pub between_spaces : List ℕ → List ℕ
between_spaces cs = reverse (cut (reverse (cut cs)))

-- The bytes that `line` appends to the console input queue if it is a `type` line, else `None`. A `type` line is
-- `type`, at least one space, and a string in the form that the assembler accepts.
unfoldable pub typed : List ℕ → Option (List ℕ)
typed line =
    option_and_then (λ text. text_operand (between_spaces text)) (behind (codes "type ") (cut (without_return line)))

abbrev pub typed_or : Option (List ℕ) → Option Command → Option Order
typed_or (Some bytes) command = Some (Types bytes)
typed_or None command = option_map Does command

-- The order of `line`, which is given without its line feed; `None` if the line is invalid.
abbrev pub order_of : List ℕ → Option Order
order_of line = typed_or (typed line) (command_of line)
