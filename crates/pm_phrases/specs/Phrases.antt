-- The text of an operation applied to its operands.
use Rattle.std.specs.Prelude.{ℕ, Bool, List, ◌++◌, Option, Some, None}
use Rattle.std.specs.Option.{option_or}
use Rattle.pm_code.specs.Item.{Item}
use Rattle.pm_phrases.specs.declared.around.Around.{Around}
use Rattle.pm_phrases.specs.declared.around.Missing.{Missing}
use Rattle.pm_phrases.specs.Calls.{called}
use Rattle.pm_phrases.specs.Counts.{by_count, operation_in}
use Rattle.pm_phrases.specs.Literals.{words_in}
use Rattle.pm_phrases.specs.Missing.{stand_ins}
use Rattle.pm_phrases.specs.declared.operand.Form.TheVariants as form
use Rattle.pm_phrases.specs.Shown.{Shown, braced}

-- The special text of `item` with these operands, or `None` if it has none. A call has any number of operands.
unfoldable pub template : Around → Item ℕ → List Shown → Option Shown
template around item operands = option_or (called (operation_in item) operands) (by_count around item operands)

-- The given text if it exists. Otherwise `item` in braces as in the disassembly, followed by its operands.
abbrev pub or_braced : Item ℕ → List Shown → Option Shown → Shown
or_braced item operands (Some s) = s
or_braced item operands None = record {
  text = braced item operands;
  form = form.Value 9;
  words = words_in item;
}

-- The text of `item` applied to `operands`, the first one first. Stand-ins for `missing` precede the operands. If the
-- input is not known (`known` is false), the only stand-in is `?`.
unfoldable pub phrase_of : Around → Item ℕ → Bool → Missing → List Shown → Shown
phrase_of around item known missing operands =
    let all = stand_ins known missing ++ operands in or_braced item all (template around item all)
