-- Hints for lines with errors. A hint explains how to correct a line.
use Rattle.std.specs.Prelude.{ℕ, ◌%◌, ◌==◌, List, Option, Some, None, option_map, if◌then◌else◌}
use Rattle.std.specs.List.{list_all}
use Rattle.std.specs.Option.{unwrap_or}
use Rattle.pm_asm.specs.declared.hint.Hint as code
use Rattle.pm_asm.specs.declared.hint.Hint.TheVariants as codes
use Rattle.pm_asm.specs.Near.{meant}
use Rattle.pm_line.specs.Fronts.{Front, front_of, keyword_in}
use Rattle.pm_line.specs.Views.{keyword_seen}
use Rattle.pm_reader.specs.declared.counts.Counts.{Counts}
use Rattle.pm_source.specs.declared.fault.AsmFault.{AsmFault}
use Rattle.pm_source.specs.declared.fault.AsmFault.TheVariants.{Syntax, Unknown, Range, NoLabel}
use Rattle.pm_source.specs.declared.fault.AsmFault.TheVariants.{Twice, Far, TooLong, NoMemory}
use Rattle.pm_source.specs.Line.{Keyword, Line, is_character, line_of}
use Rattle.pm_source.specs.Line.Keyword.{OfEnd, OfBytes, Mnemonic}
use Rattle.pm_source.specs.Line.Line.{Blank, Wrong, Strange, Says}
use Rattle.pm_source.specs.Source.{Name}
use Rattle.pm_source.specs.Words.{is_name}

-- A hint for a line with a fault. Each constructor states what the text of the hint describes.
pub data Hint : Type 0 where
  -- The characters that are allowed in source text.
  Characters : Hint
  -- The syntax of a label.
  Labels : Hint
  -- What may follow a label.
  BeforeLabelled : Hint
  -- The operands of a mnemonic or a directive.
  Takes : Keyword → Hint
  -- Where a line with this keyword is allowed.
  Stands : Keyword → Hint
  -- The mnemonic or directive that is probably meant.
  Meant : Keyword → Hint
  -- What the first word of a line may be.
  Words : Hint
  -- The conditions for `.END`.
  Ended : Hint
  -- A procedure with an odd number of bytes: the number of the procedure, and its number of bytes.
  Odd : ℕ → ℕ → Hint
  -- A procedure with the wrong number of `.JUMP` lines. The fields are the number of the procedure, the number of its
  -- `.JUMP` lines, and the number of entries that its code uses.
  Counted : ℕ → ℕ → ℕ → Hint
  -- Every label that is used must be defined.
  Named : Hint
  -- What may occur only once, by the keyword of the line.
  Once : Keyword → Hint
  -- The range of a short jump, and how to jump to any label.
  Reached : Keyword → Hint

abbrev pub hint_seen : code.Hint → Hint
hint_seen codes.Characters = Characters
hint_seen codes.Labels = Labels
hint_seen codes.BeforeLabelled = BeforeLabelled
hint_seen (codes.Takes keyword) = Takes (keyword_seen keyword)
hint_seen (codes.Stands keyword) = Stands (keyword_seen keyword)
hint_seen (codes.Meant keyword) = Meant (keyword_seen keyword)
hint_seen codes.Words = Words
hint_seen codes.Ended = Ended
hint_seen (codes.Odd procedure bytes) = Odd procedure bytes
hint_seen (codes.Counted procedure entries taken) = Counted procedure entries taken
hint_seen codes.Named = Named
hint_seen (codes.Once keyword) = Once (keyword_seen keyword)
hint_seen (codes.Reached keyword) = Reached (keyword_seen keyword)

-- The hint for a malformed line with a valid label, by its keyword.
abbrev pub labelled_hint : Option Keyword → Option Hint
labelled_hint None = None
labelled_hint (Some OfBytes) = Some (Takes OfBytes)
labelled_hint (Some (Mnemonic op)) = Some (Takes (Mnemonic op))
labelled_hint (Some directive) = Some BeforeLabelled

-- The hint for a malformed line, by its label and its keyword.
abbrev pub ill_formed_hint : Option Name → Option Keyword → Option Hint
ill_formed_hint None keyword = option_map Takes keyword
ill_formed_hint (Some label) keyword = if is_name label then labelled_hint keyword else Some Labels

-- The hint for a line with a syntax fault. If the line is well-formed, it is not allowed at its position. A label
-- without a keyword is allowed where `.BYTE` is allowed.
abbrev pub syntax_hint : Front → Line → Option Hint
syntax_hint front (Says said flaw) = Some (Stands (unwrap_or (keyword_in front) OfBytes))
syntax_hint front Blank = None
syntax_hint front (Wrong end) = ill_formed_hint front.label (keyword_in front)
syntax_hint front Strange = None

-- The hint for a word that is neither a mnemonic nor a directive, by the keyword that it may mean.
abbrev pub word_hint : Option Keyword → Hint
word_hint None = Words
word_hint (Some keyword) = Meant keyword

-- The hint for a line with an unknown word. If the keyword of the line is known, the unknown word is its type word.
abbrev pub unknown_hint : List ℕ → Option Keyword → Hint
unknown_hint word None = word_hint (meant word)
unknown_hint word (Some keyword) = Takes keyword

abbrev pub range_hint : Option Keyword → Option Hint
range_hint None = None
range_hint (Some OfEnd) = Some Ended
range_hint (Some keyword) = Some (Takes keyword)

-- The hint for an `.END` that is rejected, from the counts of its procedure. An odd number of bytes has priority.
abbrev pub ended_hint : Counts → Hint
ended_hint counts = if counts.bytes % 2 == 0 then Counted counts.procedure counts.entries counts.taken
    else Odd counts.procedure counts.bytes

-- The hint for the line `text` with the given fault, or `None` if no hint exists for it.
unfoldable pub hint_of : AsmFault → List ℕ → Option Hint
hint_of (Syntax n) text =
    if list_all is_character text then syntax_hint (front_of text) (line_of 1 text) else Some Characters
hint_of (Unknown n) text = Some (unknown_hint (front_of text).word (keyword_in (front_of text)))
hint_of (Range n) text = range_hint (keyword_in (front_of text))
hint_of (NoLabel n) text = Some Named
hint_of (Twice n) text = Some (Once (unwrap_or (keyword_in (front_of text)) OfBytes))
hint_of (Far n) text = option_map Reached (keyword_in (front_of text))
hint_of (TooLong segment) text = None
hint_of NoMemory text = None
