-- The position at which a line with an error is marked, and the line with the mark below it.
use Rattle.std.specs.Prelude.{◌≡◌, ℕ, ◌+◌, ◌==◌, ◌||◌, Bool, false, not, List, [], ◌∷◌, ◌++◌, Option, Some, None}
use Rattle.std.specs.Prelude.{codes, length, map, drop, position, take, if◌then◌else◌}
use Rattle.pm_asm.specs.declared.mark.Stop.{Stop}
use Rattle.pm_asm.specs.declared.mark.Stop.TheVariants as stop
use Rattle.pm_asm.specs.Hints.{Hint}
use Rattle.pm_asm.specs.Hints.Hint.{Characters, Labels, BeforeLabelled, Takes, Stands, Meant, Words, Ended, Named}
use Rattle.pm_asm.specs.Hints.Hint.{Once, Reached, Odd, Counted}
use Rattle.pm_line.specs.Fronts.{front_of}
use Rattle.pm_source.specs.Line.{is_character}
use Rattle.pm_source.specs.Line.Keyword.{OfSegment, Mnemonic}
use Rattle.pm_source.specs.Source.{Name}
use Rattle.pm_source.specs.Words.{is_blank}

-- A position is the number of characters before it.

-- Is true if the character `c` is in the given set. Three sets exist:
--
-- - `Solid`: all characters except space and tab,
-- - `WordEnd`: the characters that end a word, which are space, tab, and the beginning of a comment,
-- - `Strange`: the characters that are not allowed in source text.
abbrev pub stops : Stop → ℕ → Bool
stops stop.Solid c = not (is_blank c)
stops stop.WordEnd c = is_blank c || (c == 59)
stops stop.Strange c = not (is_character c)

-- The position `count` characters after `at`, or `end` if no count is given.
abbrev pub place_at : ℕ → ℕ → Option ℕ → ℕ
place_at at end None = end
place_at at end (Some count) = at + count

-- The position of the first character of `text` that is in the set `s` and not before `at`, or the length of `text`.
abbrev pub place_from : Stop → List ℕ → ℕ → ℕ
place_from s text at = place_at at (length text) (position (stops s) (drop at text))

-- The position of the first word of the line `text`.
abbrev pub first_place : List ℕ → ℕ
first_place text = place_from stop.Solid text 0

-- The position of the mnemonic or directive, which follows the label if the line has a label.
abbrev pub place_behind : List ℕ → Option Name → ℕ
place_behind text None = first_place text
place_behind text (Some label) = place_from stop.Solid text (place_from stop.WordEnd text (first_place text))

abbrev pub word_place : List ℕ → ℕ
word_place text = place_behind text (front_of text).label

-- Is true if the text has a first character, and it does not begin a comment.
abbrev pub has_more : List ℕ → Bool
has_more [] = false
has_more (c ∷ cs) = not (c == 59)

-- The position of the text after the word that ends at `end`, or `end` if no text follows.
abbrev pub place_after : List ℕ → ℕ → ℕ
place_after text end =
    if has_more (drop (place_from stop.Solid text end) text) then place_from stop.Solid text end else end

-- The position of the operands, or the position after the mnemonic or directive if the line has no operands.
abbrev pub operands_place : List ℕ → ℕ
operands_place text = place_after text (place_from stop.WordEnd text (word_place text))

-- The position at which the line `text` is marked for a hint: the character, the first word, the keyword or the
-- operands that the hint describes. Without a hint, it is the position of the first word.
unfoldable pub mark_of : Option Hint → List ℕ → ℕ
mark_of None text = first_place text
mark_of (Some Characters) text = place_from stop.Strange text 0
mark_of (Some Labels) text = first_place text
mark_of (Some BeforeLabelled) text = word_place text
mark_of (Some (Takes keyword)) text = operands_place text
mark_of (Some (Stands keyword)) text = first_place text
mark_of (Some (Meant keyword)) text = word_place text
mark_of (Some Words) text = word_place text
mark_of (Some Ended) text = word_place text
mark_of (Some (Odd procedure bytes)) text = word_place text
mark_of (Some (Counted procedure entries taken)) text = word_place text
mark_of (Some Named) text = operands_place text
mark_of (Some (Once OfSegment)) text = operands_place text
mark_of (Some (Once keyword)) text = first_place text
mark_of (Some (Reached keyword)) text = operands_place text

-- The character that is printed below the character `c`, which precedes the mark. It is a tab below a tab, so that both
-- lines are aligned.
abbrev pub below : ℕ → ℕ
below c = if c == 9 then 9 else 32

-- The line that is printed below `text`, with the mark `^` (character 94) at position `place`.
unfoldable pub mark_line : List ℕ → ℕ → List ℕ
mark_line text place = map below (take place text) ++ 94 ∷ []

-- States positions of marks that were worked out by hand.
pub record WorkedMarks : Type 0 where
  -- The mark is below the first operand, also after a label and spaces. Without operands, it follows the mnemonic.
  pub operands : mark_of (Some (Takes (Mnemonic 205))) (codes "CXP 2 1") ≡ 4
  pub behind_label : mark_of (Some (Takes (Mnemonic 130))) (codes "L:  ADI 5") ≡ 8
  pub without_operands : mark_of (Some (Takes (Mnemonic 120))) (codes " SIND") ≡ 5
  pub comment : mark_of (Some (Takes (Mnemonic 161))) (codes "FJP ; where?") ≡ 3
  pub comment_at_once : mark_of (Some (Takes (Mnemonic 161))) (codes "FJP;") ≡ 3
  pub label : mark_of (Some Labels) (codes " 1L: NOP") ≡ 1
  pub labelled : mark_of (Some BeforeLabelled) (codes "L: .EXIT") ≡ 3
  pub word : mark_of (Some Words) (codes "  LOOP NOP") ≡ 2
  pub word_behind_label : mark_of (Some (Meant (Mnemonic 215))) (codes "A1: nop") ≡ 4
  pub line : mark_of (Some (Stands (Mnemonic 215))) (codes " L: NOP") ≡ 1
  pub number : mark_of (Some (Once OfSegment)) (codes ".SEG 1 U") ≡ 5
  pub again : mark_of (Some (Once (Mnemonic 215))) (codes "L: NOP") ≡ 0
  pub end : mark_of (Some (Odd 2 5)) (codes " .END") ≡ 1
  pub strange : mark_of (Some Characters) (78 ∷ 79 ∷ 9 ∷ 127 ∷ 80 ∷ []) ≡ 3
  pub unknown : mark_of None (codes "  x") ≡ 2
  pub blanks : mark_line (codes "CXP 2 1") 4 ≡ codes "    ^"
  pub tabs : mark_line (9 ∷ 88 ∷ 9 ∷ 89 ∷ []) 3 ≡ 9 ∷ 32 ∷ 9 ∷ 94 ∷ []
  pub at_once : mark_line (codes "NOP") 0 ≡ codes "^"
