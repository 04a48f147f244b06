-- The text file of a text: a header of 1,024 zeros, and then pages of 1,024 bytes. Each page contains whole lines and
-- is padded with zeros.
use Rattle.std.specs.Prelude.{◌≡◌, ◌==◌, ◌&&◌, ◌<◌, ◌≤◌, Bool, not, nat_lt, IsTrue, ℕ, ◌+◌, ◌-◌, List, [], ◌∷◌, ◌++◌}
use Rattle.std.specs.Prelude.{drop, length, replicate, take, Option, Some, None, true, if◌then◌else◌}
use Rattle.std.specs.List.{AllByRecursion, flat_map, list_all, prefix_len}
use Rattle.std.specs.Option.{option_or}
use Rattle.pm_textfile.specs.declared.fault.TextFault.{TextFault}
use Rattle.pm_textfile.specs.declared.fault.TextFault.TheVariants.{BadByte, LineTooLong}

-- A line of a text, without its line feed.
abbrev pub TextLine : Type 0
TextLine = List ℕ

-- A page of a file, as the list of its lines.
abbrev pub Page : Type 0
Page = List (List ℕ)

-- The lines after the character `c` is put before the first line.
abbrev pub with_front : ℕ → List TextLine → List TextLine
with_front c [] = (c ∷ []) ∷ []
with_front c (line ∷ lines) = (c ∷ line) ∷ lines

-- The lines of a text. The last line ends with a line feed or with the end of the text.
unfoldable pub text_lines : List ℕ → List TextLine
text_lines [] = []
text_lines (c ∷ cs) = if c == 10 then [] ∷ text_lines cs else with_front c (text_lines cs)

-- The length of the first line of `text`, without its line feed.
abbrev pub line_length : List ℕ → ℕ
line_length text = prefix_len (λ c. not (c == 10)) text

-- The line `line` with a line feed at its end.
abbrev pub ended : TextLine → List ℕ
ended line = line ++ 10 ∷ []

-- The text with a line feed at its end. If the text is empty, no line feed is added.
unfoldable pub completed : List ℕ → List ℕ
completed [] = []
completed (c ∷ []) = if c == 10 then c ∷ [] else c ∷ 10 ∷ []
completed (c ∷ d ∷ cs) = c ∷ completed (d ∷ cs)

-- Whether the byte `c` is stored unchanged in a file. This is true for all bytes except 0, 13 and 16.
abbrev pub stands_for_itself : ℕ → Bool
stands_for_itself c = not (c == 0) && not (c == 13) && not (c == 16)

-- The number of leading spaces of `line` that are encoded as an indentation: all of them, but at most 223.
unfoldable pub indentation : TextLine → ℕ
indentation line = prefix_len (λ c. c == 32) (take 223 line)

-- The encoded line: an indentation if `line` begins with a space, the other characters, and byte 13.
unfoldable pub coded : TextLine → List ℕ
coded line =
    if indentation line == 0 then line ++ 13 ∷ []
    else 16 ∷ (32 + indentation line) ∷ drop (indentation line) line ++ 13 ∷ []

-- The encoded lines of a page, joined.
abbrev pub page_lines : Page → List ℕ
page_lines page = flat_map coded page

-- The bytes of a page: its encoded lines, padded with zeros to 1,024 bytes.
abbrev pub page_bytes : Page → List ℕ
page_bytes page = page_lines page ++ replicate (1024 - length (page_lines page)) 0

-- States that consecutive pages, after a page with `room` free bytes, have no needless page breaks. The first line of
-- each page does not fit on the page before it. All lines of a page fit on it.
unfoldable pub AreTight : ℕ → List Page → Type 0
AreTight room [] = Unit {0}
AreTight room (page ∷ pages) =
    (room < length (page_lines (take 1 page))) × (length (page_lines page) ≤ 1024)
    × AreTight (1024 - length (page_lines page)) pages

-- States that `bytes` are a text file of `text`: the header, and pages with the lines of the text.
pub record Writes (text bytes : List ℕ) : Type 0 where
  pub plain : IsTrue (list_all stands_for_itself text)
  pub pages : List Page
  pub lines : text_lines text ≡ flat_map (λ page. page) pages
  pub tight : AreTight 0 pages
  pub layout : bytes ≡ replicate 1024 0 ++ flat_map page_bytes pages

-- The fault of `line`, which begins at position `place` of the text and has the number `number`. It is `BadByte` for
-- the first byte that cannot be stored, or else `LineTooLong` if the encoded line does not fit on a page.
unfoldable pub line_fault : ℕ → ℕ → TextLine → Option TextFault
line_fault place number line =
    if nat_lt (prefix_len stands_for_itself line) (length line) then Some
    (BadByte (place + prefix_len stands_for_itself line))
    else (if nat_lt 1024 (length (coded line)) then Some (LineTooLong number) else None)

-- The first fault of the lines, the first of which begins at position `place` and has the number `number`.
unfoldable pub lines_fault : ℕ → ℕ → List TextLine → Option TextFault
lines_fault place number [] = None
lines_fault place number (line ∷ lines) =
    option_or (line_fault place number line) (lines_fault (place + length line + 1) (number + 1) lines)

-- The first fault of a text. Positions are counted from 0, and lines from 1.
abbrev pub text_fault : List ℕ → Option TextFault
text_fault text = lines_fault 0 1 (text_lines text)

-- States that a file can contain `line`: each of its bytes can be stored, and the encoded line fits on a page.
pub record IsSoundLine (line : TextLine) : Type 0 where
  pub plain : list_all stands_for_itself line ≡ true
  pub fits : length (coded line) ≤ 1024

-- States that `fault` is the fault of the first line that a file cannot contain. The position of this line is the total
-- length of the lines before it, with their line feeds.
pub record IsFirstTextFault (text : List ℕ) (fault : TextFault) : Type 0 where
  pub before : List TextLine
  pub line : TextLine
  pub after : List TextLine
  pub lines : text_lines text ≡ before ++ line ∷ after
  pub sound : AllByRecursion IsSoundLine before
  pub there : line_fault (length (flat_map ended before)) (length before + 1) line ≡ Some fault
