-- The lines of the file LIST of a folder.
use Rattle.std.specs.Prelude.{ℕ, ◌+◌, ◌-◌, ◌*◌, ◌==◌, ◌&&◌, nat_le, List, [], ◌∷◌, Option, None, Some, codes}
use Rattle.std.specs.Prelude.{option_map}
use Rattle.std.specs.Prelude.{if◌then◌else◌}
use Rattle.std.specs.List.{slice_split}
use Rattle.std.specs.Str.{bytes_eq, is_utf8}
use Rattle.pm_folder.specs.declared.contents.How.{How}
use Rattle.pm_folder.specs.declared.contents.How.TheVariants as how
use Rattle.pm_import.specs.declared.listed.Listed as declared

-- ---- lines and fields

-- A byte in front of the first of two pieces.
abbrev pub prefixed : ℕ → Option (List ℕ × List ℕ) → Option (List ℕ × List ℕ)
prefixed b None = None
prefixed b (Some pieces) = Some (b ∷ pieces.0, pieces.1)

-- The bytes before the first byte `mark` and the bytes after it. There are no two pieces if no byte is `mark`.
abbrev pub cut : ℕ → List ℕ → Option (List ℕ × List ℕ)
cut mark [] = None
cut mark (b ∷ bytes) = if b == mark then Some ([], bytes) else prefixed b (cut mark bytes)

-- The bytes before the first byte `mark`, or all bytes if none is `mark`.
abbrev pub first_or_all : List ℕ → Option (List ℕ × List ℕ) → List ℕ
first_or_all bytes None = bytes
first_or_all bytes (Some pieces) = pieces.0

-- The same bytes, if they are UTF-8.
abbrev pub utf8_of : List ℕ → Option (List ℕ)
utf8_of bytes = if is_utf8 bytes then Some bytes else None

-- The lines of a text, without the line feeds that end them. After the last line feed, one more line follows.
abbrev pub lines_of : List ℕ → List (List ℕ)
lines_of text = slice_split (λ b. b == 10) text

-- ---- the values of fields

-- The value of a decimal digit.
abbrev pub digit_of : ℕ → Option ℕ
digit_of c = if nat_le 48 c && nat_le c 57 then Some (c - 48) else None

-- A kind from 10 to 15, by its second digit.
abbrev pub teen_kind : Option ℕ → Option ℕ
teen_kind None = None
teen_kind (Some d) = if nat_le d 5 then Some (10 + d) else None

-- A kind by its decimal number: one digit, or two digits from 10 to 15.
abbrev pub kind_number : List ℕ → Option ℕ
kind_number (c ∷ []) = digit_of c
kind_number (t ∷ c ∷ []) = if t == 49 then teen_kind (digit_of c) else None
kind_number _ = None

-- A kind by its word, or by its decimal number up to 15.
unfoldable pub kind_of : List ℕ → Option ℕ
kind_of text = if bytes_eq text (codes "none") then Some 0
    else if bytes_eq text (codes "badb") then Some 1
    else if bytes_eq text (codes "code") then Some 2
    else if bytes_eq text (codes "text") then Some 3
    else if bytes_eq text (codes "info") then Some 4
    else if bytes_eq text (codes "data") then Some 5
    else if bytes_eq text (codes "graf") then Some 6
    else if bytes_eq text (codes "foto") then Some 7
    else if bytes_eq text (codes "secd") then Some 8
    else kind_number text

-- The number that two digits write.
abbrev pub two_digits : Option ℕ → Option ℕ → Option ℕ
two_digits (Some t) (Some u) = Some (10 * t + u)
two_digits _ _ = None

-- The number that three digits write.
abbrev pub three_digits : Option ℕ → Option ℕ → Option ℕ → Option ℕ
three_digits (Some h) (Some t) (Some u) = Some (100 * h + (10 * t + u))
three_digits _ _ _ = None

-- The word of a date, whose year is at most 127, its month at most 15 and its day at most 31.
abbrev pub date_word : Option ℕ → Option ℕ → Option ℕ → Option ℕ
date_word (Some year) (Some month) (Some day) =
    if nat_le year 127 && (nat_le month 15 && nat_le day 31) then Some (512 * year + (16 * day + month)) else None
date_word _ _ _ = None

-- A date as the list of files shows it: three digits of the year, two of the month and two of the day, with hyphens.
unfoldable pub date_of : List ℕ → Option ℕ
date_of (y1 ∷ y2 ∷ y3 ∷ h1 ∷ m1 ∷ m2 ∷ h2 ∷ d1 ∷ d2 ∷ []) = if h1 == 45 && h2 == 45
    then date_word (three_digits (digit_of y1) (digit_of y2) (digit_of y3)) (two_digits (digit_of m1) (digit_of m2))
    (two_digits (digit_of d1) (digit_of d2)) else None
date_of _ = None

-- How a file is written in the folder.
abbrev pub how_of : List ℕ → Option How
how_of word = if bytes_eq word (codes "text") then Some how.Text
    else if bytes_eq word (codes "bytes") then Some how.Bytes else None

-- ---- the line of a file

-- What the line of a file states: its name in the folder, its name on the volume with escapes, its kind, its date, and
-- whether its text or its bytes were written.
pub record Listed : Type 0 where
  pub host : List ℕ
  pub name : List ℕ
  pub kind : ℕ
  pub date : ℕ
  pub how : How

-- What the line in the code is seen as.
abbrev pub seen : declared.Listed → Listed
seen l = record { host = l.host.now; name = l.name.now; kind = l.kind; date = l.date; how = l.how }

abbrev pub with_values : List ℕ → List ℕ → Option ℕ → Option ℕ → Option How → Option Listed
with_values host name (Some kind) (Some date) (Some how) =
    Some (record { host = host; name = name; kind = kind; date = date; how = how })
with_values host name _ _ _ = None

abbrev pub with_date : List ℕ → List ℕ → List ℕ → Option (List ℕ × List ℕ) → Option Listed
with_date host name kind None = None
with_date host name kind (Some date) =
    with_values host name (kind_of kind) (date_of date.0) (how_of (first_or_all date.1 (cut 9 date.1)))

abbrev pub with_kind : List ℕ → List ℕ → Option (List ℕ × List ℕ) → Option Listed
with_kind host name None = None
with_kind host name (Some kind) = with_date host name kind.0 (cut 9 kind.1)

abbrev pub with_name : List ℕ → Option (List ℕ × List ℕ) → Option Listed
with_name host None = None
with_name host (Some name) = with_kind host name.0 (cut 9 name.1)

abbrev pub with_text : Option (List ℕ) → List ℕ → Option Listed
with_text None rest = None
with_text (Some host) rest = with_name host (cut 9 rest)

abbrev pub with_host : Option (List ℕ × List ℕ) → Option Listed
with_host None = None
with_host (Some host) = with_text (utf8_of host.0) host.1

-- The line of a file: five fields with tabs between them. The first one is UTF-8. Further fields are ignored.
unfoldable pub listed_of : List ℕ → Option Listed
listed_of line = with_host (cut 9 line)

-- ---- the first line

abbrev pub after_cut : Option (List ℕ × List ℕ) → List ℕ
after_cut None = []
after_cut (Some pieces) = pieces.1

-- The bytes after the first space. None if there is no space.
abbrev pub after_space : List ℕ → List ℕ
after_space text = after_cut (cut 32 text)

-- The last date of the volume, in the first line. It is the fourth field, and spaces are between the fields.
abbrev pub last_date_in : List ℕ → Option ℕ
last_date_in line = date_of (after_space (after_space (after_space line)))
