-- Segments and procedures as a text contains them, with labels instead of offsets, and the statements of their lines.
use Rattle.std.specs.Prelude.{◌≡◌, ℕ, ◌+◌, ◌%◌, Bool, true, false, List, [], ◌∷◌}
use Rattle.std.specs.Prelude.{◌++◌, length, map, if◌then◌else◌, Option, Some, nat_eq}
use Rattle.std.specs.List.{AllByRecursion, list_any, IsDistinct}
use Rattle.std.specs.Option.{option_to_list}
use Rattle.std.specs.Str.{bytes_eq}
use Rattle.pm_code.specs.Item.{Item}
use Rattle.pm_code.specs.Program.{end_of, entries_needed}

abbrev pub Name : Type 0
Name = List ℕ

-- A row of a procedure's code. It is a line with its number, and a label, items or both; or it is the position of the
-- exit code.
pub data Row : Type 0 where
  Items : ℕ → Option Name → List (Item Name) → Row
  Exit : Row

-- The statement that a line contains.
pub data Statement : Type 0 where
  -- The beginning of a segment: its number and its name.
  Segment : ℕ → Name → Statement
  -- The beginning of a procedure: its number, its level, and the sizes of its parameters and locals.
  Begin : ℕ → ℕ → ℕ → ℕ → Statement
  Code : Row → Statement
  -- An entry of the jump table: the number of the line, and the label.
  Entry : ℕ → Name → Statement
  End : Statement

-- A procedure of a text, with labels instead of offsets.
pub record Source : Type 0 where
  pub level : ℕ
  pub parameters : ℕ
  pub locals : ℕ
  pub code : List Row
  pub entries : List (ℕ × Name)

pub record SourceSegment : Type 0 where
  pub number : ℕ
  pub name : Name
  pub procedures : List Source

abbrev pub entry_statement : ℕ × Name → Statement
entry_statement entry = Entry entry.0 entry.1

-- The statements of the procedure `p` with the number `number`, except its end.
abbrev pub head_statements : ℕ → Source → List Statement
head_statements number p = Begin number p.level p.parameters p.locals ∷ map Code p.code ++ map entry_statement p.entries

abbrev pub statements_from : ℕ → List Source → List Statement
statements_from number [] = []
statements_from number (p ∷ ps) = head_statements number p ++ End ∷ statements_from (number + 1) ps

abbrev pub segment_statements : SourceSegment → List Statement
segment_statements s = Segment s.number s.name ∷ statements_from 1 s.procedures

abbrev pub statements : List SourceSegment → List Statement
statements [] = []
statements (s ∷ ss) = segment_statements s ++ statements ss

-- The labels that the rows of code define.
abbrev pub labels_of : List Row → List Name
labels_of [] = []
labels_of (Items line label items ∷ rows) = option_to_list label ++ labels_of rows
labels_of (Exit ∷ rows) = labels_of rows

abbrev pub row_items : Row → List (Item Name)
row_items (Items line label items) = items
row_items Exit = []

abbrev pub items_of : List Row → List (Item Name)
items_of [] = []
items_of (row ∷ rows) = row_items row ++ items_of rows

abbrev pub is_exit : Row → Bool
is_exit (Items line label items) = false
is_exit Exit = true

-- The number of rows that are the position of the exit code.
abbrev pub exits_of : List Row → ℕ
exits_of [] = 0
exits_of (row ∷ rows) = if is_exit row then 1 + exits_of rows else exits_of rows

-- The offset after the rows of code, the first of which is at offset `at`.
abbrev pub code_end : ℕ → List Row → ℕ
code_end at [] = at
code_end at (row ∷ rows) = code_end (end_of at (row_items row)) rows

-- The number of entries of the jump table that the jumps of the rows use.
abbrev pub entries_used : List Row → ℕ
entries_used rows = entries_needed (items_of rows)

-- States that a procedure is sound, before its labels are resolved. Each label is defined once, and the exit code has
-- one position. The length is even, and the number of jump entries is the number that the jumps use.
pub record IsSource (p : Source) : Type 0 where
  pub labels : IsDistinct bytes_eq (labels_of p.code)
  pub exit : exits_of p.code ≡ 1
  pub even : code_end 0 p.code % 2 ≡ 0
  pub used : length p.entries ≡ entries_used p.code

-- States that the segments have different numbers and that their procedures are sound.
abbrev pub AreSources : List SourceSegment → Type 0
AreSources ss =
    IsDistinct nat_eq (map (λ s. s.number) ss) × AllByRecursion (λ s. AllByRecursion IsSource s.procedures) ss

abbrev pub has_label : Name → Row → Bool
has_label name (Items line (Some label) items) = bytes_eq label name
has_label name _ = false

abbrev pub has_exit : Source → Bool
has_exit p = list_any is_exit p.code

abbrev pub has_label_in : Name → Source → Bool
has_label_in name p = list_any (has_label name) p.code
