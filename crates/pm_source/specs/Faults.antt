-- The faults of a text, in the order of its lines. A line contains a statement: the beginning of a segment or
-- procedure, code, a jump entry, or the end of a procedure.
use Rattle.std.specs.Prelude.{ℕ, ◌+◌, ◌*◌, ◌%◌, Bool, true, false, not, List, [], ◌∷◌, ◌++◌, length, nat_lt}
use Rattle.std.specs.Prelude.{◌==◌, ◌||◌, ◌&&◌, if◌then◌else◌, Option, Some, None, is_none, is_some}
use Rattle.std.specs.List.{list_any}
use Rattle.std.specs.Str.Lines.{lines}
use Rattle.pm_code.specs.Item.{Item, Target, size, table_place}
use Rattle.pm_code.specs.Item.Item.{Jump, Case}
use Rattle.pm_code.specs.Item.Target.{To, Through}
use Rattle.pm_code.specs.Program.{end_of}
use Rattle.pm_source.specs.declared.fault.AsmFault.{AsmFault}
use Rattle.pm_source.specs.declared.fault.AsmFault.TheVariants.{Syntax, Unknown, Range, NoLabel, Twice, Far}
use Rattle.pm_source.specs.Words.{is_empty}
use Rattle.pm_source.specs.Source.{Name, Row, Statement, Source, SourceSegment, code_end}
use Rattle.pm_source.specs.Source.{entries_used, has_exit, has_label, has_label_in, row_items}
use Rattle.pm_source.specs.Source.Row.{Items, Exit}
use Rattle.pm_source.specs.Source.Statement.{Segment, Begin, Code, Entry, End}
use Rattle.pm_source.specs.Line.{Flaw, Line, line_of}
use Rattle.pm_source.specs.Line.Flaw.{OutOfRange, UnknownType}
use Rattle.pm_source.specs.Line.Line.{Blank, Wrong, Strange, Says}

-- The state after some lines were read: the segments with their complete procedures, and the procedure that has begun
-- and has not ended.
pub record Reading : Type 0 where
  pub segments : List SourceSegment
  pub current : Option Source

abbrev pub start : Reading
start = record { segments = []; current = None }

-- The segments after the procedure `p` is appended to the last of them.
abbrev pub with_procedure : Source → List SourceSegment → List SourceSegment
with_procedure p [] = []
with_procedure p (s ∷ []) = record s { procedures = s.procedures ++ p ∷ [] } ∷ []
with_procedure p (s ∷ t ∷ ss) = s ∷ with_procedure p (t ∷ ss)

-- The number of procedures of the last segment.
abbrev pub procedure_count : List SourceSegment → ℕ
procedure_count [] = 0
procedure_count (s ∷ []) = length s.procedures
procedure_count (s ∷ t ∷ ss) = procedure_count (t ∷ ss)

abbrev pub after_code : Row → Source → Source
after_code row p = record p { code = p.code ++ row ∷ [] }

abbrev pub after_entry : ℕ → Name → Source → Source
after_entry line name p = record p { entries = p.entries ++ (line, name) ∷ [] }

abbrev pub in_open : (Source → Source) → Option Source → Option Source
in_open f None = None
in_open f (Some p) = Some (f p)

abbrev pub closed : List SourceSegment → Option Source → Reading
closed segments None = record { segments = segments; current = None }
closed segments (Some p) = record { segments = with_procedure p segments; current = None }

abbrev pub new_segment : ℕ → Name → SourceSegment
new_segment number name = record { number = number; name = name; procedures = [] }

abbrev pub new_procedure : ℕ → ℕ → ℕ → Source
new_procedure level parameters locals =
    record { level = level; parameters = parameters; locals = locals; code = []; entries = [] }

-- The state after one more statement is read in the state `r`.
abbrev pub after : Reading → Statement → Reading
after r (Segment number name) = record r { segments = r.segments ++ new_segment number name ∷ [] }
after r (Begin number level parameters locals) = record r { current = Some (new_procedure level parameters locals) }
after r (Code row) = record r { current = in_open (after_code row) r.current }
after r (Entry line name) = record r { current = in_open (after_entry line name) r.current }
after r End = closed r.segments r.current

abbrev pub if_open : (Source → Bool) → Option Source → Bool
if_open f None = false
if_open f (Some p) = f p

-- Whether a statement is allowed in the state `r`:
-- - a segment outside a procedure;
-- - the beginning of a procedure in a segment and outside another procedure;
-- - code in a procedure that has no jump entries yet;
-- - a jump entry in a procedure;
-- - the end of a procedure after its exit code.
abbrev pub is_in_place : Reading → Statement → Bool
is_in_place r (Segment number name) = is_none r.current
is_in_place r (Begin number level parameters locals) = is_none r.current && not (is_empty r.segments)
is_in_place r (Code row) = if_open (λ p. is_empty p.entries) r.current
is_in_place r (Entry line name) = is_some r.current
is_in_place r End = if_open has_exit r.current

-- Whether a statement defines a slot, a label of the procedure, or the exit code again. If the slot number of a segment
-- was out of range, it is 16, and the segment defines no slot.
abbrev pub is_again : Reading → Statement → Bool
is_again r (Segment number name) = nat_lt number 16 && list_any (λ s. s.number == number) r.segments
is_again r (Code (Items line (Some label) items)) = if_open (has_label_in label) r.current
is_again r (Code Exit) = if_open has_exit r.current
is_again r _ = false

-- Whether the procedure `p` has an odd length, or has another number of jump entries than its jumps use.
abbrev pub is_uneven : Source → Bool
is_uneven p = not (code_end 0 p.code % 2 == 0) || not (length p.entries == entries_used p.code)

-- Whether a statement has a wrong count. A procedure begins with a number that is not the next one. Or a procedure ends
-- with an odd length, or with a wrong number of jump entries.
abbrev pub is_miscounted : Reading → Statement → Bool
is_miscounted r (Begin number level parameters locals) =
    is_none r.current && not (number == procedure_count r.segments + 1)
is_miscounted r End = if_open is_uneven r.current
is_miscounted r _ = false

abbrev pub is_end : Statement → Bool
is_end End = true
is_end _ = false

-- Whether a line is the end of a procedure, even if the line has other faults.
abbrev pub ends : Line → Bool
ends (Wrong end) = end
ends (Says said flaw) = is_end said
ends _ = false

abbrev pub is_begin : Statement → Bool
is_begin (Begin number level parameters locals) = true
is_begin _ = false

abbrev pub only_if : Bool → AsmFault → List AsmFault
only_if b fault = if b then fault ∷ [] else []

abbrev pub is_unknown : Flaw → Bool
is_unknown UnknownType = true
is_unknown _ = false

abbrev pub is_out_of_range : Flaw → Bool
is_out_of_range OutOfRange = true
is_out_of_range _ = false

-- The faults of line `n`, in the state `r`, if the lines `rest` follow it. They are in this order:
-- - `Syntax`: the line is ill-formed or not allowed in this state, or it begins a procedure that no later line ends;
-- - `Unknown`: its mnemonic, directive or type keyword is unknown;
-- - `Twice`: it defines a slot, a label or the exit code again;
-- - `Range`: a number or a count is wrong.
abbrev pub line_faults : ℕ → Reading → Line → List Line → List AsmFault
line_faults n r Blank rest = []
line_faults n r (Wrong end) rest = Syntax n ∷ []
line_faults n r Strange rest = Unknown n ∷ []
line_faults n r (Says said flaw) rest =
    only_if (not (is_in_place r said) || (is_begin said && not (list_any ends rest))) (Syntax n)
    ++ (only_if (is_unknown flaw) (Unknown n)
    ++ (only_if (is_again r said) (Twice n)
    ++ only_if (is_out_of_range flaw || is_miscounted r said) (Range n)))

-- The state after a line with a fault. If the line is the end of a procedure, the procedure ends.
abbrev pub after_ending : Bool → Reading → Reading
after_ending true r = closed r.segments r.current
after_ending false r = r

abbrev pub after_line : Reading → Line → Reading
after_line r (Says said flaw) = if is_in_place r said then after r said else after_ending (is_end said) r
after_line r (Wrong end) = after_ending end r
after_line r _ = r

-- The faults of the lines, the first of which has number `n` and is read in the state `r`.
abbrev pub faults_from : ℕ → Reading → List Line → List AsmFault
faults_from n r [] = []
faults_from n r (line ∷ rest) = line_faults n r line rest ++ faults_from (n + 1) (after_line r line) rest

abbrev pub after_lines : Reading → List Line → Reading
after_lines r [] = r
after_lines r (line ∷ rest) = after_lines (after_line r line) rest

abbrev pub lines_from : ℕ → List (List ℕ) → List Line
lines_from n [] = []
lines_from n (text ∷ texts) = line_of n text ∷ lines_from (n + 1) texts

-- The lines of `text`, the first of which has number 1.
abbrev pub lines_of : List ℕ → List Line
lines_of text = lines_from 1 (lines text)

-- The segments that the lines of `text` define.
abbrev pub source_of : List ℕ → List SourceSegment
source_of text = (after_lines start (lines_of text)).segments

-- The offset of each label. The offset is `None` if the procedure does not define the label.
abbrev pub Places : Type 0
Places = Name → Option ℕ

-- The offset of the label `name` in the rows of code, the first of which is at offset `at`.
abbrev pub place_of : ℕ → List Row → Places
place_of at [] name = None
place_of at (row ∷ rows) name = if has_label name row then Some at else place_of (end_of at (row_items row)) rows name

abbrev pub is_unknown_target : Places → Target Name → Bool
is_unknown_target places (To name) = is_none (places name)
is_unknown_target places (Through k) = false

abbrev pub is_unknown_label : Places → Name → Bool
is_unknown_label places name = is_none (places name)

abbrev pub is_far_place : ℕ → Option ℕ → Bool
is_far_place next None = false
is_far_place next (Some place) = nat_lt place next || nat_lt (next + 127) place

abbrev pub is_far : Places → ℕ → Target Name → Bool
is_far places next (To name) = is_far_place next (places name)
is_far places next (Through k) = false

-- The label faults of an item at offset `at` on line `line`: a label that is not defined, or a short jump that leads
-- backward or more than 127 bytes forward.
abbrev pub item_faults : Places → ℕ → ℕ → Item Name → List AsmFault
item_faults places line at (Jump op target) =
    only_if (is_unknown_target places target) (NoLabel line) ++ only_if (is_far places (at + 2) target) (Far line)
item_faults places line at (Case low high otherwise labels) =
    only_if (is_unknown_target places otherwise || list_any (is_unknown_label places) labels) (NoLabel line)
    ++ only_if (is_far places (table_place at) otherwise) (Far line)
item_faults places line at _ = []

abbrev pub items_faults : Places → ℕ → ℕ → List (Item Name) → List AsmFault
items_faults places line at [] = []
items_faults places line at (item ∷ items) =
    item_faults places line at item ++ items_faults places line (at + size at item) items

abbrev pub code_faults : Places → ℕ → List Row → List AsmFault
code_faults places at [] = []
code_faults places at (Exit ∷ rows) = code_faults places at rows
code_faults places at (Items line label items ∷ rows) =
    items_faults places line at items ++ code_faults places (end_of at items) rows

abbrev pub entries_faults : Places → List (ℕ × Name) → List AsmFault
entries_faults places [] = []
entries_faults places (entry ∷ entries) =
    only_if (is_unknown_label places entry.1) (NoLabel entry.0) ++ entries_faults places entries

-- The label faults of the procedure `p`, whose code begins at offset `at`.
abbrev pub label_faults : ℕ → Source → List AsmFault
label_faults at p = code_faults (place_of at p.code) at p.code ++ entries_faults (place_of at p.code) p.entries

-- The end of the procedure `p` that begins at offset `at`: after its code, its jump entries and ten more bytes.
abbrev pub source_end : ℕ → Source → ℕ
source_end at p = code_end at p.code + 2 * length p.entries + 10

abbrev pub label_faults_from : ℕ → List Source → List AsmFault
label_faults_from at [] = []
label_faults_from at (p ∷ ps) = label_faults at p ++ label_faults_from (source_end at p) ps

abbrev pub all_label_faults : List SourceSegment → List AsmFault
all_label_faults [] = []
all_label_faults (s ∷ ss) = label_faults_from 0 s.procedures ++ all_label_faults ss

abbrev pub faults_of_lines : List ℕ → List AsmFault
faults_of_lines text = faults_from 1 start (lines_of text)

-- The faults of `text`: the faults of its lines or, if the lines have no faults, the faults of its labels.
unfoldable pub faults : List ℕ → List AsmFault
faults text = if is_empty (faults_of_lines text) then all_label_faults (source_of text) else faults_of_lines text
