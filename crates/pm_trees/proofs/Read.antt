-- The lines of blocks are read back to their statements.
use Rattle.std.proofs.Common.{◌≡◌, ℕ, Bool, true, false, not, List, [], ◌∷◌, ◌++◌, Some, append_assoc, arith, map, refl, sym, ap, ◌∙◌}
use Rattle.std.specs.Prelude.{◌==◌, ◌&&◌, nat_le, nat_lt, if◌then◌else◌, option_map}
use Rattle.std.proofs.lemmas.Bool.{and_parts}
use Rattle.std.proofs.lemmas.Bool.Decides.{nat_tests}
use Rattle.std.proofs.lemmas.List.{append-nil}
use Rattle.pm_trees.specs.declared.block.Block.{Block}
use Rattle.pm_trees.specs.declared.block.Kind.{Kind}
use Rattle.pm_trees.specs.declared.block.Kind.TheVariants as kind
use Rattle.pm_trees.specs.declared.line.Line.{Line}
use Rattle.pm_trees.specs.declared.statement.Leads.{Leads}
use Rattle.pm_trees.specs.declared.statement.Leads.TheVariants as leads
use Rattle.pm_trees.specs.declared.line.Word.TheVariants as word
use Rattle.pm_trees.specs.declared.statement.Statement.{Statement}
use Rattle.pm_trees.specs.Backs.{loops_at}
use Rattle.pm_trees.specs.declared.backs.Loops.{Loops}
use Rattle.pm_trees.specs.Blocks.{all_end, always_word, begins_case, begins_loop, closes_itself, code_end, condition_word, end_here}
use Rattle.pm_trees.specs.Blocks.{end_line, end_lines, ends_case, ends_here, ends_if, ends_repeat, ends_while, fits}
use Rattle.pm_trees.specs.Blocks.{is_case, is_case_to, is_empty, is_if, is_repeat_from, is_while_from, leaves_case, line_of}
use Rattle.pm_trees.specs.Blocks.{lines_from, open_after, open_around, open_at, open_behind, repeat_lines}
use Rattle.pm_trees.specs.Blocks.{value_word, with_repeat, word_by, word_of}
use Rattle.pm_trees.specs.Reading.{Bracket, Reading, decided, ended, entered, expanded, closed, left, opened, read, said, turned}
use Rattle.pm_trees.specs.Reading.Bracket.{ACase, AWhile, ARepeat, AnElse, AnIf}

abbrev bracket : Kind → Bracket
bracket kind.If = AnIf
bracket kind.Else = AnElse
bracket (kind.While place) = AWhile place
bracket (kind.Repeat place) = ARepeat place
bracket (kind.Case place) = ACase

abbrev kinds : List Block → List Bracket
kinds bs = map (λ (b : Block). bracket b.kind) bs

-- The list of ends after the ends of one open block are put before it. An IF, ELSE or WHILE block has its end. A CASE
-- has the beginning of its last statement, and its end. A REPEAT loop has none.
abbrev with_end : Kind → ℕ → List ℕ → List ℕ
with_end kind.If end ends = end ∷ ends
with_end kind.Else end ends = end ∷ ends
with_end (kind.While place) end ends = end ∷ ends
with_end (kind.Repeat place) end ends = ends
with_end (kind.Case place) end ends = place ∷ end ∷ ends

abbrev ends_of : List Block → List ℕ
ends_of [] = []
ends_of (b ∷ bs) = with_end b.kind b.end (ends_of bs)

-- States that reading the lines `ls` inside the open blocks `bs` returns the statements `ss` and the ends of `bs`.
abbrev Says : List Line → List Block → List Statement → Type 0
Says ls bs ss = read ls (kinds bs) ≡ Some (record { statements = ss; ends = ends_of bs })

-- ---- END lines are read back

one_end : (at end : ℕ) (k : Kind) (bs : List Block) (ls : List Line) (ss : List Statement) → (not (closes_itself k) && end == at) ≡ true
    → Says ls bs ss → read (end_line at k ++ ls) (bracket k ∷ kinds bs) ≡ Some (record { statements = ss; ends = with_end k end (ends_of bs) })
one_end at end kind.If bs ls ss e h =
    let same : at ≡ end = grind (arith, nat_tests, e) in
    ap (option_map (closed (record { word = word.End; at = at; behind = at }))) h
    ∙ ap (λ (n : ℕ). Some (record { statements = ss; ends = n ∷ ends_of bs })) same
one_end at end kind.Else bs ls ss e h =
    let same : at ≡ end = grind (arith, nat_tests, e) in
    ap (option_map (closed (record { word = word.End; at = at; behind = at }))) h
    ∙ ap (λ (n : ℕ). Some (record { statements = ss; ends = n ∷ ends_of bs })) same
one_end at end (kind.While place) bs ls ss e h = absurd (grind (arith, e))
one_end at end (kind.Repeat place) bs ls ss e h = absurd (grind (arith, e))
one_end at end (kind.Case place) bs ls ss e h = absurd (grind (arith, e))

ends_read : (at : ℕ) (bs : List Block) (ls : List Line) (ss : List Statement) → end_here at bs ≡ true
    → Says ls (open_at at bs) ss → Says (end_lines at bs ++ ls) bs ss
ends_read at [] ls ss e h = h
ends_read at (b ∷ bs) ls ss e h = by (nat_le b.end at) (ends_read at bs ls ss) e h
  where
    by : (x : Bool) → (end_here at bs ≡ true → Says ls (open_at at bs) ss → Says (end_lines at bs ++ ls) bs ss)
        → (if x then ends_here at b && end_here at bs else true) ≡ true
        → Says ls (if x then open_at at bs else b ∷ bs) ss
        → Says ((if x then end_line at b.kind ++ end_lines at bs else []) ++ ls) (b ∷ bs) ss
    by true more f g =
        let parts = and_parts (ends_here at b) (end_here at bs) f in
        ap (λ l. read l (kinds (b ∷ bs))) (append_assoc (end_line at b.kind) (end_lines at bs) ls)
        ∙ one_end at b.end b.kind bs (end_lines at bs ++ ls) ss parts.0 (more parts.1 g)
    by false more f g = g

-- ---- the line of a REPEAT loop is read back

repeat_read : (limit at end : ℕ) (bs : List Block) (ls : List Line) (ss : List Statement)
    → Says ls (with_repeat limit at end bs) ss → Says (repeat_lines limit at end bs ++ ls) bs ss
repeat_read limit at end bs ls ss h = by (begins_loop limit at end bs) h
  where
    by : (x : Bool) → Says ls (if x then record { kind = kind.Repeat at; end = end } ∷ bs else bs) ss
        → Says ((if x then record { word = word.Repeat; at = at; behind = at } ∷ [] else []) ++ ls) bs ss
    by true g = g
    by false g = g

-- ---- the line of a statement, followed by other lines, is read back

until_kind : (at behind place end : ℕ) (k : Kind) (bs : List Block) (ls : List Line) (ss : List Statement)
    → (is_repeat_from place k && end == behind) ≡ true → Says ls bs ss
    → read (record { word = word.Until; at = at; behind = behind } ∷ ls) (bracket k ∷ kinds bs)
    ≡ Some (record { statements = record { at = at; behind = behind; leads = leads.ByCondition place } ∷ ss; ends = with_end k end (ends_of bs) })
until_kind at behind place end kind.If bs ls ss e h = absurd (grind (arith, e))
until_kind at behind place end kind.Else bs ls ss e h = absurd (grind (arith, e))
until_kind at behind place end (kind.While p) bs ls ss e h = absurd (grind (arith, e))
until_kind at behind place end (kind.Case p) bs ls ss e h = absurd (grind (arith, e))
until_kind at behind place end (kind.Repeat p) bs ls ss e h =
    let parts = and_parts (p == place) (end == behind) e in
    let same : p ≡ place = grind (arith, nat_tests, parts.0) in
    ap (option_map (said (record { at = at; behind = behind; leads = leads.ByCondition p }))) h
    ∙ ap (λ (n : ℕ). Some (record { statements = record { at = at; behind = behind; leads = leads.ByCondition n } ∷ ss; ends = ends_of bs })) same

until_read : (far at behind place : ℕ) (bs : List Block) (ls : List Line) (ss : List Statement) → ends_repeat place behind bs ≡ true
    → Says ls (open_behind far word.Until (record { at = at; behind = behind; leads = leads.ByCondition place }) bs) ss
    → Says (record { word = word.Until; at = at; behind = behind } ∷ ls) bs (record { at = at; behind = behind; leads = leads.ByCondition place } ∷ ss)
until_read far at behind place [] ls ss e h = absurd (grind (arith, e))
until_read far at behind place (b ∷ bs) ls ss e h = until_kind at behind place b.end b.kind bs ls ss e h

while_kind : (at behind place end : ℕ) (k : Kind) (bs : List Block) (ls : List Line) (ss : List Statement)
    → (is_while_from place k && end == behind) ≡ true → Says ls bs ss
    → read (record { word = word.EndWhile; at = at; behind = behind } ∷ ls) (bracket k ∷ kinds bs)
    ≡ Some (record { statements = record { at = at; behind = behind; leads = leads.Always place } ∷ ss; ends = with_end k end (ends_of bs) })
while_kind at behind place end kind.If bs ls ss e h = absurd (grind (arith, e))
while_kind at behind place end kind.Else bs ls ss e h = absurd (grind (arith, e))
while_kind at behind place end (kind.Repeat p) bs ls ss e h = absurd (grind (arith, e))
while_kind at behind place end (kind.Case p) bs ls ss e h = absurd (grind (arith, e))
while_kind at behind place end (kind.While p) bs ls ss e h =
    let parts = and_parts (p == place) (end == behind) e in
    let same : p ≡ place = grind (arith, nat_tests, parts.0) in
    let there : behind ≡ end = grind (arith, nat_tests, parts.1) in
    ap (option_map (ended (record { at = at; behind = behind; leads = leads.Always p }) behind)) h
    ∙ ap (λ (n : ℕ). Some (record { statements = record { at = at; behind = behind; leads = leads.Always n } ∷ ss; ends = behind ∷ ends_of bs })) same
    ∙ ap (λ (n : ℕ). Some (record { statements = record { at = at; behind = behind; leads = leads.Always place } ∷ ss; ends = n ∷ ends_of bs })) there

while_read : (far at behind place : ℕ) (bs : List Block) (ls : List Line) (ss : List Statement) → ends_while place behind bs ≡ true
    → Says ls (open_behind far word.EndWhile (record { at = at; behind = behind; leads = leads.Always place }) bs) ss
    → Says (record { word = word.EndWhile; at = at; behind = behind } ∷ ls) bs (record { at = at; behind = behind; leads = leads.Always place } ∷ ss)
while_read far at behind place [] ls ss e h = absurd (grind (arith, e))
while_read far at behind place (b ∷ bs) ls ss e h = while_kind at behind place b.end b.kind bs ls ss e h

else_kind : (at behind place end : ℕ) (k : Kind) (bs : List Block) (ls : List Line) (ss : List Statement)
    → (is_if k && end == behind) ≡ true → Says ls (record { kind = kind.Else; end = place } ∷ bs) ss
    → read (record { word = word.Else; at = at; behind = behind } ∷ ls) (bracket k ∷ kinds bs)
    ≡ Some (record { statements = record { at = at; behind = behind; leads = leads.Always place } ∷ ss; ends = with_end k end (ends_of bs) })
else_kind at behind place end kind.Else bs ls ss e h = absurd (grind (arith, e))
else_kind at behind place end (kind.While p) bs ls ss e h = absurd (grind (arith, e))
else_kind at behind place end (kind.Repeat p) bs ls ss e h = absurd (grind (arith, e))
else_kind at behind place end (kind.Case p) bs ls ss e h = absurd (grind (arith, e))
else_kind at behind place end kind.If bs ls ss e h =
    let there : behind ≡ end = grind (arith, nat_tests, e) in
    ap (turned (record { word = word.Else; at = at; behind = behind })) h
    ∙ ap (λ (n : ℕ). Some (record { statements = record { at = at; behind = behind; leads = leads.Always place } ∷ ss; ends = n ∷ ends_of bs })) there

else_read : (far limit at behind place : ℕ) (bs : List Block) (ls : List Line) (ss : List Statement) → ends_if limit place behind bs ≡ true
    → Says ls (open_behind far word.Else (record { at = at; behind = behind; leads = leads.Always place }) bs) ss
    → Says (record { word = word.Else; at = at; behind = behind } ∷ ls) bs (record { at = at; behind = behind; leads = leads.Always place } ∷ ss)
else_read far limit at behind place [] ls ss e h = absurd (grind (arith, e))
else_read far limit at behind place (b ∷ bs) ls ss e h =
    else_kind at behind place b.end b.kind bs ls ss (and_parts (is_if b.kind && b.end == behind) (fits limit place bs) e).0 h

condition_read : (far limit again at behind place : ℕ) (bs : List Block) (ls : List Line) (ss : List Statement)
    → Says ls (open_behind far (condition_word limit again behind place bs) (record { at = at; behind = behind; leads = leads.ByCondition place }) bs) ss
    → Says (record { word = condition_word limit again behind place bs; at = at; behind = behind } ∷ ls) bs
    (record { at = at; behind = behind; leads = leads.ByCondition place } ∷ ss)
condition_read far limit again at behind place bs ls ss h =
    by (nat_lt behind place && fits limit place bs) (again == place) (ends_repeat place behind bs) refl h
  where
    by : (x y z : Bool) → ends_repeat place behind bs ≡ z
        → Says ls (open_behind far (if x then (if y then word.While else word.If) else if z then word.Until else word.Plain (leads.ByCondition place))
        (record { at = at; behind = behind; leads = leads.ByCondition place }) bs) ss
        → Says (record {
          word = if x then (if y then word.While else word.If) else if z then word.Until else word.Plain (leads.ByCondition place);
          at = at;
          behind = behind;
        } ∷ ls) bs (record { at = at; behind = behind; leads = leads.ByCondition place } ∷ ss)
    by true true z e g = ap (opened (record { word = word.While; at = at; behind = behind })) g
    by true false z e g = ap (opened (record { word = word.If; at = at; behind = behind })) g
    by false y true e g = until_read far at behind place bs ls ss e g
    by false y false e g = ap (option_map (said (record { at = at; behind = behind; leads = leads.ByCondition place }))) g

leave_kind : (at behind place end : ℕ) (k : Kind) (bs : List Block) (ls : List Line) (ss : List Statement)
    → (is_case k && end == place) ≡ true → Says ls (record { kind = k; end = end } ∷ bs) ss
    → read (record { word = word.Leave; at = at; behind = behind } ∷ ls) (bracket k ∷ kinds bs)
    ≡ Some (record { statements = record { at = at; behind = behind; leads = leads.Always place } ∷ ss; ends = with_end k end (ends_of bs) })
leave_kind at behind place end kind.If bs ls ss e h = absurd (grind (arith, e))
leave_kind at behind place end kind.Else bs ls ss e h = absurd (grind (arith, e))
leave_kind at behind place end (kind.While p) bs ls ss e h = absurd (grind (arith, e))
leave_kind at behind place end (kind.Repeat p) bs ls ss e h = absurd (grind (arith, e))
leave_kind at behind place end (kind.Case p) bs ls ss e h =
    let same : end ≡ place = grind (arith, nat_tests, e) in
    ap (left (record { word = word.Leave; at = at; behind = behind })) h
    ∙ ap (λ (n : ℕ). Some (record { statements = record { at = at; behind = behind; leads = leads.Always n } ∷ ss; ends = p ∷ end ∷ ends_of bs })) same

leave_read : (at behind place : ℕ) (bs : List Block) (ls : List Line) (ss : List Statement) → leaves_case place bs ≡ true
    → Says ls bs ss
    → Says (record { word = word.Leave; at = at; behind = behind } ∷ ls) bs (record { at = at; behind = behind; leads = leads.Always place } ∷ ss)
leave_read at behind place [] ls ss e h = absurd (grind (arith, e))
leave_read at behind place (b ∷ bs) ls ss e h = leave_kind at behind place b.end b.kind bs ls ss e h

always_read : (far limit at behind place : ℕ) (bs : List Block) (ls : List Line) (ss : List Statement)
    → Says ls (open_behind far (always_word limit far behind place bs) (record { at = at; behind = behind; leads = leads.Always place }) bs) ss
    → Says (record { word = always_word limit far behind place bs; at = at; behind = behind } ∷ ls) bs
    (record { at = at; behind = behind; leads = leads.Always place } ∷ ss)
always_read far limit at behind place bs ls ss h =
    by (ends_while place behind bs) (nat_lt behind place && ends_if limit place behind bs) (leaves_case place bs)
    (begins_case limit far behind place bs) refl refl refl h
  where
    by : (x y z v : Bool) → ends_while place behind bs ≡ x → (nat_lt behind place && ends_if limit place behind bs) ≡ y
        → leaves_case place bs ≡ z
        → Says ls (open_behind far
        (if x then word.EndWhile else if y then word.Else else if z then word.Leave else if v then word.Case else word.Plain (leads.Always place))
        (record { at = at; behind = behind; leads = leads.Always place }) bs) ss
        → Says (record {
          word = if x then word.EndWhile else if y then word.Else else if z then word.Leave else if v then word.Case else word.Plain (leads.Always place);
          at = at;
          behind = behind;
        } ∷ ls) bs (record { at = at; behind = behind; leads = leads.Always place } ∷ ss)
    by true y z v e f l g = while_read far at behind place bs ls ss e g
    by false true z v e f l g =
        else_read far limit at behind place bs ls ss (and_parts (nat_lt behind place) (ends_if limit place behind bs) f).1 g
    by false false true v e f l g = leave_read at behind place bs ls ss l g
    by false false false true e f l g = ap (entered (record { word = word.Case; at = at; behind = behind })) g
    by false false false false e f l g = ap (option_map (said (record { at = at; behind = behind; leads = leads.Always place }))) g

case_kind : (at behind end : ℕ) (k : Kind) (bs : List Block) (ls : List Line) (ss : List Statement)
    → (is_case_to at k && end == behind) ≡ true → Says ls bs ss
    → read (record { word = word.EndCase; at = at; behind = behind } ∷ ls) (bracket k ∷ kinds bs)
    ≡ Some (record { statements = record { at = at; behind = behind; leads = leads.ByValue } ∷ ss; ends = with_end k end (ends_of bs) })
case_kind at behind end kind.If bs ls ss e h = absurd (grind (arith, e))
case_kind at behind end kind.Else bs ls ss e h = absurd (grind (arith, e))
case_kind at behind end (kind.While p) bs ls ss e h = absurd (grind (arith, e))
case_kind at behind end (kind.Repeat p) bs ls ss e h = absurd (grind (arith, e))
case_kind at behind end (kind.Case p) bs ls ss e h =
    let parts = and_parts (p == at) (end == behind) e in
    let same : at ≡ p = grind (arith, nat_tests, parts.0) in
    let there : behind ≡ end = grind (arith, nat_tests, parts.1) in
    ap (option_map (decided (record { word = word.EndCase; at = at; behind = behind }))) h
    ∙ ap (λ (n : ℕ). Some (record { statements = record { at = at; behind = behind; leads = leads.ByValue } ∷ ss; ends = n ∷ behind ∷ ends_of bs })) same
    ∙ ap (λ (n : ℕ). Some (record { statements = record { at = at; behind = behind; leads = leads.ByValue } ∷ ss; ends = p ∷ n ∷ ends_of bs })) there

case_read : (far at behind : ℕ) (bs : List Block) (ls : List Line) (ss : List Statement) → ends_case at behind bs ≡ true
    → Says ls (open_behind far word.EndCase (record { at = at; behind = behind; leads = leads.ByValue }) bs) ss
    → Says (record { word = word.EndCase; at = at; behind = behind } ∷ ls) bs (record { at = at; behind = behind; leads = leads.ByValue } ∷ ss)
case_read far at behind [] ls ss e h = absurd (grind (arith, e))
case_read far at behind (b ∷ bs) ls ss e h = case_kind at behind b.end b.kind bs ls ss e h

value_read : (far at behind : ℕ) (bs : List Block) (ls : List Line) (ss : List Statement)
    → Says ls (open_behind far (value_word at behind bs) (record { at = at; behind = behind; leads = leads.ByValue }) bs) ss
    → Says (record { word = value_word at behind bs; at = at; behind = behind } ∷ ls) bs
    (record { at = at; behind = behind; leads = leads.ByValue } ∷ ss)
value_read far at behind bs ls ss h = by (ends_case at behind bs) refl h
  where
    by : (x : Bool) → ends_case at behind bs ≡ x
        → Says ls (open_behind far (if x then word.EndCase else word.Plain leads.ByValue) (record { at = at; behind = behind; leads = leads.ByValue }) bs) ss
        → Says (record { word = if x then word.EndCase else word.Plain leads.ByValue; at = at; behind = behind } ∷ ls) bs
        (record { at = at; behind = behind; leads = leads.ByValue } ∷ ss)
    by true e g = case_read far at behind bs ls ss e g
    by false e g = ap (option_map (said (record { at = at; behind = behind; leads = leads.ByValue }))) g

word_read : (limit : ℕ) (here : Loops) (at behind : ℕ) (to : Leads) (bs : List Block) (ls : List Line) (ss : List Statement)
    → Says ls (open_behind here.by_value (word_by limit here at behind to bs) (record { at = at; behind = behind; leads = to }) bs) ss
    → Says (record { word = word_by limit here at behind to bs; at = at; behind = behind } ∷ ls) bs
    (record { at = at; behind = behind; leads = to } ∷ ss)
word_read limit here at behind leads.Nowhere bs ls ss h =
    ap (option_map (said (record { at = at; behind = behind; leads = leads.Nowhere }))) h
word_read limit here at behind (leads.ByCondition place) bs ls ss h =
    condition_read here.by_value limit here.always at behind place bs ls ss h
word_read limit here at behind (leads.Always place) bs ls ss h = always_read here.by_value limit at behind place bs ls ss h
word_read limit here at behind leads.ByValue bs ls ss h = value_read here.by_value at behind bs ls ss h

-- ---- all lines are read back

none_left : (bs : List Block) → is_empty bs ≡ true → Says [] bs []
none_left [] e = refl
none_left (b ∷ bs) e = absurd (grind (arith, e))

lines_read : (limit : ℕ) (all : List Statement) (bs : List Block) (ss : List Statement) → all_end limit all bs ss ≡ true
    → Says (lines_from limit all bs ss) bs ss
unfolding all_end lines_from
lines_read limit all bs [] e =
    let parts = and_parts (end_here limit bs) (is_empty (open_at limit bs)) e in
    ap (λ l. read l (kinds bs)) (sym (append-nil (end_lines limit bs)))
    ∙ ends_read limit bs [] [] parts.0 (none_left (open_at limit bs) parts.1)
lines_read limit all bs (s ∷ ss) e =
    let here = loops_at all s in
    let next = open_after limit here s bs in
    let parts = and_parts (end_here s.at bs) (all_end limit all next ss) e in
    let rest = lines_from limit all next ss in
    let line = line_of (word_of limit here s bs) s in
    let front = end_lines s.at bs in
    let around = open_at s.at bs in
    let loop = repeat_lines limit s.at here.by_condition around in
    ap (λ l. read l (kinds bs)) (append_assoc (front ++ loop) (line ∷ []) rest ∙ append_assoc front loop (line ∷ rest))
    ∙ ends_read s.at bs (loop ++ line ∷ rest) (s ∷ ss) parts.0
    (repeat_read limit s.at here.by_condition around (line ∷ rest) (s ∷ ss)
    (word_read limit here s.at s.behind s.leads (open_around limit here s bs) rest ss
    (lines_read limit all next ss parts.1)))

-- If each block ends at the target of its jump, then reading the lines returns the statements.
pub read_back : (ss : List Statement) → all_end (code_end ss) ss [] ss ≡ true
    → expanded (lines_from (code_end ss) ss [] ss) ≡ Some ss
unfolding expanded
read_back ss e = ap (option_map (λ (r : Reading). r.statements)) (lines_read (code_end ss) ss [] ss e)
