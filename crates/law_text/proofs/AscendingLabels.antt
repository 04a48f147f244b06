-- Lemmas: the faults of labels ascend by their lines, if the lines spell the segments of the labels.
use Rattle.std.proofs.Common.{◌≡◌, ◌≤◌, ◌+◌, ℕ, Bool, true, false, List, [], ◌∷◌, ◌++◌, map, refl, sym, subst, arith, append_assoc, ap, Option, Some, None}
use Rattle.std.specs.Prelude.{if◌then◌else◌, ◌||◌}
use Rattle.std.specs.List.{list_all, list_any}
use Rattle.pm_codefile.specs.Segments.{◌>>=◌}
use Rattle.pm_code.specs.Item.{Item, size, table_place}
use Rattle.pm_code.specs.Item.Item.{Plain, Jump, Case, OneByte}
use Rattle.pm_code.specs.Program.{end_of, is_segment_name}
use Rattle.pm_source.specs.declared.fault.AsmFault.{AsmFault}
use Rattle.pm_source.specs.declared.fault.AsmFault.TheVariants.{NoLabel, Far}
use Rattle.pm_source.specs.Faults as faults
use Rattle.pm_source.specs.Faults.{Places, all_label_faults, code_faults, entries_faults, faults_of_lines, is_far, is_unknown_label, is_unknown_target}
use Rattle.pm_source.specs.Faults.{item_faults, items_faults, label_faults, label_faults_from, lines_from, only_if, source_end, source_of}
use Rattle.pm_source.specs.Words.{Cut, cut, is_empty, is_name, words}
use Rattle.pm_source.specs.Source.{Name, Row, Source, SourceSegment, Statement, entry_statement, head_statements, statements, statements_from}
use Rattle.pm_source.specs.Source.Row.{Items, Exit}
use Rattle.pm_source.specs.Source.Statement.{Code, Entry, End}
use Rattle.pm_source.specs.Line.{Keyword, Line, Operand, Said, checked, code_said, ends_procedure, entry_operands, items_said, keyword_of, is_character}
use Rattle.pm_source.specs.Line.{label_of, uncommented, label_operand, labelled, labelled_by, line_by, line_of, line_of_words, no_operands, numeral_operand}
use Rattle.pm_source.specs.Line.{procedure_operands, said, saying, segment_operands, size_operand, slot_operand, spoken}
use Rattle.pm_source.specs.Line.Keyword.{OfSegment, OfProcedure, OfExit, OfJump, OfEnd, OfBytes, Mnemonic}
use Rattle.pm_source.specs.Line.Line.{Blank, Wrong, Strange, Says}
use Rattle.pm_source.specs.Meaning.{AreSaid}
use Rattle.law_text.specs.Same.{AscendFrom, FaultsAscend}
use Rattle.law_text.proofs.Ascending.{AreAt, before, both, line_faults_ascend, lower, one}
use Rattle.pm_source.proofs.Exactly.{faultless_is_said}

-- The statement is in line `n`, if it has a line.
abbrev IsOf : ℕ → Statement → Type 0
IsOf n (Code (Items line label items)) = line ≡ n
IsOf n (Entry line name) = line ≡ n
IsOf n _ = Unit {0}

abbrev OperandOf : ℕ → Operand Statement → Type 0
OperandOf n None = Unit {0}
OperandOf n (Some x) = IsOf n x.0

abbrev SaidOf : ℕ → Said Statement → Type 0
SaidOf n None = Unit {0}
SaidOf n (Some x) = IsOf n x.0

abbrev LineOf : ℕ → Line → Type 0
LineOf n (Says s flaw) = IsOf n s
LineOf n _ = Unit {0}

bind_of : {A : Type 0} (n : ℕ) (o : Option A) (f : A → Operand Statement) → ((a : A) → OperandOf n (f a)) → OperandOf n (o >>= f)
bind_of n None f h = tt
bind_of n (Some a) f h = h a

if_of : (n : ℕ) (b : Bool) (o : Operand Statement) → OperandOf n o → OperandOf n (if b then o else None)
if_of n true o h = h
if_of n false o h = tt

checked_of : (n : ℕ) (o : Operand Statement) → OperandOf n o → SaidOf n (checked o)
checked_of n None h = tt
checked_of n (Some x) h = h

segment_of : (n : ℕ) (ws : List (List ℕ)) → OperandOf n (segment_operands ws)
segment_of n [] = tt
segment_of n (a ∷ []) = tt
segment_of n (a ∷ name ∷ []) = if_of n (is_segment_name name) _ (bind_of n (slot_operand a) _ (λ x. tt))
segment_of n (a ∷ name ∷ c ∷ ws) = tt

procedure_of : (n : ℕ) (ws : List (List ℕ)) → OperandOf n (procedure_operands ws)
procedure_of n [] = tt
procedure_of n (a ∷ []) = tt
procedure_of n (a ∷ b ∷ []) = tt
procedure_of n (a ∷ b ∷ c ∷ []) = tt
procedure_of n (a ∷ b ∷ c ∷ d ∷ []) =
    bind_of n (numeral_operand 0 255 256 a) _ (λ p. bind_of n (numeral_operand 128 127 256 b) _ (λ level.
    bind_of n (size_operand c) _ (λ parameters. bind_of n (size_operand d) _ (λ locals. tt))))
procedure_of n (a ∷ b ∷ c ∷ d ∷ e ∷ ws) = tt

entry_of : (n : ℕ) (ws : List (List ℕ)) → OperandOf n (entry_operands n ws)
entry_of n [] = tt
entry_of n (name ∷ []) = bind_of n (label_operand name) _ (λ label. refl)
entry_of n (name ∷ b ∷ ws) = tt

nothing_of : (n : ℕ) (s : Statement) (ws : List (List ℕ)) → IsOf n s → OperandOf n (no_operands s ws)
nothing_of n s [] h = h
nothing_of n s (w ∷ ws) h = tt

code_of : (n : ℕ) (label : Option Name) (items : Said (List (Item Name))) → SaidOf n (code_said n label items)
code_of n label None = tt
code_of n label (Some x) = refl

said_of : (n : ℕ) (keyword : Keyword) (rest : List ℕ) → SaidOf n (said n keyword rest)
said_of n OfSegment rest = checked_of n (segment_operands (words rest)) (segment_of n (words rest))
said_of n OfProcedure rest = checked_of n (procedure_operands (words rest)) (procedure_of n (words rest))
said_of n OfExit rest = checked_of n (no_operands (Code Exit) (words rest)) (nothing_of n (Code Exit) (words rest) tt)
said_of n OfJump rest = checked_of n (entry_operands n (words rest)) (entry_of n (words rest))
said_of n OfEnd rest = checked_of n (no_operands End (words rest)) (nothing_of n End (words rest) tt)
said_of n OfBytes rest = code_of n None (items_said OfBytes rest)
said_of n (Mnemonic op) rest = code_of n None (items_said (Mnemonic op) rest)

saying_of : (n : ℕ) (end : Bool) (s : Said Statement) → SaidOf n s → LineOf n (saying end s)
saying_of n end None h = tt
saying_of n end (Some x) h = h

spoken_of : (n : ℕ) (rest : List ℕ) (keyword : Option Keyword) → LineOf n (spoken n rest keyword)
spoken_of n rest None = tt
spoken_of n rest (Some keyword) = saying_of n (ends_procedure keyword) (said n keyword rest) (said_of n keyword rest)

named_of : (n : ℕ) (b : Bool) (line : Line) → LineOf n line → LineOf n (if b then line else Wrong false)
named_of n true line h = h
named_of n false line h = tt

labelled_of : (n : ℕ) (label rest word : List ℕ) → LineOf n (labelled n label rest word)
labelled_of n label rest [] = named_of n (is_name label) _ refl
labelled_of n label rest (c ∷ cs) = by (keyword_of (c ∷ cs))
  where
    by : (keyword : Option Keyword) → LineOf n (labelled_by n label rest keyword)
    by None = tt
    by (Some keyword) = named_of n (is_name label) _ (saying_of n false _ (code_of n (Some label) (items_said keyword rest)))

words_of : (n : ℕ) (k : Cut) (label : Option Name) → LineOf n (line_of_words n k label)
words_of n k None = spoken_of n k.rest (keyword_of k.word)
words_of n k (Some label) = labelled_of n label (cut k.rest).rest (cut k.rest).word

by_of : (n : ℕ) (characters : Bool) (k : Cut) → LineOf n (line_by n characters k)
by_of n false k = tt
by_of n true k = either (is_empty k.word)
  where
    either : (b : Bool) → LineOf n (if b then Blank else line_of_words n k (label_of k.word))
    either true = tt
    either false = words_of n k (label_of k.word)

line_is_of : (n : ℕ) (text : List ℕ) → LineOf n (line_of n text)
unfolding line_of
line_is_of n text = by_of n (list_all is_character text) (cut (uncommented false text))

-- The statements are in lines that ascend from `n` on.
abbrev StandFrom : ℕ → List Statement → Type 0
StandFrom n [] = Unit {0}
StandFrom n (s ∷ said) = (m : ℕ) × ((n ≤ m) × (IsOf m s × StandFrom m said))

higher : (k n : ℕ) (said : List Statement) → k ≤ n → StandFrom n said → StandFrom k said
higher k n [] h s = tt
higher k n (t ∷ said) h s = let above = s.1.0 in (s.0, (omega (arith, h, above), s.1.1))

line_stands : (n : ℕ) (line : Line) (lines : List Line) (said : List Statement) → LineOf n line
    → ((said : List Statement) → AreSaid lines said → StandFrom (n + 1) said) → AreSaid (line ∷ lines) said → StandFrom n said
line_stands n Blank lines said l more h = higher n (n + 1) said (omega arith) (more said h)
line_stands n (Wrong end) lines said l more h = absurd h
line_stands n Strange lines said l more h = absurd h
line_stands n (Says s flaw) lines [] l more h = tt
line_stands n (Says s flaw) lines (t ∷ said) l more h =
    (n, (omega arith, (subst (IsOf n) h.1.0 l, higher n (n + 1) said (omega arith) (more said h.1.1))))

said_stand : (n : ℕ) (texts : List (List ℕ)) (said : List Statement) → AreSaid (lines_from n texts) said → StandFrom n said
said_stand n [] said h = subst (StandFrom n) (sym h) tt
said_stand n (text ∷ texts) said h =
    line_stands n (line_of n text) (lines_from (n + 1) texts) said (line_is_of n text) (λ said h. said_stand (n + 1) texts said h) h

-- The faults of the items of a line name the line.
item_at : (n : ℕ) (places : Places) (at : ℕ) (item : Item Name) → AreAt n (item_faults places n at item)
item_at n places at (Plain i named) = tt
item_at n places at (OneByte b) = tt
item_at n places at (Jump op target) =
    both n _ _ (one n (is_unknown_target places target) (NoLabel n) refl) (one n (is_far places (at + 2) target) (Far n) refl)
item_at n places at (Case low high otherwise labels) =
    both n _ _ (one n (is_unknown_target places otherwise || list_any (is_unknown_label places) labels) (NoLabel n) refl)
    (one n (is_far places (table_place at) otherwise) (Far n) refl)

items_at : (n : ℕ) (places : Places) (at : ℕ) (items : List (Item Name)) → AreAt n (items_faults places n at items)
items_at n places at [] = tt
items_at n places at (item ∷ items) = both n _ _ (item_at n places at item) (items_at n places (at + size at item) items)

-- The faults `more` ascend from each line from which the statements `said` ascend.
abbrev Behind : List Statement → List AsmFault → Type 0
Behind said more = (m : ℕ) → StandFrom m said → AscendFrom m more

code_ascends : (n : ℕ) (places : Places) (at : ℕ) (rows : List Row) (said : List Statement) (more : List AsmFault)
    → StandFrom n (map Code rows ++ said) → Behind said more → AscendFrom n (code_faults places at rows ++ more)
code_ascends n places at [] said more s b = b n s
code_ascends n places at (Exit ∷ rows) said more s b =
    lower n s.0 _ s.1.0 (code_ascends s.0 places at rows said more s.1.1.1 b)
code_ascends n places at (Items line label items ∷ rows) said more s b =
    let found : AreAt s.0 (items_faults places line at items) =
    subst (λ k. AreAt s.0 (items_faults places k at items)) (sym s.1.1.0) (items_at s.0 places at items) in
    let rest = code_ascends s.0 places (end_of at items) rows said more s.1.1.1 b in
    subst (AscendFrom n) (sym (append_assoc (items_faults places line at items) (code_faults places (end_of at items) rows) more))
    (lower n s.0 _ s.1.0 (before s.0 (items_faults places line at items) _ found rest))

entries_ascend : (n : ℕ) (places : Places) (entries : List (ℕ × Name)) (said : List Statement) (more : List AsmFault)
    → StandFrom n (map entry_statement entries ++ said) → Behind said more → AscendFrom n (entries_faults places entries ++ more)
entries_ascend n places [] said more s b = b n s
entries_ascend n places (entry ∷ entries) said more s b =
    let unknown = only_if (is_unknown_label places entry.1) (NoLabel entry.0) in
    let found : AreAt s.0 unknown = one s.0 (is_unknown_label places entry.1) (NoLabel entry.0) (ap Some s.1.1.0) in
    let rest = entries_ascend s.0 places entries said more s.1.1.1 b in
    subst (AscendFrom n) (sym (append_assoc unknown (entries_faults places entries) more))
    (lower n s.0 _ s.1.0 (before s.0 unknown _ found rest))

procedure_ascends : (n at number : ℕ) (p : Source) (said : List Statement) (more : List AsmFault)
    → StandFrom n (head_statements number p ++ said) → Behind said more → AscendFrom n (label_faults at p ++ more)
procedure_ascends n at number p said more s b =
    let places = faults.place_of at p.code in
    let body : StandFrom s.0 (map Code p.code ++ (map entry_statement p.entries ++ said)) =
    subst (StandFrom s.0) (append_assoc (map Code p.code) (map entry_statement p.entries) said) s.1.1.1 in
    let behind : Behind (map entry_statement p.entries ++ said) (entries_faults places p.entries ++ more) =
    λ m t. entries_ascend m places p.entries said more t b in
    subst (AscendFrom n) (sym (append_assoc (code_faults places at p.code) (entries_faults places p.entries) more))
    (lower n s.0 _ s.1.0 (code_ascends s.0 places at p.code _ _ body behind))

procedures_ascend : (n at number : ℕ) (ps : List Source) (said : List Statement) (more : List AsmFault)
    → StandFrom n (statements_from number ps ++ said) → Behind said more → AscendFrom n (label_faults_from at ps ++ more)
procedures_ascend n at number [] said more s b = b n s
procedures_ascend n at number (p ∷ ps) said more s b =
    let others = statements_from (number + 1) ps in
    let body : StandFrom n (head_statements number p ++ (End ∷ others ++ said)) =
    subst (StandFrom n) (append_assoc (head_statements number p) (End ∷ others) said) s in
    let behind : Behind (End ∷ others ++ said) (label_faults_from (source_end at p) ps ++ more) =
    λ m t. lower m t.0 _ t.1.0 (procedures_ascend t.0 (source_end at p) (number + 1) ps said more t.1.1.1 b) in
    subst (AscendFrom n) (sym (append_assoc (label_faults at p) (label_faults_from (source_end at p) ps) more))
    (procedure_ascends n at number p _ _ body behind)

segments_ascend : (n : ℕ) (ss : List SourceSegment) → StandFrom n (statements ss) → AscendFrom n (all_label_faults ss)
segments_ascend n [] s = tt
segments_ascend n (g ∷ ss) s =
    lower n s.0 _ s.1.0 (procedures_ascend s.0 0 1 g.procedures (statements ss) (all_label_faults ss) s.1.1.1
    (λ m t. segments_ascend m ss t))

pub faults_ascend : FaultsAscend
unfolding faults.faults
faults_ascend text = by (faults_of_lines text) refl
  where
    by : (found : List AsmFault) → faults_of_lines text ≡ found
        → AscendFrom 1 (if is_empty found then all_label_faults (source_of text) else found)
    by [] e = segments_ascend 1 (source_of text) (said_stand 1 _ (statements (source_of text)) (faultless_is_said text e).0)
    by (fault ∷ found) e = subst (AscendFrom 1) e (line_faults_ascend text)
