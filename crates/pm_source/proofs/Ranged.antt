-- If a line has no flaw, then the values of its statement are in their ranges.
use Rattle.std.proofs.Common.{◌≡◌, ◌<◌, ◌≤◌, ℕ, ◌+◌, ◌%◌, Bool, true, false, List, [], ◌∷◌, refl, sym, ap, subst, ◌∙◌, arith, Option, Some, None}
use Rattle.std.specs.Prelude.{zero, suc, map, ◌&&◌, if◌then◌else◌}
use Rattle.std.proofs.lemmas.Bool.{eqb-true}
use Rattle.std.specs.List.{AllByRecursion, list_all}
use Rattle.std.specs.Str.Lines.{lines}
use Rattle.std.specs.Map.{lookup}
use Rattle.std.specs.Str.{bytes_eq}
use Rattle.pm_opcode.specs.Table.{form_of, mnemonic_of}
use Rattle.pm_code.specs.Item.{Item, IsByte}
use Rattle.pm_code.specs.Item.Item.{OneByte}
use Rattle.pm_source.proofs.Goods.{IsGood, all_ranged, byte_ranged}
use Rattle.pm_source.proofs.Instructions.{checked_is, found_in, instruction_good}
use Rattle.pm_code.specs.Program.{is_segment_name}
use Rattle.pm_source.specs.Words.{Cut, is_empty, is_name, cut, words}
use Rattle.pm_source.specs.Source.{Name, Statement}
use Rattle.pm_source.specs.Source.Row.{Items, Exit}
use Rattle.pm_source.specs.Source.Statement.{Segment, Begin, Code, Entry, End}
use Rattle.pm_codefile.specs.Segments.{◌>>=◌}
use Rattle.pm_source.specs.Line.{Flaw, Line, Operand, Said, Keyword, numeral_operand, slot_operand, said, saying, spoken, labelled, labelled_by, line_of_words}
use Rattle.pm_source.specs.Line.{line_by, line_of, label_of, keyword_of, code_said, items_said, bytes_said, one_item, operands, byte_operand, all_operands}
use Rattle.pm_source.specs.Line.{instruction_said, directives, named_from, mnemonic_keyword, keyword_or, segment_operands, procedure_operands, entry_operands}
use Rattle.pm_source.specs.Line.{no_operands, label_operand, size_operand, is_even, is_character, uncommented, ends_procedure}
use Rattle.pm_source.specs.Line.Flaw.{NoFlaw}
use Rattle.pm_source.specs.Line.Line.{Blank, Wrong, Strange, Says}
use Rattle.pm_source.specs.Line.Keyword.{OfSegment, OfProcedure, OfExit, OfJump, OfEnd, OfBytes, Mnemonic}
use Rattle.pm_source.specs.Faults.{lines_from, lines_of}
use Rattle.pm_source.specs.Meaning.{AreSaid}
use Rattle.pm_source.proofs.Numerals.{some_is, Bound, bound, both, pair_is, numeral_below, slot_small}

abbrev pub IsSize : ℕ → Type 0
IsSize n = (n < 65536) × (n % 2 ≡ 0)

-- States that the values of a statement are in their ranges.
abbrev pub IsRanged : Statement → Type 0
IsRanged (Segment number name) = (number < 16) × (is_segment_name name ≡ true)
IsRanged (Begin number level parameters locals) = (number < 256) × (level < 256) × IsSize parameters × IsSize locals
IsRanged (Code (Items line label items)) = AllByRecursion IsGood items
IsRanged _ = Unit {0}

-- States that a keyword which is a mnemonic has a valid opcode.
abbrev IsKnown : Keyword → Type 0
IsKnown (Mnemonic op) = op < 256
IsKnown _ = Unit {0}

named_small : (name : List ℕ) (from count op : ℕ) → named_from name from count ≡ Some op → op < from + count
named_small name from zero op e = absurd (cc)
named_small name from (suc count) op e = by (bytes_eq name (mnemonic_of from)) e (λ f. named_small name (from + 1) count op f)
  where
    by : (b : Bool) → (if b then Some from else named_from name (from + 1) count) ≡ Some op
        → (named_from name (from + 1) count ≡ Some op → op < from + 1 + count) → op < from + suc count
    by true e more = omega (arith, some_is from op e)
    by false e more = omega (arith, more e)

directives_known : AllByRecursion (λ (e : Name × Keyword). IsKnown e.1) directives
unfolding directives
directives_known = (tt, (tt, (tt, (tt, (tt, (tt, tt))))))

keyword_known : (name : List ℕ) (keyword : Keyword) → keyword_of name ≡ Some keyword → IsKnown keyword
unfolding keyword_of
keyword_known name keyword e = by (lookup (bytes_eq name) directives) refl e
  where
    opcode : (op : Option ℕ) → named_from name 0 256 ≡ op → mnemonic_keyword op ≡ Some keyword → IsKnown keyword
    opcode None f e = absurd (cc)
    opcode (Some op) f e = subst IsKnown (some_is (Mnemonic op) keyword e) (named_small name 0 256 op f)

    by : (found : Option Keyword) → lookup (bytes_eq name) directives ≡ found → keyword_or name found ≡ Some keyword → IsKnown keyword
    by None f e = opcode (named_from name 0 256) refl e
    by (Some k) f e = subst IsKnown (some_is k keyword e) (found_in IsKnown (bytes_eq name) directives k directives_known f)

abbrev pair_with : ℕ → Bool → Operand ℕ
pair_with n in_range = Some (n, in_range)

abbrev flawed : {A : Type 0} → A → Flaw → Said A
flawed x flaw = Some (x, flaw)

abbrev named : Name → ℕ × Bool → Operand Statement
named name k = Some (Segment k.0 name, k.1)

segment_ranged : (texts : List (List ℕ)) (s : Statement) → segment_operands texts ≡ Some (s, true) → IsRanged s
segment_ranged [] s e = absurd (cc)
segment_ranged (n ∷ []) s e = absurd (cc)
segment_ranged (n ∷ name ∷ more ∷ others) s e = absurd (cc)
segment_ranged (n ∷ name ∷ []) s e = by (is_segment_name name) refl e
  where
    by : (b : Bool) → is_segment_name name ≡ b → (if b then (slot_operand n >>= named name) else None) ≡ Some (s, true) → IsRanged s
    by false f e = absurd (cc)
    by true f e =
        let b = bound (slot_operand n) (named name) (s, true) e in
        let k = b.value in
        let parts = pair_is (Segment k.0 name) s k.1 true b.next in
        let small : k.0 ≤ 15 = slot_small n k.0 (b.first ∙ ap (pair_with k.0) parts.1) in
        subst IsRanged parts.0 (omega (arith, small), f)

none_said : (said t : Statement) (texts : List (List ℕ)) → no_operands t texts ≡ Some (said, true) → t ≡ said
none_said said t [] e = let p = pair_is t said true true e in p.0
none_said said t (text ∷ texts) e = absurd (cc)

entry_ranged : (line : ℕ) (texts : List (List ℕ)) (s : Statement) → entry_operands line texts ≡ Some (s, true) → IsRanged s
entry_ranged line [] s e = absurd (cc)
entry_ranged line (name ∷ []) s e =
    let b : Bound (label_operand name) (λ label. Some (Entry line label.0, label.1)) (s, true) =
    bound (label_operand name) (λ label. Some (Entry line label.0, label.1)) (s, true) e in
    let label = b.value in
    let parts = pair_is (Entry line label.0) s label.1 true b.next in
    subst IsRanged parts.0 tt
entry_ranged line (name ∷ other ∷ others) s e = absurd (cc)

abbrev sized : ℕ × Bool → Operand ℕ
sized n = Some (n.0, n.1 && is_even n.0)

size_ranged : (text : List ℕ) (v : ℕ) → size_operand text ≡ Some (v, true) → IsSize v
size_ranged text v e =
    let b = bound (numeral_operand 0 65534 65536 text) sized (v, true) e in
    let n = b.value in
    let parts = pair_is n.0 v (n.1 && is_even n.0) true b.next in
    let tests = both n.1 (is_even n.0) parts.1 in
    let wide : n.0 < 65536 = numeral_below 0 65534 65536 text n.0 n.1 (omega arith) b.first in
    let even : n.0 % 2 ≡ 0 = eqb-true (n.0 % 2) 0 tests.1 in
    subst IsSize parts.0 (wide, even)

well_sized : (text : List ℕ) (v : ℕ × Bool) → size_operand text ≡ Some v → v.1 ≡ true → IsSize v.0
well_sized text v e f = size_ranged text v.0 (e ∙ ap (pair_with v.0) f)

abbrev begun : ℕ × Bool → ℕ × Bool → ℕ × Bool → ℕ × Bool → Operand Statement
begun p level parameters locals = Some (Begin p.0 level.0 parameters.0 locals.0, p.1 && level.1 && parameters.1 && locals.1)

begin_ranged : (p level parameters locals : List ℕ) (s : Statement) → procedure_operands (p ∷ level ∷ parameters ∷ locals ∷ []) ≡ Some (s, true) → IsRanged s
begin_ranged p level parameters locals s e =
    let a = bound (numeral_operand 0 255 256 p)
    (λ x. numeral_operand 128 127 256 level >>= λ y. size_operand parameters >>= λ z. size_operand locals >>= λ w. begun x y z w) (s, true) e in
    let b = bound (numeral_operand 128 127 256 level) (λ y. size_operand parameters >>= λ z. size_operand locals >>= λ w. begun a.value y z w)
    (s, true) a.next in
    let c = bound (size_operand parameters) (λ z. size_operand locals >>= λ w. begun a.value b.value z w) (s, true) b.next in
    let d = bound (size_operand locals) (λ w. begun a.value b.value c.value w) (s, true) c.next in
    let x = a.value in
    let y = b.value in
    let z = c.value in
    let w = d.value in
    let parts = pair_is (Begin x.0 y.0 z.0 w.0) s (x.1 && y.1 && z.1 && w.1) true d.next in
    let tests = all_four x.1 y.1 z.1 w.1 parts.1 in
    let low : x.0 < 256 = numeral_below 0 255 256 p x.0 x.1 (omega arith) a.first in
    let high : y.0 < 256 = numeral_below 128 127 256 level y.0 y.1 (omega arith) b.first in
    let ranges : IsRanged (Begin x.0 y.0 z.0 w.0) = (low, high, well_sized parameters z c.first tests.0, well_sized locals w d.first tests.1) in
    subst IsRanged {x = Begin x.0 y.0 z.0 w.0} parts.0 ranges
  where
    all_four : (a b c d : Bool) → (a && b && c && d) ≡ true → (c ≡ true) × (d ≡ true)
    all_four true true true true e = (refl, refl)
    all_four true true true false e = absurd (cc)
    all_four true true false d e = absurd (cc)
    all_four true false c d e = absurd (cc)
    all_four false b c d e = absurd (cc)

procedure_ranged : (texts : List (List ℕ)) (s : Statement) → procedure_operands texts ≡ Some (s, true) → IsRanged s
procedure_ranged [] s e = absurd (cc)
procedure_ranged (p ∷ []) s e = absurd (cc)
procedure_ranged (p ∷ level ∷ []) s e = absurd (cc)
procedure_ranged (p ∷ level ∷ parameters ∷ []) s e = absurd (cc)
procedure_ranged (p ∷ level ∷ parameters ∷ locals ∷ other ∷ others) s e = absurd (cc)
procedure_ranged (p ∷ level ∷ parameters ∷ locals ∷ []) s e = begin_ranged p level parameters locals s e

ones_good : (bs : List ℕ) → AllByRecursion IsByte bs → AllByRecursion IsGood (map OneByte bs)
ones_good [] h = tt
ones_good (b ∷ bs) h = (h.0, ones_good bs h.1)

abbrev bytes_of : List ℕ × Bool → Operand (List (Item Name))
bytes_of bs = Some (map OneByte bs.0, bs.1)

bytes_good : (texts : List (List ℕ)) (items : List (Item Name)) → bytes_said texts ≡ Some (items, true) → AllByRecursion IsGood items
bytes_good [] items e = absurd (cc)
bytes_good (text ∷ texts) items e =
    let b = bound (all_operands byte_operand (text ∷ texts)) bytes_of (items, true) e in
    let bs = b.value in
    let parts = pair_is (map OneByte bs.0) items bs.1 true b.next in
    subst (AllByRecursion IsGood) parts.0 (ones_good bs.0 (all_ranged IsByte byte_operand byte_ranged (text ∷ texts) bs b.first))

item_good : (op : ℕ) (texts : List (List ℕ)) (items : List (Item Name)) → op < 256
    → (instruction_said (form_of op) op texts >>= one_item) ≡ Some (items, NoFlaw) → AllByRecursion IsGood items
item_good op texts items o e =
    let b = bound (instruction_said (form_of op) op texts) one_item (items, NoFlaw) e in
    let x = b.value in
    let parts = pair_is (x.0 ∷ []) items x.1 NoFlaw b.next in
    let right : instruction_said (form_of op) op texts ≡ Some (x.0, NoFlaw) = b.first ∙ ap (flawed x.0) parts.1 in
    subst (AllByRecursion IsGood) parts.0 (instruction_good (form_of op) op texts x.0 o refl right, tt)

items_good : (keyword : Keyword) (rest : List ℕ) (items : List (Item Name)) → IsKnown keyword → items_said keyword rest ≡ Some (items, NoFlaw)
    → AllByRecursion IsGood items
items_good OfBytes rest items k e = bytes_good (operands rest) items (checked_is (bytes_said (operands rest)) items e)
items_good (Mnemonic op) rest items k e = item_good op (operands rest) items k e
items_good OfSegment rest items k e = absurd (cc)
items_good OfProcedure rest items k e = absurd (cc)
items_good OfExit rest items k e = absurd (cc)
items_good OfJump rest items k e = absurd (cc)
items_good OfEnd rest items k e = absurd (cc)

code_ranged : (line : ℕ) (label : Option Name) (keyword : Keyword) (rest : List ℕ) (s : Statement) → IsKnown keyword
    → code_said line label (items_said keyword rest) ≡ Some (s, NoFlaw) → IsRanged s
code_ranged line label keyword rest s k e = by (items_said keyword rest) refl e
  where
    by : (o : Said (List (Item Name))) → items_said keyword rest ≡ o → code_said line label o ≡ Some (s, NoFlaw) → IsRanged s
    by None f e = absurd (cc)
    by (Some (items, flaw)) f e =
        let p = pair_is (Code (Items line label items)) s flaw NoFlaw e in
        let right : items_said keyword rest ≡ Some (items, NoFlaw) = f ∙ ap (flawed items) p.1 in
        subst IsRanged p.0 (items_good keyword rest items k right)

said_ranged : (line : ℕ) (keyword : Keyword) (rest : List ℕ) (s : Statement) → IsKnown keyword → said line keyword rest ≡ Some (s, NoFlaw) → IsRanged s
said_ranged line OfSegment rest s k e = segment_ranged (words rest) s (checked_is (segment_operands (words rest)) s e)
said_ranged line OfProcedure rest s k e = procedure_ranged (words rest) s (checked_is (procedure_operands (words rest)) s e)
said_ranged line OfExit rest s k e = subst IsRanged (none_said s (Code Exit) (words rest) (checked_is (no_operands (Code Exit) (words rest)) s e)) tt
said_ranged line OfJump rest s k e = entry_ranged line (words rest) s (checked_is (entry_operands line (words rest)) s e)
said_ranged line OfEnd rest s k e = subst IsRanged (none_said s End (words rest) (checked_is (no_operands End (words rest)) s e)) tt
said_ranged line OfBytes rest s k e = code_ranged line None OfBytes rest s k e
said_ranged line (Mnemonic op) rest s k e = code_ranged line None (Mnemonic op) rest s k e

says_is : (s t : Statement) (flaw other : Flaw) → Says s flaw ≡ Says t other → (s ≡ t) × (flaw ≡ other)
says_is s t flaw other e = (cc, cc)

saying_is : (end : Bool) (o : Said Statement) (s : Statement) → saying end o ≡ Says s NoFlaw → o ≡ Some (s, NoFlaw)
saying_is end None s e = absurd (cc)
saying_is end (Some (t, flaw)) s e = let p = says_is t s flaw NoFlaw e in let one = p.0 in let other = p.1 in cc

spoken_ranged : (line : ℕ) (rest : List ℕ) (keyword : Option Keyword) (s : Statement) → ((k : Keyword) → keyword ≡ Some k → IsKnown k)
    → spoken line rest keyword ≡ Says s NoFlaw → IsRanged s
spoken_ranged line rest None s k e = absurd (cc)
spoken_ranged line rest (Some keyword) s k e =
    said_ranged line keyword rest s (k keyword refl) (saying_is (ends_procedure keyword) (said line keyword rest) s e)

labelled_by_ranged : (line : ℕ) (label rest : List ℕ) (keyword : Option Keyword) (s : Statement) → ((k : Keyword) → keyword ≡ Some k → IsKnown k)
    → labelled_by line label rest keyword ≡ Says s NoFlaw → IsRanged s
labelled_by_ranged line label rest None s k e = absurd (cc)
labelled_by_ranged line label rest (Some keyword) s k e = by (is_name label) e
  where
    by : (b : Bool) → (if b then saying false (code_said line (Some label) (items_said keyword rest)) else Wrong false) ≡ Says s NoFlaw → IsRanged s
    by true e = code_ranged line (Some label) keyword rest s (k keyword refl) (saying_is false (code_said line (Some label) (items_said keyword rest)) s e)
    by false e = absurd (cc)

labelled_ranged : (line : ℕ) (label rest word : List ℕ) (s : Statement) → labelled line label rest word ≡ Says s NoFlaw → IsRanged s
labelled_ranged line label rest [] s e = by (is_name label) e
  where
    by : (b : Bool) → (if b then Says (Code (Items line (Some label) [])) NoFlaw else Wrong false) ≡ Says s NoFlaw → IsRanged s
    by true e = let p = says_is (Code (Items line (Some label) [])) s NoFlaw NoFlaw e in subst IsRanged p.0 tt
    by false e = absurd (cc)
labelled_ranged line label rest (c ∷ cs) s e = labelled_by_ranged line label rest (keyword_of (c ∷ cs)) s (λ k f. keyword_known (c ∷ cs) k f) e

words_ranged : (line : ℕ) (k : Cut) (label : Option Name) (s : Statement) → line_of_words line k label ≡ Says s NoFlaw → IsRanged s
words_ranged line k None s e = spoken_ranged line k.rest (keyword_of k.word) s (λ keyword f. keyword_known k.word keyword f) e
words_ranged line k (Some label) s e = let next : Cut = cut k.rest in labelled_ranged line label next.rest next.word s e

line_ranged : (line : ℕ) (text : List ℕ) (s : Statement) → line_of line text ≡ Says s NoFlaw → IsRanged s
unfolding line_of
line_ranged line text s e = by (list_all is_character text) (cut (uncommented false text)) e
  where
    word : (b : Bool) (k : Cut) → (if b then Blank else line_of_words line k (label_of k.word)) ≡ Says s NoFlaw → IsRanged s
    word true k e = absurd (cc)
    word false k e = words_ranged line k (label_of k.word) s e

    by : (good : Bool) (k : Cut) → line_by line good k ≡ Says s NoFlaw → IsRanged s
    by false k e = absurd (cc)
    by true k e = word (is_empty k.word) k e

line_said : (line : ℕ) (text : List ℕ) (l : Line) (rest : List Line) (said : List Statement) → line_of line text ≡ l → AreSaid (l ∷ rest) said
    → ((said : List Statement) → AreSaid rest said → AllByRecursion IsRanged said) → AllByRecursion IsRanged said
line_said line text Blank rest said f h more = more said h
line_said line text (Wrong end) rest said f h more = absurd h
line_said line text Strange rest said f h more = absurd h
line_said line text (Says s flaw) rest [] f h more = absurd h
line_said line text (Says s flaw) rest (t ∷ said) f h more =
    let behind = h.1 in
    let same : line_of line text ≡ Says t NoFlaw = f ∙ ap (λ u. Says u flaw) behind.0 ∙ ap (Says t) h.0 in
    (line_ranged line text t same, more said behind.1)

lines_ranged : (line : ℕ) (texts : List (List ℕ)) (said : List Statement) → AreSaid (lines_from line texts) said → AllByRecursion IsRanged said
lines_ranged line [] said h = subst (AllByRecursion IsRanged) (sym h) tt
lines_ranged line (text ∷ texts) said h =
    line_said line text (line_of line text) (lines_from (line + 1) texts) said refl h (λ more k. lines_ranged (line + 1) texts more k)

-- If the lines of a text state some statements without flaws, then the values of these statements are in their ranges.
pub said_ranges : (text : List ℕ) (said : List Statement) → AreSaid (lines_of text) said → AllByRecursion IsRanged said
said_ranges text said h = lines_ranged 1 (lines text) said h
