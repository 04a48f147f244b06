-- Maps from the values of the code to the values of the definitions.
use Rattle.std.specs.Prelude.{ℕ, ◌+◌, Bool, true, not, List, [], ◌∷◌, ◌++◌, ◌&&◌, Vec, Option}
use Rattle.std.specs.Prelude.{Some, None, map, length, option_map, false, if◌then◌else◌}
use Rattle.std.specs.Borrow.{Bor}
use Rattle.std.specs.List.{onto_first}
use Rattle.pm_code.specs.declared.item.Target.{Target}
use Rattle.pm_code.specs.declared.item.Item.{Item}
use Rattle.pm_line.specs.declared.item.Row.{Row}
use Rattle.pm_line.specs.declared.item.Row.TheVariants as rows
use Rattle.pm_line.specs.declared.item.Statement.{Statement}
use Rattle.pm_line.specs.declared.item.Statement.TheVariants as statements
use Rattle.pm_line.specs.declared.item.Flaw.{Flaw}
use Rattle.pm_line.specs.declared.item.Flaw.TheVariants as flaws
use Rattle.pm_line.specs.declared.item.Line.{Line}
use Rattle.pm_line.specs.declared.item.Line.TheVariants as lines
use Rattle.pm_line.specs.declared.spoken.SaidItems.{SaidItems}
use Rattle.pm_line.specs.declared.spoken.SaidItems.TheVariants as alone
use Rattle.pm_line.specs.declared.keyword.Keyword.{Keyword}
use Rattle.pm_line.specs.declared.keyword.Keyword.TheVariants as keywords
use Rattle.pm_line.specs.declared.operand.Number.{Number}
use Rattle.pm_code.specs.Item as model
use Rattle.pm_code.specs.Views.{item_seen, target_seen}
use Rattle.pm_source.specs.Words.{Cut, is_blank}
use Rattle.pm_source.specs.Source as source
use Rattle.pm_source.specs.Source.{Name}
use Rattle.pm_source.specs.Source.Row.{Items, Exit}
use Rattle.pm_source.specs.Source.Statement.{Segment, Begin, Code, Entry, End}
use Rattle.pm_source.specs.Line as text
use Rattle.pm_source.specs.Line.{Operand, Said, pieces}
use Rattle.pm_source.specs.Line.Flaw.{NoFlaw, OutOfRange, UnknownType}
use Rattle.pm_source.specs.Line.Line.{Blank, Wrong, Strange, Says}
use Rattle.pm_source.specs.Line.Keyword.{OfSegment, OfProcedure, OfExit, OfJump, OfEnd, OfBytes, Mnemonic}

abbrev pub text_seen : Bor (List ℕ) → List ℕ
text_seen t = t.now

abbrev pub texts_seen : List (Bor (List ℕ)) → List (List ℕ)
texts_seen ts = map text_seen ts

abbrev pub labelled_target : Target (Bor (List ℕ)) → model.Target Name
labelled_target target = target_seen text_seen target

-- An item of the code as an item of the definitions, in which labels are lists of bytes.
abbrev pub labelled_item : Item (Bor (List ℕ)) → model.Item Name
labelled_item item = item_seen text_seen item

abbrev pub items_seen : {R : Type 0} → Vec (Item (Bor (List ℕ))) R → List (model.Item Name)
items_seen list = map labelled_item list.items

-- The items that a line has, as a list.
abbrev pub said_items_seen : SaidItems → List (model.Item Name)
said_items_seen (alone.One item) = labelled_item item ∷ []
said_items_seen (alone.Many list) = items_seen list

abbrev pub row_seen : Row → source.Row
row_seen (rows.One line label item) = Items line (option_map text_seen label) (labelled_item item ∷ [])
row_seen (rows.Items line label list) = Items line (option_map text_seen label) (items_seen list)
row_seen rows.Exit = Exit

abbrev pub statement_seen : Statement → source.Statement
statement_seen (statements.Segment number name) = Segment number name.now
statement_seen (statements.Begin number level parameters locals) = Begin number level parameters locals
statement_seen (statements.Code row) = Code (row_seen row)
statement_seen (statements.Entry line label) = Entry line label.now
statement_seen statements.End = End

abbrev pub flaw_seen : Flaw → text.Flaw
flaw_seen flaws.NoFlaw = NoFlaw
flaw_seen flaws.OutOfRange = OutOfRange
flaw_seen flaws.UnknownType = UnknownType

-- A parsed line of the code as a line of the definitions.
abbrev pub line_seen : Line → text.Line
line_seen lines.Blank = Blank
line_seen (lines.Wrong ends) = Wrong ends
line_seen lines.Strange = Strange
line_seen (lines.Says said flaw) = Says (statement_seen said) (flaw_seen flaw)

abbrev pub keyword_seen : Keyword → text.Keyword
keyword_seen keywords.Segment = OfSegment
keyword_seen keywords.Procedure = OfProcedure
keyword_seen keywords.Exit = OfExit
keyword_seen keywords.Jump = OfJump
keyword_seen keywords.End = OfEnd
keyword_seen keywords.Bytes = OfBytes
keyword_seen (keywords.Mnemonic op) = Mnemonic op

abbrev pub number_seen : Number → ℕ × Bool
number_seen n = (n.value, n.long)

-- The pair `x` after `f` is applied to its first item.
abbrev pub pair_seen : {A B C : Type 0} → (A → B) → A × C → B × C
pair_seen f x = (f x.0, x.1)

abbrev pub operand_seen : {A B : Type 0} → (A → B) → Option (A × Bool) → Operand B
operand_seen f operand = option_map (pair_seen f) operand

abbrev pub said_seen : {A B : Type 0} → (A → B) → Option (A × Flaw) → Said B
said_seen f said = option_map (λ x. (f x.0, flaw_seen x.1)) said

abbrev pub range_flaw : Bool → text.Flaw
range_flaw in_range = if in_range then NoFlaw else OutOfRange

abbrev pub vec_seen : {A R : Type 0} → Vec A R → List A
vec_seen list = list.items

abbrev pub labels_seen : {R : Type 0} → Vec (Bor (List ℕ)) R → List Name
labels_seen list = texts_seen list.items

-- Whether a keyword is a directive whose operands are words: any directive except `.BYTE`.
abbrev pub is_directive : text.Keyword → Bool
is_directive OfBytes = false
is_directive (Mnemonic op) = false
is_directive _ = true

-- The pieces of the text after a comma, or no pieces if the argument is `None`.
abbrev pub pieces_behind : Option (List ℕ) → List (List ℕ)
pieces_behind None = []
pieces_behind (Some rest) = pieces false rest

-- A word and the text after it.
abbrev pub cut_seen : List ℕ → List ℕ → Cut
cut_seen word rest = record { word = word; rest = rest }

-- States that the list does not have exactly one text.
abbrev pub IsNotOne : List (List ℕ) → Type 0
IsNotOne (t ∷ []) = ⊥
IsNotOne _ = Unit {0}

-- States that the list does not have exactly two texts.
abbrev pub IsNotTwo : List (List ℕ) → Type 0
IsNotTwo (t ∷ u ∷ []) = ⊥
IsNotTwo _ = Unit {0}

-- States that the list does not have exactly four texts.
abbrev pub IsNotFour : List (List ℕ) → Type 0
IsNotFour (t ∷ u ∷ v ∷ w ∷ []) = ⊥
IsNotFour _ = Unit {0}

-- Whether a text begins with a character that is neither a space nor a tab.
abbrev pub begins_solid : List ℕ → Bool
begins_solid [] = false
begins_solid (c ∷ cs) = not (is_blank c)

-- A number that decreases with each piece that is read: 0 if no text remains, otherwise 1 plus the length of the text.
abbrev pub left : Option (List ℕ) → ℕ
left None = 0
left (Some rest) = 1 + length rest

-- The list of pieces `ps` after the characters are put before its first piece.
abbrev pub onto_piece : List ℕ → List (List ℕ) → List (List ℕ)
onto_piece [] ps = ps
onto_piece (c ∷ cs) ps = onto_first c (onto_piece cs ps)

-- The bytes after `bs` is put before them, or `None` if the argument is `None`.
abbrev pub onto_bytes : List ℕ → Option (List ℕ) → Option (List ℕ)
onto_bytes bs None = None
onto_bytes bs (Some cs) = Some (bs ++ cs)

-- The bytes that a text represents, from its first byte and its remaining characters.
abbrev pub first_unescaped : Option (ℕ × List ℕ) → Option (List ℕ)
first_unescaped None = None
first_unescaped (Some x) = onto_bytes (x.0 ∷ []) (text.unescaped x.1)

-- The bytes that the text between quotes represents, or `None` if the argument is `None`.
abbrev pub unescaped_if : Option (List ℕ) → Option (List ℕ)
unescaped_if None = None
unescaped_if (Some cs) = text.unescaped cs

-- The operands after `xs` is put before them, or `None` if the other operands are malformed. `good` states whether `xs`
-- is in range.
abbrev pub onto_operands : {A : Type 0} → List A → Bool → Operand (List A) → Operand (List A)
onto_operands xs good None = None
onto_operands xs good (Some more) = Some (xs ++ more.0, good && more.1)
