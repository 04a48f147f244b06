-- The statement that one line of a text contains, or the reason why it contains none.
use Rattle.std.specs.Prelude.{ℕ, zero, suc, ◌+◌, ◌-◌, ◌*◌, ◌%◌, Bool, true, false, not, List}
use Rattle.std.specs.Prelude.{[], ◌∷◌, ◌++◌, length, map, take, reverse, nat_le, ◌==◌, ◌||◌}
use Rattle.std.specs.Prelude.{◌&&◌, if◌then◌else◌, Option, Some, None, codes, slice_index}
use Rattle.std.specs.Map.{lookup}
use Rattle.std.specs.List.{list_all, onto_first}
use Rattle.std.specs.Str.{bytes_eq}
use Rattle.pm_codefile.specs.Segments.{◌>>=◌}
use Rattle.pm_opcode.specs.declared.operand_form.Form.{Form}
use Rattle.pm_opcode.specs.declared.operand_form.Form.TheVariants as forms
use Rattle.pm_opcode.specs.declared.instr.Instr.{Instr}
pub use Rattle.pm_opcode.specs.Standing.{bare}
use Rattle.pm_opcode.specs.Table.{form_of, mnemonic_of}
use Rattle.pm_opcode.specs.Spelling.{spelled_word, jump_count}
use Rattle.pm_code.specs.Item.{Item, Target}
use Rattle.pm_code.specs.Item.Item.{Plain, Jump, Case, OneByte}
use Rattle.pm_code.specs.Item.Target.{To, Through}
use Rattle.pm_code.specs.Program.{is_segment_name}
use Rattle.pm_source.specs.declared.number.Numeral.{Numeral}
use Rattle.pm_source.specs.Words.{Cut, is_empty, unindented, trimmed, cut, words, is_name, number, within, stored}
use Rattle.pm_source.specs.Source.{Name, Statement}
use Rattle.pm_source.specs.Source.Row.{Items, Exit}
use Rattle.pm_source.specs.Source.Statement.{Segment, Begin, Code, Entry, End}

-- What is wrong with a line that is well-formed and has a known mnemonic.
pub data Flaw : Type 0 where
  NoFlaw : Flaw
  -- A number is outside its range.
  OutOfRange : Flaw
  -- The type keyword of a comparison is unknown.
  UnknownType : Flaw

-- What a line contains.
pub data Line : Type 0 where
  Blank : Line
  -- The line is ill-formed. The field is true if the first word is `.END`.
  Wrong : Bool → Line
  -- The mnemonic or directive is unknown.
  Strange : Line
  Says : Statement → Flaw → Line

abbrev pub is_character : ℕ → Bool
is_character c = (c == 9) || (nat_le 32 c && nat_le c 126)

-- The characters before the first `;` that is outside quotes. `quoted` is true if a quote is open at the start.
abbrev pub uncommented : Bool → List ℕ → List ℕ
uncommented quoted [] = []
uncommented quoted (c ∷ cs) =
    if (c == 59) && not quoted then [] else c ∷ uncommented (if c == 34 then not quoted else quoted) cs

-- The pieces between the commas that are outside quotes. `quoted` is true if a quote is open at the start.
abbrev pub pieces : Bool → List ℕ → List (List ℕ)
pieces quoted [] = [] ∷ []
pieces quoted (c ∷ cs) =
    if (c == 44) && not quoted then [] ∷ pieces quoted cs else onto_first c
    (pieces (if c == 34 then not quoted else quoted) cs)

-- The operands after a mnemonic, separated by commas. The list is empty if only spaces and tabs follow the mnemonic.
abbrev pub operands : List ℕ → List (List ℕ)
operands cs = if is_empty (unindented cs) then [] else map trimmed (pieces false cs)

-- The type of the result of reading an operand: its value and whether it is in range, or `None` if the operand is
-- ill-formed.
abbrev pub Operand : Type 0 → Type 0
Operand A = Option (A × Bool)

abbrev pub numeral_operand : ℕ → ℕ → ℕ → List ℕ → Operand ℕ
numeral_operand below above w text = number text >>= λ n. Some (stored w n, within below above n)

abbrev pub byte_operand : List ℕ → Operand ℕ
byte_operand text = numeral_operand 0 255 256 text

-- Reads an operand that is a word, written as a signed or unsigned number.
abbrev pub word_operand : List ℕ → Operand ℕ
word_operand text = numeral_operand 32768 65535 65536 text

-- Reads a bound of XJP, which is a signed word.
abbrev pub bound_operand : List ℕ → Operand ℕ
bound_operand text = numeral_operand 32768 32767 65536 text

-- Whether a number ends with the mark `!`, which requests two bytes.
abbrev pub is_marked : List ℕ → Bool
is_marked text = nat_le 1 (length text) && (slice_index text (length text - 1) == 33)

abbrev pub number_operand : List ℕ → Operand (ℕ × Bool)
number_operand text = if is_marked text
    then (numeral_operand 0 127 65536 (take (length text - 1) text) >>= λ n. Some ((n.0, true), n.1))
    else (numeral_operand 0 32767 65536 text >>= λ n. Some ((n.0, false), n.1))

abbrev pub label_operand : List ℕ → Operand Name
label_operand text = if is_name text then Some (text, true) else None

-- Reads the target of a jump: a label, or `^k` for entry k of the jump table.
abbrev pub jump_operand : List ℕ → Operand (Target Name)
jump_operand [] = None
jump_operand (c ∷ cs) = if c == 94 then (numeral_operand 0 59 256 cs >>= λ k. Some (Through k.0, k.1))
    else label_operand (c ∷ cs) >>= λ label. Some (To label.0, label.1)

abbrev pub lower_hex : ℕ → Option ℕ
lower_hex c =
    if nat_le 48 c && nat_le c 57 then Some (c - 48) else if nat_le 97 c && nat_le c 102 then Some (c - 87) else None

-- Whether `c` is a character from 32 to 126 except the quote and the backslash.
abbrev pub is_plain : ℕ → Bool
is_plain c = nat_le 32 c && nat_le c 126 && not ((c == 34) || (c == 92))

-- The bytes that the characters between two quotes denote. A `\` and two lower case hexadecimal digits are one byte.
abbrev pub unescaped : List ℕ → Option (List ℕ)
unescaped [] = Some []
unescaped (c ∷ []) = if is_plain c then Some (c ∷ []) else None
unescaped (c ∷ d ∷ []) = if is_plain c then (unescaped (d ∷ []) >>= λ cs. Some (c ∷ cs)) else None
unescaped (c ∷ d ∷ e ∷ rest) = if c == 92
    then (lower_hex d >>= λ high. lower_hex e >>= λ low. unescaped rest >>= λ cs. Some ((16 * high + low) ∷ cs))
    else if is_plain c then (unescaped (d ∷ e ∷ rest) >>= λ cs. Some (c ∷ cs)) else None

-- The bytes between a first quote `c` and a last quote. The characters after `c` are given in reverse.
abbrev pub unquoted : ℕ → List ℕ → Option (List ℕ)
unquoted c [] = None
unquoted c (d ∷ inner) = if (c == 34) && (d == 34) then unescaped (reverse inner) else None

-- The bytes of an operand that is a text in quotes: `"text"`.
abbrev pub text_operand : List ℕ → Option (List ℕ)
text_operand [] = None
text_operand (c ∷ cs) = unquoted c (reverse cs)

-- Reads all operands by the same function. The result is in range if each of them is in range.
abbrev pub all_operands : {A : Type 0} → (List ℕ → Operand A) → List (List ℕ) → Operand (List A)
all_operands operand [] = Some ([], true)
all_operands operand (text ∷ texts) = do
  x ← operand text
  more ← all_operands operand texts
  Some (x.0 ∷ more.0, x.1 && more.1)

abbrev pub plain : Instr → Item Name
plain i = Plain i []

-- The least and the greatest number of the opcodes with one mnemonic that contain their number. `op` is the first of
-- these opcodes. The result is `None` for any other opcode.
abbrev pub short_range : ℕ → Option (ℕ × ℕ)
short_range op =
    if op == 0 then Some (0, 127)
    else if op == 216 then Some (1, 16)
    else if op == 232 then Some (1, 16)
    else if op == 248 then Some (0, 7)
    else None

-- The opcode that contains the number `n`, if `n` is in range. Otherwise it is `op`, the first opcode with this
-- mnemonic.
abbrev pub short_opcode : ℕ → ℕ → Bool → ℕ → ℕ
short_opcode op least in_range n = if in_range then op + (n - least) else op

abbrev pub short_number : ℕ → ℕ × ℕ → Numeral → Item Name × Bool
short_number op range n =
    let in_range = nat_le range.0 (stored 256 n) && within 0 range.1 n in
    (plain (bare (short_opcode op range.0 in_range (stored 256 n))), in_range)

abbrev pub short_instruction : ℕ → ℕ × ℕ → List (List ℕ) → Operand (Item Name)
short_instruction op range (text ∷ []) = number text >>= λ n. Some (short_number op range n)
short_instruction op range _ = None

abbrev pub bare_instruction : ℕ → Option (ℕ × ℕ) → List (List ℕ) → Operand (Item Name)
bare_instruction op (Some range) texts = short_instruction op range texts
bare_instruction op None [] = Some (plain (bare op), true)
bare_instruction op None _ = None

-- Reads the operands of an instruction that has one number. The function `operand` reads this number.
abbrev pub one_number : (List ℕ → Operand ℕ) → ℕ → List (List ℕ) → Operand (Item Name)
one_number operand op (text ∷ []) = operand text >>= λ a. Some (plain (record (bare op) { a = a.0 }), a.1)
one_number operand op _ = None

abbrev pub one_long_number : ℕ → List (List ℕ) → Operand (Item Name)
one_long_number op (text ∷ []) =
    number_operand text >>= λ a. Some (plain (record (bare op) { a = a.0.0; long = a.0.1 }), a.1)
one_long_number op _ = None

abbrev pub two_bytes : ℕ → List (List ℕ) → Operand (Item Name)
two_bytes op (text ∷ other ∷ []) = do
  a ← byte_operand text
  b ← byte_operand other
  Some (plain (record (bare op) { a = a.0; b = b.0 }), a.1 && b.1)
two_bytes op _ = None

abbrev pub byte_and_number : ℕ → List (List ℕ) → Operand (Item Name)
byte_and_number op (text ∷ other ∷ []) = do
  a ← byte_operand text
  b ← number_operand other
  Some (plain (record (bare op) { a = a.0; b = b.0.0; long = b.0.1 }), a.1 && b.1)
byte_and_number op _ = None

abbrev pub few : {A : Type 0} → List A → Bool
few xs = nat_le (length xs) 255

-- The item of an instruction with the text `text`. If the text is too long, the item has no text.
abbrev pub text_item : ℕ → List ℕ → Item Name
text_item op text =
    if few text then Plain (record (bare op) { a = length text; count = length text }) text else plain (bare op)

abbrev pub one_text : ℕ → List (List ℕ) → Operand (Item Name)
one_text op (text ∷ []) = text_operand text >>= λ t. Some (text_item op t, few t)
one_text op _ = None

abbrev pub flat_words : List ℕ → List ℕ
flat_words [] = []
flat_words (w ∷ ws) = spelled_word w ++ flat_words ws

-- The item of an instruction with the words `ws`. If there are too many words, the item has no words.
abbrev pub words_item : ℕ → List ℕ → Item Name
words_item op ws =
    if few ws then Plain (record (bare op) { a = length ws; count = 2 * length ws }) (flat_words ws) else plain
    (bare op)

abbrev pub many_words : ℕ → List (List ℕ) → Operand (Item Name)
many_words op texts = all_operands word_operand texts >>= λ ws. Some (words_item op ws.0, ws.1 && few ws.0)

abbrev pub one_jump : ℕ → List (List ℕ) → Operand (Item Name)
one_jump op (text ∷ []) = jump_operand text >>= λ t. Some (Jump op t.0, t.1)
one_jump op _ = None

-- Reads the operands of XJP: two bounds, a jump, and one label for each number from the low to the high bound.
abbrev pub case_jump : List (List ℕ) → Operand (Item Name)
case_jump (text ∷ other ∷ target ∷ labels) = do
  low ← bound_operand text
  high ← bound_operand other
  otherwise ← jump_operand target
  places ← all_operands label_operand labels
  Some (
    Case low.0 high.0 otherwise.0 places.0,
    low.1 && high.1 && otherwise.1
        && (length places.0 == jump_count low.0 high.0),
  )
case_jump _ = None

-- Reads the operands of an instruction, by its operand format. Comparisons are read separately.
abbrev pub instruction : Form → ℕ → List (List ℕ) → Operand (Item Name)
instruction forms.Plain op texts = bare_instruction op (short_range op) texts
instruction forms.Ub op texts = one_number byte_operand op texts
instruction forms.Db op texts = one_number byte_operand op texts
instruction forms.W op texts = one_number word_operand op texts
instruction forms.B op texts = one_long_number op texts
instruction forms.UbUb op texts = two_bytes op texts
instruction forms.UbB op texts = byte_and_number op texts
instruction forms.DbB op texts = byte_and_number op texts
instruction forms.Chars op texts = one_text op texts
instruction forms.Words op texts = many_words op texts
instruction forms.Sb op texts = one_jump op texts
instruction forms.Jumps op texts = case_jump texts
instruction forms.Typed op texts = None
instruction forms.Unassigned op texts = None

-- The type keywords of comparisons without a size, and their type bytes.
abbrev pub type_words : List (Name × ℕ)
type_words = (codes "REAL", 2) ∷ (codes "STR", 4) ∷ (codes "BOOL", 6) ∷ (codes "SET", 8) ∷ []

-- The type keywords of comparisons with a size, and their type bytes.
abbrev pub sized_type_words : List (Name × ℕ)
sized_type_words = (codes "BYTES", 10) ∷ (codes "WORDS", 12) ∷ []

abbrev pub Said : Type 0 → Type 0
Said A = Option (A × Flaw)

abbrev pub checked : {A : Type 0} → Operand A → Said A
checked None = None
checked (Some x) = Some (x.0, if x.1 then NoFlaw else OutOfRange)

abbrev pub sized_comparison : ℕ → List (List ℕ) → Option ℕ → Said (Item Name)
sized_comparison op (n ∷ []) (Some type) =
    checked (number_operand n >>= λ b. Some (plain (record (bare op) { a = type; b = b.0.0; long = b.0.1 }), b.1))
sized_comparison op others (Some type) = None
sized_comparison op others None = Some (plain (bare op), UnknownType)

abbrev pub comparison_by : ℕ → Name → List (List ℕ) → Option ℕ → Said (Item Name)
comparison_by op name [] (Some type) = Some (plain (record (bare op) { a = type }), NoFlaw)
comparison_by op name (other ∷ others) (Some type) = None
comparison_by op name others None = sized_comparison op others (lookup (bytes_eq name) sized_type_words)

-- Reads the operand of a comparison, which is given as words: a type keyword, and a size if the type has one.
abbrev pub comparison : ℕ → List (List ℕ) → Said (Item Name)
comparison op [] = None
comparison op (name ∷ others) = comparison_by op name others (lookup (bytes_eq name) type_words)

abbrev pub one_comparison : ℕ → List (List ℕ) → Said (Item Name)
one_comparison op (text ∷ []) = comparison op (words text)
one_comparison op _ = None

abbrev pub instruction_said : Form → ℕ → List (List ℕ) → Said (Item Name)
instruction_said forms.Typed op texts = one_comparison op texts
instruction_said form op texts = checked (instruction form op texts)

-- The kind of the first word of a line, or of the first word after the label.
pub data Keyword : Type 0 where
  OfSegment : Keyword
  OfProcedure : Keyword
  OfExit : Keyword
  OfJump : Keyword
  OfEnd : Keyword
  OfBytes : Keyword
  -- A mnemonic. The field is the first opcode with this mnemonic.
  Mnemonic : ℕ → Keyword

unfoldable pub directives : List (Name × Keyword)
directives =
    (codes ".SEG", OfSegment) ∷
    (codes ".PROC", OfProcedure) ∷
    (codes ".EXIT", OfExit) ∷
    (codes ".JUMP", OfJump) ∷
    (codes ".END", OfEnd) ∷
    (codes ".BYTE", OfBytes) ∷
    []

-- The first of the `count` opcodes from `op` on that has the mnemonic `name`.
abbrev pub named_from : List ℕ → ℕ → ℕ → Option ℕ
named_from name op zero = None
named_from name op (suc count) = if bytes_eq name (mnemonic_of op) then Some op else named_from name (op + 1) count

abbrev pub mnemonic_keyword : Option ℕ → Option Keyword
mnemonic_keyword None = None
mnemonic_keyword (Some op) = Some (Mnemonic op)

abbrev pub keyword_or : List ℕ → Option Keyword → Option Keyword
keyword_or name None = mnemonic_keyword (named_from name 0 256)
keyword_or name (Some keyword) = Some keyword

unfoldable pub keyword_of : List ℕ → Option Keyword
keyword_of name = keyword_or name (lookup (bytes_eq name) directives)

-- The number of the segment. If it is out of range, it is 16, which no segment has.
abbrev pub segment_number : Numeral → ℕ
segment_number n = if within 0 15 n then n.magnitude else 16

abbrev pub slot_operand : List ℕ → Operand ℕ
slot_operand text = number text >>= λ n. Some (segment_number n, within 0 15 n)

-- Reads the operands of a segment: a number and a name.
abbrev pub segment_operands : List (List ℕ) → Operand Statement
segment_operands (n ∷ name ∷ []) =
    if is_segment_name name then (slot_operand n >>= λ n. Some (Segment n.0 name, n.1)) else None
segment_operands _ = None

abbrev pub is_even : ℕ → Bool
is_even n = n % 2 == 0

abbrev pub size_operand : List ℕ → Operand ℕ
size_operand text = numeral_operand 0 65534 65536 text >>= λ n. Some (n.0, n.1 && is_even n.0)

abbrev pub procedure_operands : List (List ℕ) → Operand Statement
procedure_operands (p ∷ level ∷ parameters ∷ locals ∷ []) = do
  p ← numeral_operand 0 255 256 p
  level ← numeral_operand 128 127 256 level
  parameters ← size_operand parameters
  locals ← size_operand locals
  Some (Begin p.0 level.0 parameters.0 locals.0, p.1 && level.1 && parameters.1 && locals.1)
procedure_operands _ = None

abbrev pub entry_operands : ℕ → List (List ℕ) → Operand Statement
entry_operands line (name ∷ []) = label_operand name >>= λ label. Some (Entry line label.0, label.1)
entry_operands line _ = None

abbrev pub no_operands : Statement → List (List ℕ) → Operand Statement
no_operands said [] = Some (said, true)
no_operands said _ = None

abbrev pub bytes_said : List (List ℕ) → Operand (List (Item Name))
bytes_said [] = None
bytes_said texts = all_operands byte_operand texts >>= λ bs. Some (map OneByte bs.0, bs.1)

abbrev pub one_item : Item Name × Flaw → Said (List (Item Name))
one_item x = Some (x.0 ∷ [], x.1)

-- Reads the items of a line that has the given keyword and the text `rest` after it.
abbrev pub items_said : Keyword → List ℕ → Said (List (Item Name))
items_said OfBytes rest = checked (bytes_said (operands rest))
items_said (Mnemonic op) rest = instruction_said (form_of op) op (operands rest) >>= one_item
items_said _ rest = None

abbrev pub code_said : ℕ → Option Name → Said (List (Item Name)) → Said Statement
code_said line label None = None
code_said line label (Some x) = Some (Code (Items line label x.0), x.1)

-- Reads the statement of line `line`, which has the given keyword and the text `rest` after it.
abbrev pub said : ℕ → Keyword → List ℕ → Said Statement
said line OfSegment rest = checked (segment_operands (words rest))
said line OfProcedure rest = checked (procedure_operands (words rest))
said line OfExit rest = checked (no_operands (Code Exit) (words rest))
said line OfJump rest = checked (entry_operands line (words rest))
said line OfEnd rest = checked (no_operands End (words rest))
said line keyword rest = code_said line None (items_said keyword rest)

abbrev pub ends_procedure : Keyword → Bool
ends_procedure OfEnd = true
ends_procedure _ = false

abbrev pub saying : Bool → Said Statement → Line
saying end None = Wrong end
saying end (Some x) = Says x.0 x.1

-- The contents of a line without a label, by its keyword. If the keyword is `None`, the mnemonic or directive is
-- unknown.
abbrev pub spoken : ℕ → List ℕ → Option Keyword → Line
spoken line rest None = Strange
spoken line rest (Some keyword) = saying (ends_procedure keyword) (said line keyword rest)

abbrev pub labelled_by : ℕ → List ℕ → List ℕ → Option Keyword → Line
labelled_by line label rest None = Strange
labelled_by line label rest (Some keyword) =
    if is_name label then saying false (code_said line (Some label) (items_said keyword rest)) else Wrong false

-- The contents of a line with a label. An item follows the label if the line has another word.
abbrev pub labelled : ℕ → List ℕ → List ℕ → List ℕ → Line
labelled line label rest [] = if is_name label then Says (Code (Items line (Some label) [])) NoFlaw else Wrong false
labelled line label rest (c ∷ cs) = labelled_by line label rest (keyword_of (c ∷ cs))

-- The label of a word that ends with `:`. The word is given in reverse. The result is `None` for any other word.
abbrev pub label_before : List ℕ → Option Name
label_before [] = None
label_before (c ∷ label) = if c == 58 then Some (reverse label) else None

abbrev pub label_of : List ℕ → Option Name
label_of word = label_before (reverse word)

abbrev pub line_of_words : ℕ → Cut → Option Name → Line
line_of_words line k None = spoken line k.rest (keyword_of k.word)
line_of_words line k (Some label) = labelled line label (cut k.rest).rest (cut k.rest).word

-- The contents of a line, cut into its first word and the rest. The second argument states whether all its characters
-- are allowed.
abbrev pub line_by : ℕ → Bool → Cut → Line
line_by line false k = Wrong (bytes_eq k.word (codes ".END"))
line_by line true k = if is_empty k.word then Blank else line_of_words line k (label_of k.word)

-- The contents of the line with the number `line` and the characters `text`.
unfoldable pub line_of : ℕ → List ℕ → Line
line_of line text = line_by line (list_all is_character text) (cut (uncommented false text))
