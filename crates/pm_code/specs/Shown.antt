-- The text of programs.
use Rattle.std.specs.Prelude.{ℕ, ◌+◌, ◌-◌, Bool, List, [], ◌∷◌, ◌++◌, map, nat_lt, ◌==◌, if◌then◌else◌, codes}
use Rattle.std.specs.Fmt.{decimal}
unfoldable pub use Rattle.pm_bytes.specs.Decimals.{padded}
use Rattle.pm_opcode.specs.Table.{mnemonic_of, form_of}
use Rattle.pm_code.specs.Text.{operands_text, operand_texts, signed_text}
use Rattle.pm_code.specs.Item.{Item, Target, case_opcode, size}
use Rattle.pm_code.specs.Item.Item.{Plain, Jump, Case, OneByte}
use Rattle.pm_code.specs.Item.Target.{To, Through}
use Rattle.pm_code.specs.Program.{Procedure, Segment, is_among, item_places}

-- The text of words that follow another word. Each one follows a space.
abbrev pub words_text : List (List ℕ) → List ℕ
words_text [] = []
words_text (t ∷ ts) = 32 ∷ t ++ words_text ts

-- The text of a label: `L` and the offset `place` in at least five digits.
abbrev pub label_text : ℕ → List ℕ
label_text place = 76 ∷ padded 5 place

-- The text of the target of a jump: a label, or `^` and the number of the jump table entry.
abbrev pub target_text : Target ℕ → List ℕ
target_text (To place) = label_text place
target_text (Through k) = 94 ∷ decimal k

-- The first word of the text of an item.
abbrev pub front_text : Item ℕ → List ℕ
front_text (Plain i named) = mnemonic_of i.op
front_text (Jump op target) = mnemonic_of op
front_text (Case low high otherwise places) = mnemonic_of case_opcode
front_text (OneByte b) = codes ".BYTE"

-- The text of each operand of an item.
abbrev pub item_operands : Item ℕ → List (List ℕ)
item_operands (Plain i named) = operand_texts (form_of i.op) i named
item_operands (Jump op target) = target_text target ∷ []
item_operands (Case low high otherwise places) =
    signed_text low ∷ signed_text high ∷ target_text otherwise ∷ map label_text places
item_operands (OneByte b) = decimal b ∷ []

-- The text of `item`: its first word and its operands.
unfoldable pub shown_item : Item ℕ → List ℕ
shown_item item = front_text item ++ operands_text (item_operands item)

-- The offsets to which `items` jump, item by item. Jumps through the jump table are not included.
abbrev pub named_places : List (Item ℕ) → List ℕ
named_places [] = []
named_places (item ∷ items) = item_places item ++ named_places items

abbrev pub put_if : {A : Type 0} → Bool → A → List A → List A
put_if b x xs = if b then x ∷ xs else xs

-- The lines before offset `at`: its label if `at` is one of `used`, and `.EXIT` if the exit code begins at `at`. The
-- lines `rest` follow.
abbrev pub lines_at : List ℕ → ℕ → ℕ → List (List ℕ) → List (List ℕ)
lines_at used exit at rest =
    put_if (is_among used at) (label_text at ++ 58 ∷ []) (put_if (exit == at) (codes ".EXIT") rest)

-- The lines of `items`, the first of which begins at offset `at`. An offset of `used` has a label, and `exit` has
-- `.EXIT`.
abbrev pub code_lines : List ℕ → ℕ → ℕ → List (Item ℕ) → List (List ℕ)
code_lines used exit at [] = lines_at used exit at []
code_lines used exit at (item ∷ items) =
    lines_at used exit at ((32 ∷ 32 ∷ shown_item item) ∷ code_lines used exit (at + size at item) items)

-- The text of `level`, which is a byte, as a signed number.
abbrev pub level_text : ℕ → List ℕ
level_text level = if nat_lt level 128 then decimal level else 45 ∷ decimal (256 - level)

abbrev pub entry_line : ℕ → List ℕ
entry_line place = codes ".JUMP" ++ words_text (label_text place ∷ [])

-- The lines of procedure `p`, which has the number `number`. They show:
--
-- - its number, level and sizes,
-- - its code with the labels that a jump or an entry uses,
-- - the entries of its jump table, from entry 0.
abbrev pub procedure_lines : ℕ → Procedure → List (List ℕ)
procedure_lines number p =
    (codes ".PROC" ++ words_text (decimal number ∷ level_text p.level ∷ decimal p.parameters ∷ decimal p.locals ∷ []))
    ∷ (code_lines (named_places p.items ++ p.entries) p.exit p.start p.items
    ++ (map entry_line p.entries ++ codes ".END" ∷ []))

abbrev pub procedures_lines : ℕ → List Procedure → List (List ℕ)
procedures_lines number [] = []
procedures_lines number (p ∷ ps) = procedure_lines number p ++ procedures_lines (number + 1) ps

abbrev pub segment_line : ℕ → List ℕ → List ℕ
segment_line number name = codes ".SEG" ++ words_text (decimal number ∷ name ∷ [])

abbrev pub segment_lines : Segment → List (List ℕ)
segment_lines s = segment_line s.number s.name ∷ procedures_lines 1 s.procedures

abbrev pub segments_lines : List Segment → List (List ℕ)
segments_lines [] = []
segments_lines (s ∷ ss) = segment_lines s ++ segments_lines ss

-- The text of lines, with a line feed after each line.
abbrev pub joined : List (List ℕ) → List ℕ
joined [] = []
joined (line ∷ lines) = line ++ (10 ∷ joined lines)

-- The text of the program `ss`: the lines of its segments.
unfoldable pub program_text : List Segment → List ℕ
program_text ss = joined (segments_lines ss)
