-- The texts of hints.
use Rattle.std.specs.Prelude.{◌≡◌, ◌≢◌, ℕ, ◌==◌, List, [], ◌∷◌, ◌++◌, codes, Option, Some, None, if◌then◌else◌}
use Rattle.std.specs.Fmt.{decimal}
use Rattle.pm_asm.specs.Hints.{Hint}
use Rattle.pm_asm.specs.Hints.Hint.{Characters, Labels, BeforeLabelled, Takes, Stands, Meant, Words, Ended, Named}
use Rattle.pm_asm.specs.Hints.Hint.{Once, Reached, Odd, Counted}
use Rattle.pm_opcode.specs.declared.operand_form.Form.{Form}
use Rattle.pm_opcode.specs.declared.operand_form.Form.TheVariants as forms
use Rattle.pm_opcode.specs.Table.{form_of, mnemonic_of}
use Rattle.pm_source.specs.Line.{Keyword, Said, instruction_said, operands, short_range}
use Rattle.pm_source.specs.Line.Flaw.{NoFlaw}
use Rattle.pm_source.specs.Line.Keyword.{OfSegment, OfProcedure, OfExit, OfJump, OfEnd, OfBytes, Mnemonic}

-- Example operands of a form, as they are written in source text.
abbrev pub example : Form → List ℕ
example forms.Plain = []
example forms.Unassigned = []
example forms.Ub = codes "2"
example forms.Db = codes "2"
example forms.B = codes "5"
example forms.UbUb = codes "2, 1"
example forms.UbB = codes "1, 5"
example forms.DbB = codes "1, 5"
example forms.W = codes "500"
example forms.Words = codes "10, 20"
example forms.Chars = 34 ∷ codes "OK" ++ 34 ∷ []
example forms.Typed = codes "WORDS 5"
example forms.Sb = codes "L"
example forms.Jumps = codes "1, 2, OTHER, ONE, TWO"

-- The description of the operands of a form.
abbrev pub form_text : Form → List ℕ
form_text forms.Plain = codes "no operand"
form_text forms.Unassigned = codes "no operand"
form_text forms.Ub = codes "a number from 0 to 255"
form_text forms.Db = codes "a number from 0 to 255"
form_text forms.B = codes "a number from 0 to 32767"
form_text forms.UbUb = codes "two numbers from 0 to 255, separated by a comma"
form_text forms.UbB = codes "a number from 0 to 255, a comma, and a number from 0 to 32767"
form_text forms.DbB = codes "a number from 0 to 255, a comma, and a number from 0 to 32767"
form_text forms.W = codes "a number from -32768 to 65535"
form_text forms.Words = codes "up to 255 numbers from -32768 to 65535, separated by commas"
form_text forms.Chars = codes "a text of up to 255 bytes between double quotes"
form_text forms.Typed = codes "REAL, STR, BOOL, SET, BYTES n or WORDS n (n from 0 to 32767)"
form_text forms.Sb = codes "a label, or ^k for the k-th .JUMP line (k from 0 to 59)"
form_text forms.Jumps =
    codes "two numbers from -32768 to 32767, a label for all others, and one for each from the first to the second"

-- The text `, for example` with the mnemonic `name` and example operands of the form. It is empty if the form has none.
abbrev pub example_text : List ℕ → Form → List ℕ
example_text name forms.Plain = []
example_text name forms.Unassigned = []
example_text name form = codes ", for example " ++ name ++ 32 ∷ example form

-- The description of an instruction whose opcode includes its number, such as SLDC. `op` is the first opcode of its
-- mnemonic.
unfoldable pub range_text : ℕ → List ℕ
range_text op =
    if op == 0 then codes "SLDC takes a number from 0 to 127; LDCI takes larger ones"
    else if op == 216 then codes "SLDL takes a number from 1 to 16; LDL takes larger ones"
    else if op == 232 then codes "SLDO takes a number from 1 to 16; LDO takes larger ones"
    else codes "SIND takes a number from 0 to 7; IND takes larger ones"

abbrev pub takes_by : ℕ → Option (ℕ × ℕ) → List ℕ
takes_by op (Some range) = range_text op
takes_by op None =
    mnemonic_of op ++ codes " takes " ++ form_text (form_of op) ++ example_text (mnemonic_of op) (form_of op)

-- The description of the operands that the mnemonic of the opcode `op` takes: the number that the opcode includes, or
-- the operands of its form.
unfoldable pub takes_text : ℕ → List ℕ
takes_text op = takes_by op (short_range op)

-- The spelling of a mnemonic or a directive.
abbrev pub keyword_text : Keyword → List ℕ
keyword_text OfSegment = codes ".SEG"
keyword_text OfProcedure = codes ".PROC"
keyword_text OfExit = codes ".EXIT"
keyword_text OfJump = codes ".JUMP"
keyword_text OfEnd = codes ".END"
keyword_text OfBytes = codes ".BYTE"
keyword_text (Mnemonic op) = mnemonic_of op

-- The description of the operands of a mnemonic or a directive.
abbrev pub taken_text : Keyword → List ℕ
taken_text OfSegment =
    codes ".SEG takes a number from 0 to 15 and a name of 1 to 8 characters, for example .SEG 1 HELLO"
taken_text OfProcedure =
    codes ".PROC takes its number (counted from 1 in each segment), its level (from -128 to 127), "
    ++ codes "and its bytes of parameters and of locals (two per word, so both even), for example .PROC 1 0 0 4"
taken_text OfExit = codes ".EXIT takes no operand"
taken_text OfJump = codes ".JUMP takes a label, for example .JUMP L"
taken_text OfEnd = codes ".END takes no operand"
taken_text OfBytes = codes ".BYTE takes numbers from 0 to 255, separated by commas, for example .BYTE 1, 2"
taken_text (Mnemonic op) = takes_text op

-- The description of where a line with this keyword is allowed.
abbrev pub stands_text : Keyword → List ℕ
stands_text OfSegment = codes ".SEG must be outside procedures, so the procedure before it needs an .END"
stands_text OfProcedure =
    codes ".PROC must be after a .SEG, outside other procedures, and needs an .END on a later line"
stands_text OfExit = codes ".EXIT must be in a procedure, before its first .JUMP"
stands_text OfJump = codes ".JUMP must be in a procedure, before its .END"
stands_text OfEnd = codes ".END must be at the end of a procedure, after its .EXIT, which every procedure needs"
stands_text OfBytes =
    codes "instructions, .BYTE and labels must be in a procedure, after .PROC and before its first .JUMP"
stands_text (Mnemonic op) =
    codes "instructions, .BYTE and labels must be in a procedure, after .PROC and before its first .JUMP"

-- The text that states what may occur only once: a segment's number, `.EXIT` or a label.
abbrev pub once_text : Keyword → List ℕ
once_text OfSegment = codes "the text has a segment of that number already"
once_text OfExit = codes ".EXIT cannot be used again in the same procedure"
once_text _ = codes "the label cannot be defined again in the same procedure"

-- The text of a hint if this text is constant, else an empty text.
abbrev pub fixed_text : Hint → List ℕ
fixed_text Characters =
    codes "a text can contain only tabs and the characters 32 to 126; a file with others may be binary"
fixed_text Labels = codes "a label is a letter or _, then letters, digits and _ (at most 32 characters), and a colon"
fixed_text BeforeLabelled = codes "a label must be before an instruction or .BYTE, or on a line of its own"
fixed_text (Stands keyword) = stands_text keyword
fixed_text Words =
    codes "no mnemonic or directive is similar; write a colon after a label, and ; before a comment"
fixed_text Named = codes "no line of this procedure defines the label; labels are case-sensitive"
fixed_text (Once keyword) = once_text keyword
fixed_text _ = []

-- The text of the number of `.JUMP` lines, and of the number of jump table entries that the code uses.
abbrev pub counts_text : ℕ → ℕ → List ℕ
counts_text entries taken = decimal entries ++ codes "; its code uses " ++ decimal taken ++ codes ", from ^0 on"

-- The text of a hint.
unfoldable pub hint_text : Hint → List ℕ
hint_text (Takes keyword) = taken_text keyword
hint_text (Meant keyword) = codes "did you mean " ++ keyword_text keyword ++ codes "?"
hint_text Ended =
    codes "either the procedure has an odd number of bytes (add a NOP after its last instruction), "
    ++ codes "or not one .JUMP line per entry, from ^0 to the last ^k"
hint_text (Odd procedure bytes) = codes ".PROC " ++ decimal procedure ++ codes " has an odd number of bytes, "
    ++ decimal bytes ++ codes ": add a NOP after its last instruction, before any .JUMP, to make it even"
hint_text (Counted procedure entries taken) =
    codes ".JUMP lines of .PROC " ++ decimal procedure ++ codes ": " ++ counts_text entries taken
hint_text (Reached keyword) = keyword_text keyword ++ codes " reaches a label at most 127 bytes ahead; "
    ++ codes "to jump back or farther, write ^0 for the label, and a line .JUMP with the label before .END"
hint_text hint = fixed_text hint

-- Is true if the operands are well-formed and have no flaw.
abbrev pub AreTaken : {A : Type 0} → Said A → Type 0
AreTaken None = ⊥
AreTaken (Some said) = said.1 ≡ NoFlaw

-- States that the example in the hint for an instruction is valid. For every opcode, the example operands of its form
-- are one item without a flaw. Opcodes that include a number are excluded, because their hint has no example.
abbrev pub ExamplesAreTaken : Type 0
ExamplesAreTaken = (op : ℕ) → form_of op ≢ forms.Unassigned → short_range op ≡ None
    → AreTaken (instruction_said (form_of op) op (operands (example (form_of op))))
