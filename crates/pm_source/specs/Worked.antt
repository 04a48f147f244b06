-- Worked examples: results of the definitions for a few lines and texts, worked out by hand.
use Rattle.std.specs.Prelude.{◌≡◌, ℕ, Bool, true, false, List, [], ◌∷◌, ◌++◌, codes, Some, None}
use Rattle.pm_code.specs.Item.{Item}
use Rattle.pm_code.specs.Item.Item.{Plain, Jump, Case, OneByte}
use Rattle.pm_code.specs.Item.Target.{To, Through}
use Rattle.pm_source.specs.declared.fault.AsmFault.TheVariants.{Syntax, Unknown, Range, NoLabel, Twice, Far}
use Rattle.pm_source.specs.Faults.{faults}
use Rattle.pm_source.specs.Line.{Flaw, Line, bare, line_of}
use Rattle.pm_source.specs.Line.Flaw.{NoFlaw, OutOfRange, UnknownType}
use Rattle.pm_source.specs.Line.Line.{Blank, Wrong, Strange, Says}
use Rattle.pm_source.specs.Source.{Name}
use Rattle.pm_source.specs.Source.Row.{Items}
use Rattle.pm_source.specs.Source.Statement.{Segment, Begin, Code}

-- The text that consists of these lines, each with a line feed.
abbrev pub text_of : List (List ℕ) → List ℕ
text_of [] = []
text_of (line ∷ lines) = line ++ 10 ∷ text_of lines

-- The contents of line 7, if it has one item and no label.
abbrev pub item_line : Item Name → Flaw → Line
item_line item flaw = Says (Code (Items 7 None (item ∷ []))) flaw

-- The item of `LDCI` with the word `a`.
abbrev pub ldci : ℕ → Item Name
ldci a = Plain (record (bare 199) { a = a }) []

-- The item of `LDO` with the number `a`. `long` states whether the number is marked to have two bytes.
abbrev pub ldo : ℕ → Bool → Item Name
ldo a long = Plain (record (bare 169) { a = a; long = long }) []

-- The item of a comparison for equality with the type byte `type` and the size `size`.
abbrev pub equ : ℕ → ℕ → Item Name
equ type size = Plain (record (bare 175) { a = type; b = size }) []

-- The contents of lines, each of which is line 7 of its text.
pub record WorkedLines : Type 0 where
  -- Spaces, tabs and comments contain no statement.
  pub blank : line_of 7 (codes "   ; a comment") ≡ Blank
  pub commented : line_of 7 (codes "  SLDC 5 ; five") ≡ item_line (Plain (bare 5) []) NoFlaw
  pub tabbed : line_of 7 (9 ∷ codes "SLDC" ++ 9 ∷ codes "5" ++ 9 ∷ []) ≡ item_line (Plain (bare 5) []) NoFlaw
  -- The `:` of a label ends its word. If no space follows, the label is part of a word that is an unknown mnemonic.
  pub label : line_of 7 (codes "L1: NOP") ≡ Says (Code (Items 7 (Some (codes "L1")) (Plain (bare 215) [] ∷ []))) NoFlaw
  pub glued : line_of 7 (codes "L1:NOP") ≡ Strange
  -- An unknown mnemonic and an unknown directive.
  pub mnemonic : line_of 7 (codes "SPAM 3") ≡ Strange
  pub directive : line_of 7 (codes ".EQU X 3") ≡ Strange
  -- A missing operand and a missing comma.
  pub operand : line_of 7 (codes "FJP") ≡ Wrong false
  pub comma : line_of 7 (codes "CXP 1 2") ≡ Wrong false
  -- An ill-formed `.END` also ends its procedure, but not after a label.
  pub ends : line_of 7 (codes ".END 1") ≡ Wrong true
  pub ends_not : line_of 7 (codes "L1: .END") ≡ Wrong false
  -- A word: up to four hexadecimal digits, a negative number, or leading zeros.
  pub hexadecimal : line_of 7 (codes "LDCI $fFfF") ≡ item_line (ldci 65535) NoFlaw
  pub negative : line_of 7 (codes "LDCI -1") ≡ item_line (ldci 65535) NoFlaw
  pub zeros : line_of 7 (codes "LDCI 0065535") ≡ item_line (ldci 65535) NoFlaw
  pub five_digits : line_of 7 (codes "LDCI $0FFFF") ≡ Wrong false
  pub too_low : line_of 7 (codes "LDCI -32769") ≡ item_line (ldci 32767) OutOfRange
  pub too_high : line_of 7 (codes "LDCI 65536") ≡ item_line (ldci 0) OutOfRange
  -- A number of one byte, and a number of two bytes because of its mark. A marked number from 128 on is out of range.
  pub one_byte : line_of 7 (codes "LDO 127") ≡ item_line (ldo 127 false) NoFlaw
  pub marked : line_of 7 (codes "LDO 127!") ≡ item_line (ldo 127 true) NoFlaw
  pub marked_large : line_of 7 (codes "LDO 128!") ≡ item_line (ldo 128 true) OutOfRange
  -- The types of comparisons.
  pub type : line_of 7 (codes "EQU STR") ≡ item_line (equ 4 0) NoFlaw
  pub sized : line_of 7 (codes "EQU BYTES 20") ≡ item_line (equ 10 20) NoFlaw
  pub no_type : line_of 7 (codes "EQU INT") ≡ item_line (equ 0 0) UnknownType
  -- The targets of jumps, and the labels of a case jump.
  pub jump : line_of 7 (codes "UJP L1") ≡ item_line (Jump 185 (To (codes "L1"))) NoFlaw
  pub through : line_of 7 (codes "UJP ^3") ≡ item_line (Jump 185 (Through 3)) NoFlaw
  pub case : line_of 7 (codes "XJP 1, 2, OUT, A, B")
      ≡ item_line (Case 1 2 (To (codes "OUT")) (codes "A" ∷ codes "B" ∷ [])) NoFlaw
  pub few_labels : line_of 7 (codes "XJP 1, 2, OUT, A")
      ≡ item_line (Case 1 2 (To (codes "OUT")) (codes "A" ∷ [])) OutOfRange
  -- A byte, and the beginnings of segments and procedures.
  pub byte : line_of 7 (codes ".BYTE 255") ≡ item_line (OneByte 255) NoFlaw
  pub segment : line_of 7 (codes ".SEG 15 MAIN") ≡ Says (Segment 15 (codes "MAIN")) NoFlaw
  pub slot : line_of 7 (codes ".SEG 16 MAIN") ≡ Says (Segment 16 (codes "MAIN")) OutOfRange
  pub procedure : line_of 7 (codes ".PROC 1 -1 2 4") ≡ Says (Begin 1 255 2 4) NoFlaw
  pub odd_size : line_of 7 (codes ".PROC 1 0 1 0") ≡ Says (Begin 1 0 1 0) OutOfRange

-- A text with a procedure of segment 1 that has these lines of code.
abbrev pub in_procedure : List (List ℕ) → List ℕ
in_procedure lines = text_of (codes ".SEG 1 A" ∷ codes ".PROC 1 0 0 0" ∷ lines)

-- The faults of texts, in order. The code of the procedure begins in line 3.
pub record WorkedFaults : Type 0 where
  pub none : faults (in_procedure (codes ".EXIT" ∷ codes "  RBP 0" ∷ codes ".END" ∷ [])) ≡ []
  -- An ill-formed `.END` is the only fault. If the `.END` is missing, the line that begins the procedure has the fault.
  pub ended : faults (in_procedure (codes ".EXIT" ∷ codes ".END 1" ∷ [])) ≡ Syntax 4 ∷ []
  pub not_ended : faults (in_procedure (codes ".EXIT" ∷ [])) ≡ Syntax 2 ∷ []
  -- A faulty `.END` ends its procedure, so the next procedure is allowed after it.
  pub closed :
      faults (in_procedure (codes ".EXIT" ∷ codes ".END 1" ∷ codes ".PROC 2 0 0 0" ∷ codes ".EXIT" ∷ codes ".END" ∷ []))
      ≡ Syntax 4 ∷ []
  pub unknown : faults (in_procedure (codes "SPAM 3" ∷ codes ".EXIT" ∷ codes ".END" ∷ [])) ≡ Unknown 3 ∷ []
  -- The procedure has an odd length. The fault is reported at its end.
  pub odd : faults (in_procedure (codes "NOP" ∷ codes ".EXIT" ∷ codes ".END" ∷ [])) ≡ Range 5 ∷ []
  -- If a line defines a label again and has a number out of range, the label is reported first.
  pub twice : faults (in_procedure (codes "L: NOP" ∷ codes "L: SLDC 128" ∷ codes ".EXIT" ∷ codes ".END" ∷ []))
      ≡ Twice 4 ∷ Range 4 ∷ []
  -- Segments with numbers out of range define no slot, so no slot is defined twice. In the second text a slot is.
  pub no_slots : faults (text_of (codes ".SEG 16 A" ∷ codes ".SEG 17 A" ∷ codes ".SEG -1 A" ∷ []))
      ≡ Range 1 ∷ Range 2 ∷ Range 3 ∷ []
  pub slot_again : faults (text_of (codes ".SEG 15 A" ∷ codes ".SEG 16 A" ∷ codes ".SEG 15 A" ∷ []))
      ≡ Range 2 ∷ Twice 3 ∷ []
  -- A short jump backward, and a jump to a label that is not defined.
  pub far : faults (in_procedure (codes "L: UJP L" ∷ codes ".EXIT" ∷ codes ".END" ∷ [])) ≡ Far 3 ∷ []
  pub no_label : faults (in_procedure (codes "UJP M" ∷ codes ".EXIT" ∷ codes ".END" ∷ [])) ≡ NoLabel 3 ∷ []
  -- Labels are checked only if no line has a fault.
  pub later : faults (in_procedure (codes "UJP M" ∷ codes "NOP" ∷ codes ".EXIT" ∷ codes ".END" ∷ [])) ≡ Range 6 ∷ []
  -- A case jump has a label that is not defined, and its jump for other values leads backward.
  pub both : faults (in_procedure (codes "L: XJP 1, 1, L, M" ∷ codes ".EXIT" ∷ codes ".END" ∷ []))
      ≡ NoLabel 3 ∷ Far 3 ∷ []
