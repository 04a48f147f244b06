-- Laws of changes of a line that do not change its meaning, and of the order of faults.
use Rattle.std.specs.Prelude.{◌≡◌, ◌≤◌, ◌⊎◌, ℕ, Bool, false, not, true, List}
use Rattle.std.specs.Prelude.{[], ◌∷◌, ◌++◌, ◌==◌, if◌then◌else◌, is_some, Some}
use Rattle.std.specs.Char.{is_ascii_digit}
use Rattle.std.specs.Fmt.{decimal}
use Rattle.std.specs.List.{AllZip, list_all}
use Rattle.std.specs.Str.Parse.{digits_value}
use Rattle.pm_source.specs.declared.fault.AsmFault.{AsmFault}
use Rattle.pm_source.specs.FaultNumbers.{place_of}
use Rattle.pm_source.specs.Faults.{faults, faults_of_lines}
use Rattle.pm_source.specs.Line.{Keyword, comparison, is_character, items_said, jump_operand, line_of}
use Rattle.pm_source.specs.Line.{number_operand, operands, procedure_operands, said, segment_operands}
use Rattle.pm_source.specs.Words.{decimal_number, hexadecimal_number, is_blank, number, words}

-- Returns whether quotes are open after the characters `cs`. `quoted` states whether quotes are open before them.
abbrev pub is_open : Bool → List ℕ → Bool
is_open quoted [] = quoted
is_open quoted (c ∷ cs) = is_open (if c == 34 then not quoted else quoted) cs

-- A comment after a line whose quotes are closed does not change the meaning of the line.
abbrev pub CommentSaysNothing : Type 0
CommentSaysNothing = (n : ℕ) (line comment : List ℕ) → is_open false line ≡ false → list_all is_character comment ≡ true
    → line_of n (line ++ 59 ∷ comment) ≡ line_of n line

-- A space or a tab before a line does not change its meaning.
abbrev pub BlankSaysNothing : Type 0
BlankSaysNothing = (n c : ℕ) (line : List ℕ) → is_blank c ≡ true → line_of n (c ∷ line) ≡ line_of n line

-- A space or a tab after a line does not change its meaning.
abbrev pub EndBlankSaysNothing : Type 0
EndBlankSaysNothing = (n c : ℕ) (line : List ℕ) → is_blank c ≡ true → line_of n (line ++ c ∷ []) ≡ line_of n line

-- A space or a tab before or after operands, or next to a comma outside quotes, does not change the operands. A space
-- or a tab before another space or tab does not change how a text is split at spaces. The meaning of a keyword depends
-- only on the operands and on the words after it.
pub record BlanksSayNothing : Type 0 where
  pub before : (c : ℕ) (rest : List ℕ) → is_blank c ≡ true → operands (c ∷ rest) ≡ operands rest
  pub behind : (c : ℕ) (rest : List ℕ) → is_blank c ≡ true → operands (rest ++ c ∷ []) ≡ operands rest
  pub after_comma : (c : ℕ) (front rest : List ℕ) → is_blank c ≡ true → is_open false front ≡ false
      → operands (front ++ 44 ∷ c ∷ rest) ≡ operands (front ++ 44 ∷ rest)
  pub before_comma : (c : ℕ) (front rest : List ℕ) → is_blank c ≡ true → is_open false front ≡ false
      → operands (front ++ c ∷ 44 ∷ rest) ≡ operands (front ++ 44 ∷ rest)
  pub twice : (c d : ℕ) (front rest : List ℕ) → is_blank c ≡ true → is_blank d ≡ true
      → words (front ++ c ∷ d ∷ rest) ≡ words (front ++ d ∷ rest)
  pub items : (keyword : Keyword) (rest other : List ℕ) → operands rest ≡ operands other
      → items_said keyword rest ≡ items_said keyword other
  pub all : (n : ℕ) (keyword : Keyword) (rest other : List ℕ)
      → operands rest ≡ operands other → words rest ≡ words other → said n keyword rest ≡ said n keyword other

-- A zero before decimal digits does not change the value of a number.
abbrev pub ZeroSaysNothing : Type 0
ZeroSaysNothing = (negative : Bool) (c : ℕ) (digits : List ℕ)
    → decimal_number negative (48 ∷ c ∷ digits) ≡ decimal_number negative (c ∷ digits)

-- A zero before the digits of an operand, with or without a minus sign, does not change its value.
abbrev pub NumberWithoutZero : Type 0
NumberWithoutZero = (c : ℕ) (digits : List ℕ) → is_ascii_digit c ≡ true
    → (number (48 ∷ c ∷ digits) ≡ number (c ∷ digits)) × (number (45 ∷ 48 ∷ c ∷ digits) ≡ number (45 ∷ c ∷ digits))

-- A number in hexadecimal digits after `$` equals the decimal number with the same value.
abbrev pub BaseSaysNothing : Type 0
BaseSaysNothing = (digits : List ℕ) → is_some (hexadecimal_number digits) ≡ true
    → number (36 ∷ digits) ≡ number (decimal (digits_value 16 digits))

-- The operands `t` and `u` are equal, or they are numbers of the same value.
abbrev pub IsOneOperand : List ℕ → List ℕ → Type 0
IsOneOperand t u = (t ≡ u) ⊎ ((is_some (number t) ≡ true) × (number t ≡ number u))

-- If operands are replaced by numbers of the same value, then the items of a keyword and the head of a procedure do not
-- change. The same holds for the number in the head of a segment, for a marked number, for an entry of the jump table
-- and for the size after a type.
pub record NumbersSayValues : Type 0 where
  pub items : (keyword : Keyword) (rest other : List ℕ) → AllZip IsOneOperand (operands rest) (operands other)
      → items_said keyword rest ≡ items_said keyword other
  pub procedures : (words others : List (List ℕ)) → AllZip IsOneOperand words others
      → procedure_operands words ≡ procedure_operands others
  pub segments : (n m name : List ℕ) → IsOneOperand n m
      → segment_operands (n ∷ name ∷ []) ≡ segment_operands (m ∷ name ∷ [])
  pub marked : (n m : List ℕ) → IsOneOperand n m → number_operand (n ++ 33 ∷ []) ≡ number_operand (m ++ 33 ∷ [])
  pub entries : (n m : List ℕ) → IsOneOperand n m → jump_operand (94 ∷ n) ≡ jump_operand (94 ∷ m)
  pub sizes : (op : ℕ) (type n m : List ℕ) → IsOneOperand n m
      → comparison op (type ∷ n ∷ []) ≡ comparison op (type ∷ m ∷ [])

-- Each fault states a line from `n` on, and no fault states an earlier line than the fault before it.
abbrev pub AscendFrom : ℕ → List AsmFault → Type 0
AscendFrom n [] = Unit {0}
AscendFrom n (fault ∷ faults) = (m : ℕ) × ((place_of fault ≡ Some m) × ((n ≤ m) × AscendFrom m faults))

-- The faults of the lines of a text ascend by their lines. Hence the first fault states the lowest line of them.
abbrev pub LineFaultsAscend : Type 0
LineFaultsAscend = (text : List ℕ) → AscendFrom 1 (faults_of_lines text)

-- The faults of the lines and of the labels of a text ascend by their lines. Hence the first fault states the lowest
-- line of them.
abbrev pub FaultsAscend : Type 0
FaultsAscend = (text : List ℕ) → AscendFrom 1 (faults text)
