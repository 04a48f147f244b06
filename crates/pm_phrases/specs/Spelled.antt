-- Encodings that are not the shortest ones.
use Rattle.std.specs.Prelude.{ℕ, Bool, true, false, ◌&&◌, nat_lt, nat_le, List, [], ◌++◌, codes, is_none}
use Rattle.std.specs.Fmt.{decimal}
use Rattle.pm_families.specs.declared.families.Scope.TheVariants as scope
use Rattle.pm_families.specs.declared.families.Arithmetic.TheVariants as arithmetic
use Rattle.pm_families.specs.declared.families.Variable.TheVariants as variable
use Rattle.pm_families.specs.declared.families.Pointer.TheVariants as pointer
use Rattle.pm_opcode.specs.declared.instr.Instr.{Instr}
use Rattle.pm_opcode.specs.declared.operation.Operation.{Operation}
use Rattle.pm_opcode.specs.declared.operation.Operation.TheVariants as operation
use Rattle.pm_opcode.specs.Table.{implied}
use Rattle.pm_phrases.specs.declared.spelling.Spelling.{Spelling}
use Rattle.pm_phrases.specs.declared.spelling.Spelling.TheVariants as spelling

abbrev pub marks : Spelling → List ℕ
marks spelling.Shortest = []
marks spelling.Longer = codes "!"
marks spelling.Longest = codes "!!"

-- The text of the number `n` with the marks of its encoding.
abbrev pub marked : ℕ → Spelling → List ℕ
marked n s = decimal n ++ marks s

-- Is true if an opcode exists that includes the number of this operation. SLDC includes 0 to 127 in its opcode, SLDL
-- and SLDO include 1 to 16, and SIND includes 0 to 7.
unfoldable pub fits_opcode : Operation → Bool
fits_opcode (operation.Arithmetic (arithmetic.Constant n)) = nat_lt n 128
fits_opcode (operation.Variable (variable.Load scope.Global n)) = nat_le 1 n && nat_le n 16
fits_opcode (operation.Variable (variable.Load scope.Local n)) = nat_le 1 n && nat_le n 16
fits_opcode (operation.Pointer (pointer.Load n)) = nat_lt n 8
fits_opcode _ = false

unfoldable pub has_shorter : Instr → Operation → Bool
has_shorter i what = is_none (implied i.op) && fits_opcode what

abbrev pub spelling_by : Bool → Bool → Spelling
spelling_by false false = spelling.Shortest
spelling_by true true = spelling.Longest
spelling_by _ _ = spelling.Longer

-- The encoding of the instruction `i`, whose operation is `what`. It is not the shortest encoding in two cases:
--
-- - The number has two bytes although one suffices.
-- - The opcode has an operand although an opcode without one exists.
unfoldable pub spelling_of : Instr → Operation → Spelling
spelling_of i what = spelling_by i.long (has_shorter i what)
