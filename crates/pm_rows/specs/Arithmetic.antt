-- The rules of the instructions on words as integers. The lines of a rule are in the order in which errors are checked:
-- - the pops, the top word first (error 7 if the stack has too few words);
-- - the checks of the rule itself;
-- - the push (error 4 if SP would be below NP).
-- A line such as `.., a, b -> .., c` shows the stack before and after the instruction, with the top at the right.
use Rattle.std.specs.Prelude.{ℕ, ◌&&◌, int_le}
use Rattle.pm_words.specs.declared.error.ExecError.TheVariants.{InvalidIndex}
use Rattle.pm_words.specs.Stack.{◌>>=◌, StackRow, demand, pop, push}
use Rattle.pm_families.specs.declared.families.Unary.{Unary}
use Rattle.pm_families.specs.declared.families.Binary.{Binary}
use Rattle.pm_families.specs.declared.families.Relation.{Relation}
use Rattle.pm_families.specs.declared.families.Arithmetic.{Arithmetic}
use Rattle.pm_families.specs.declared.families.Arithmetic.TheVariants.{Constant, Nil, OnOne, OnTwo, Compare, Check}
use Rattle.pm_words.specs.Signed.{signed, truth}
use Rattle.pm_rows.specs.Integers.{unary, binary, relation}

-- SLDC, LDCI and LDCN. .. -> .., w: pushes the word `w`, which is the operand of the instruction, or 0 for LDCN.
unfoldable pub constant_row : ℕ → StackRow
constant_row w m sp np = push m sp np w

-- ABI, NGI, SQI and LNOT. .., a -> .., b: `b` is the result of the operation `o` on `a`.
unfoldable pub unary_row : Unary → StackRow
unary_row o m sp np = do
  a ← pop m sp
  push m a.above np (unary o a.word)

-- ADI, SBI, MPI, DVI, MODI, LAND and LOR. .., a, b -> .., c: `c` is the result of the operation `o` on `a` and `b`.
unfoldable pub binary_row : Binary → StackRow
binary_row o m sp np = do
  b ← pop m sp
  a ← pop m b.above
  c ← binary o a.word b.word
  push m a.above np c

-- EQUI, NEQI, LESI, LEQI, GRTI and GEQI. .., a, b -> .., 1 or 0: pushes 1 if the relation `o` is true for `a` and `b`.
unfoldable pub relation_row : Relation → StackRow
relation_row o m sp np = do
  b ← pop m sp
  a ← pop m b.above
  push m a.above np (truth (relation o a.word b.word))

-- CHK. .., a, b, c -> .., a: the error is `InvalidIndex` unless b <= a <= c as signed numbers.
unfoldable pub check_row : StackRow
check_row m sp np = do
  c ← pop m sp
  b ← pop m c.above
  a ← pop m b.above
  _ ← demand (int_le (signed b.word) (signed a.word) && int_le (signed a.word) (signed c.word)) InvalidIndex
  push m a.above np a.word

unfoldable pub arithmetic_row : Arithmetic → StackRow
arithmetic_row (Constant w) m sp np = constant_row w m sp np
arithmetic_row Nil m sp np = constant_row 0 m sp np
arithmetic_row (OnOne o) m sp np = unary_row o m sp np
arithmetic_row (OnTwo o) m sp np = binary_row o m sp np
arithmetic_row (Compare o) m sp np = relation_row o m sp np
arithmetic_row Check m sp np = check_row m sp np
