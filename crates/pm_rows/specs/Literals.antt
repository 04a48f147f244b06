-- The rules of the instructions that push constants in the code. A line such as `.., a, b -> .., c` shows the stack
-- before and after the instruction, with the top at the right.
use Rattle.std.specs.Prelude.{ℕ, ◌-◌, ◌+◌, ◌*◌, ◌/◌, ◌%◌, ◌&&◌, Ok, reverse, nat_le}
use Rattle.pm_words.specs.declared.error.ExecError.TheVariants.{InvalidMemory, StackOverflow}
use Rattle.pm_words.specs.Words.{with_words, words_at}
use Rattle.pm_words.specs.Stack.{◌>>=◌, StackRow, demand, is_even, minus, push, words_lie_in_memory}
use Rattle.pm_families.specs.declared.families.Literal.{Literal}
use Rattle.pm_families.specs.declared.families.Literal.TheVariants.{String, Characters, Words}

-- LSA and LPA. .. -> .., x: pushes the address `x`.
unfoldable pub literal_address_row : ℕ → StackRow
literal_address_row x m sp np = push m sp np x

-- LDC. .. -> .., n words: pushes the `n` words of the code from `start` on one after the other, so that the last word
-- is on top. If the stack has no space for all of them, no word is pushed. The first check fails on no machine, because
-- the words of a decoded instruction are in memory, and SP is even.
unfoldable pub words_row : ℕ → ℕ → StackRow
words_row start n m sp np = do
  _ ← demand (words_lie_in_memory start n && is_even sp) InvalidMemory
  _ ← demand (nat_le (np + 2 * n) sp) StackOverflow
  Ok (with_words m (sp - 2 * n) (reverse (words_at m start n)), sp - 2 * n)

-- The rule of an instruction that pushes a constant. LSA pushes the address of the byte before its characters, which is
-- their number. LPA pushes the address of its characters. LDC pushes its words, at most 255.
unfoldable pub literal_row : Literal → StackRow
literal_row (String start) m sp np = literal_address_row (minus (start % 65536) 1) m sp np
literal_row (Characters start) m sp np = literal_address_row (start % 65536) m sp np
literal_row (Words start count) m sp np = words_row start (count / 2 % 256) m sp np
