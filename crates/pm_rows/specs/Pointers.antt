-- The rules of the instructions that use an address on the stack. Addresses are modulo 65,536. A line such as `.., a, b
-- -> .., c` shows the stack before and after the instruction, with the top at the right.
use Rattle.std.specs.Prelude.{ℕ, ◌+◌, ◌-◌, ◌*◌, ◌%◌, Ok, nat_le, nat_lt}
use Rattle.pm_words.specs.declared.error.ExecError.TheVariants.{InvalidMemory, StackOverflow}
use Rattle.pm_words.specs.Words.{copied}
use Rattle.pm_words.specs.Stack.{◌>>=◌, StackRow, demand, load, pop, push, store, words_lie_in_memory}
use Rattle.pm_families.specs.declared.families.Pointer.{Pointer}
use Rattle.pm_families.specs.declared.families.Pointer.TheVariants.{Increment, Load, Index, Store, LoadWords}
use Rattle.pm_families.specs.declared.families.Pointer.TheVariants.{StoreWords, Move}

-- INC. .., a -> .., a + 2b: adds `b` words to the address a.
unfoldable pub increment_row : ℕ → StackRow
increment_row b m sp np = do
  a ← pop m sp
  push m a.above np ((a.word + 2 * b) % 65536)

-- IND and SIND. .., a -> .., w: `w` is the word at a + 2b.
unfoldable pub indirect_row : ℕ → StackRow
indirect_row b m sp np = do
  a ← pop m sp
  w ← load m ((a.word + 2 * b) % 65536)
  push m a.above np w

-- IXA. .., a, i -> .., a + 2bi: the address of item i of the array at a, whose items have `b` words.
unfoldable pub index_row : ℕ → StackRow
index_row b m sp np = do
  i ← pop m sp
  a ← pop m i.above
  push m a.above np ((a.word + 2 * b * i.word) % 65536)

-- STO. .., a, v -> ..: writes the word v at address a.
unfoldable pub store_indirect_row : StackRow
store_indirect_row m sp np = do
  v ← pop m sp
  a ← pop m v.above
  n ← store m a.word v.word
  Ok (n, a.above)

-- LDM. .., a -> .., n words: pushes the `n` words from address a on. The word at the lowest address is on top.
unfoldable pub load_words_row : ℕ → StackRow
load_words_row n m sp np = do
  a ← pop m sp
  _ ← demand (words_lie_in_memory a.word n) InvalidMemory
  _ ← demand (nat_le (np + 2 * n) a.above) StackOverflow
  Ok (copied m a.word (a.above - 2 * n) (2 * n), a.above - 2 * n)

-- STM. .., a, n words -> ..: writes the `n` words on top of the stack from address a on. The address is below the
-- words, and is popped too.
unfoldable pub store_words_row : ℕ → StackRow
store_words_row n m sp np = do
  a ← pop m (sp + 2 * n)
  _ ← demand (words_lie_in_memory a.word n) InvalidMemory
  Ok (copied m sp a.word (2 * n), a.above)

-- MOV. .., to, from -> ..: copies `b` words from address `from` to address `to`. All words are read before any is
-- written. The error is `InvalidMemory` if `b` is above 32,767.
unfoldable pub move_row : ℕ → StackRow
move_row b m sp np = do
  from ← pop m sp
  to ← pop m from.above
  _ ← demand (nat_lt b 32768) InvalidMemory
  _ ← demand (words_lie_in_memory from.word b) InvalidMemory
  _ ← demand (words_lie_in_memory to.word b) InvalidMemory
  Ok (copied m from.word to.word (2 * b), to.above)

unfoldable pub pointer_row : Pointer → StackRow
pointer_row (Increment b) m sp np = increment_row b m sp np
pointer_row (Load b) m sp np = indirect_row b m sp np
pointer_row (Index b) m sp np = index_row b m sp np
pointer_row Store m sp np = store_indirect_row m sp np
pointer_row (LoadWords n) m sp np = load_words_row n m sp np
pointer_row (StoreWords n) m sp np = store_words_row n m sp np
pointer_row (Move b) m sp np = move_row b m sp np
