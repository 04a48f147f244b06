-- Strings in memory: a byte with the number of characters, then the characters. A line such as `.., a, b -> .., c`
-- shows the stack before and after the instruction, with the top at the right.
use Rattle.std.specs.Prelude.{ℕ, ◌+◌, if◌then◌else◌, List, [], ◌∷◌, length, Result, Ok, nat_lt, nat_le}
use Rattle.pm_words.specs.Words.{byte_at, bytes_at, with_bytes}
use Rattle.pm_words.specs.declared.error.ExecError.{ExecError}
use Rattle.pm_words.specs.declared.error.ExecError.TheVariants.{InvalidIndex, InvalidMemory, StringTooLong}
use Rattle.pm_words.specs.Stack.{◌>>=◌, StackRow, demand, lies_in_memory, pop}

-- The characters of the string at address `a`, or the error `InvalidMemory` if not all of them are in memory.
abbrev pub string_at : List ℕ → ℕ → Result (List ℕ) ExecError
string_at m a = do
  _ ← demand (lies_in_memory (a + 1) (byte_at m a)) InvalidMemory
  Ok (bytes_at m (a + 1) (byte_at m a))

-- IXS. .., string, index -> .., string, index: leaves both words on the stack. The error is `InvalidIndex` if the index
-- is greater than the length of the string.
unfoldable pub index_string_row : StackRow
index_string_row m sp np = do
  i ← pop m sp
  a ← pop m i.above
  _ ← demand (nat_le i.word (byte_at m a.word)) InvalidIndex
  Ok (m, sp)

-- The characters that the word `e` denotes: if `e` is below 256, the one character `e`; otherwise the string at address
-- `e`.
abbrev pub source_at : List ℕ → ℕ → Result (List ℕ) ExecError
source_at m e = if nat_lt e 256 then Ok (e ∷ []) else string_at m e

-- SAS. .., destination, source -> ..: writes the length and the characters of the source at the destination. The error
-- is `StringTooLong` if the source has more than `limit` characters.
unfoldable pub assign_row : ℕ → StackRow
assign_row limit m sp np = do
  e ← pop m sp
  d ← pop m e.above
  s ← source_at m e.word
  _ ← demand (nat_le (length s) limit) StringTooLong
  _ ← demand (lies_in_memory (d.word + 1) (length s)) InvalidMemory
  Ok (with_bytes m d.word (length s ∷ s), d.above)
