-- The rules of instructions on bytes and on packed fields. A packed field is a range of bits of a word. A rule first
-- pops its words, the top one first; then it checks them; then it writes or pushes. The lines of a rule are in the
-- order in which errors are checked. A line such as `.., a, b -> .., c` shows the stack before and after the
-- instruction, with the top at the right.
use Rattle.std.specs.Prelude.{ℕ, ◌+◌, ◌-◌, ◌*◌, ◌/◌, ◌%◌, ◌^◌, ◌==◌, ◌&&◌, Bool, not, [], ◌∷◌, Ok, nat_lt, nat_le}
use Rattle.pm_words.specs.Words.{byte_at, with_byte}
use Rattle.pm_words.specs.declared.error.ExecError.TheVariants.{InvalidIndex}
use Rattle.pm_words.specs.Stack.{◌>>=◌, StackRow, demand, load, pop, push, store}
use Rattle.pm_values.specs.Several.{push_words}

-- LDB. .., base, index -> .., v: `v` is the byte at the address base + index (modulo 65,536).
unfoldable pub load_byte_row : StackRow
load_byte_row m sp np = do
  i ← pop m sp
  a ← pop m i.above
  push m a.above np (byte_at m ((a.word + i.word) % 65536))

-- STB. .., base, index, value -> ..: writes the low byte of the value at the address base + index (modulo 65,536).
unfoldable pub store_byte_row : StackRow
store_byte_row m sp np = do
  v ← pop m sp
  i ← pop m v.above
  a ← pop m i.above
  Ok (with_byte m ((a.word + i.word) % 65536) (v.word % 256), a.above)

-- The `k` bits of the word `w` from bit `r` on, as a number.
unfoldable pub field_of : ℕ → ℕ → ℕ → ℕ
field_of w r k = (w / 2 ^ r) % 2 ^ k

-- The word `w` after its `k` bits from bit `r` on are replaced by the low `k` bits of `v`.
unfoldable pub with_field : ℕ → ℕ → ℕ → ℕ → ℕ
with_field w r k v = (w - field_of w r k * 2 ^ r) + (v % 2 ^ k) * 2 ^ r

-- Whether `k` bits from bit `r` on are a field: `k` is not 0, and the bits do not extend past bit 15.
abbrev pub is_field : ℕ → ℕ → Bool
is_field r k = not (k == 0) && nat_le (r + k) 16

-- IXP. .., base, index -> .., address, width, lowest bit: the location of the field `index` of the array at `base`. The
-- array packs `per_word` fields of `width` bits into each word. The lowest bit is on top of the stack.
unfoldable pub index_field_row : ℕ → ℕ → StackRow
index_field_row per_word width m sp np = do
  i ← pop m sp
  a ← pop m i.above
  _ ← demand (not (per_word == 0) && nat_lt i.word 32768) InvalidIndex
  _ ← demand (is_field ((i.word % per_word) * width) width) InvalidIndex
  push_words m a.above np ((i.word % per_word) * width ∷ width ∷ (a.word + 2 * (i.word / per_word)) % 65536 ∷ [])

-- LDP. .., address, width, lowest bit -> .., v: `v` is the field with this width and lowest bit of the word at the
-- address.
unfoldable pub load_field_row : StackRow
load_field_row m sp np = do
  r ← pop m sp
  k ← pop m r.above
  x ← pop m k.above
  _ ← demand (is_field r.word k.word) InvalidIndex
  w ← load m x.word
  push m x.above np (field_of w r.word k.word)

-- STP. .., address, width, lowest bit, value -> ..: writes the low bits of the value to the field with this width and
-- lowest bit of the word at the address. The other bits of the word are unchanged.
unfoldable pub store_field_row : StackRow
store_field_row m sp np = do
  v ← pop m sp
  r ← pop m v.above
  k ← pop m r.above
  x ← pop m k.above
  _ ← demand (is_field r.word k.word) InvalidIndex
  w ← load m x.word
  n ← store m x.word (with_field w r.word k.word v.word)
  Ok (n, x.above)
