-- Words (16 bits) and bytes in a list of bytes. Offsets are counted from 0.
use Rattle.byteorder.specs.Endian.{little_bytes}
use Rattle.std.specs.Prelude.{ℕ, ◌+◌, ◌*◌, ◌++◌, List, drop, length, replicate, slice_index, take}

-- The word at offset `place` of `bytes`. The low byte is at `place`, and the high byte is at `place + 1`.
unfoldable pub word_in : List ℕ → ℕ → ℕ
word_in bytes place = slice_index bytes place + 256 * slice_index bytes (place + 1)

-- The list `xs` after its items from index `i` on are overwritten by the items of `ys`.
unfoldable pub written : List ℕ → ℕ → List ℕ → List ℕ
written xs i ys = take i xs ++ (ys ++ drop (i + length ys) xs)

-- The list `xs` after the word `w` is written at offset `place`, the low byte first.
abbrev pub with_word_in : List ℕ → ℕ → ℕ → List ℕ
with_word_in xs place w = written xs place (little_bytes 2 w)

-- A list of `count` zeros.
unfoldable pub zeros : ℕ → List ℕ
zeros count = replicate count 0
