-- Laws of the memory: the bytes of words, the words that a write changes, and moves of bytes. The definitions of
-- instructions read and write memory by these operations.
use Rattle.std.specs.Prelude.{◌≡◌, ◌≢◌, ◌<◌, ◌≤◌, ◌⊎◌, ℕ, ◌+◌, ◌-◌, ◌*◌, ◌/◌, ◌%◌, List, All, length, slice_index}
use Rattle.pm_words.specs.Words.{IsMemory, byte_at, copied, moved_down, moved_up, with_bytes, with_word, word_at}

-- The word at the address `a` consists of two bytes, with the low byte first.
pub record BytesOfAWord (ws : List ℕ) (a : ℕ) : Type 0 where
  pub low : byte_at ws a ≡ word_at ws a % 256
  pub high : byte_at ws (a + 1) ≡ word_at ws a / 256
  pub whole : word_at ws a ≡ byte_at ws a + 256 * byte_at ws (a + 1)

abbrev pub WordsAreTheirBytes : Type 0
WordsAreTheirBytes = (ws : List ℕ) (a : ℕ) → a % 2 ≡ 0 → BytesOfAWord ws a

-- After the word `w` is written at the address `a`, the memory has it at `a`, and no other word has changed.
pub record WordWritten (ws : List ℕ) (a w : ℕ) : Type 0 where
  pub there : word_at (with_word ws a w) a ≡ w
  pub others : (x : ℕ) → x % 2 ≡ 0 → x ≢ a → word_at (with_word ws a w) x ≡ word_at ws x
  pub memory : IsMemory (with_word ws a w)

abbrev pub WordIsWritten : Type 0
WordIsWritten = (ws : List ℕ) (a w : ℕ) → IsMemory ws → a % 2 ≡ 0 → a < 65536 → w < 65536 → WordWritten ws a w

-- After the bytes `bs` are written from the address `a` on, the memory has them from `a` on, and no other byte has
-- changed.
pub record BytesWritten (ws : List ℕ) (a : ℕ) (bs : List ℕ) : Type 0 where
  pub there : (x : ℕ) → a ≤ x → x < a + length bs → byte_at (with_bytes ws a bs) x ≡ slice_index bs (x - a)
  pub others : (x : ℕ) → (x < a) ⊎ (a + length bs ≤ x) → byte_at (with_bytes ws a bs) x ≡ byte_at ws x
  pub memory : IsMemory (with_bytes ws a bs)

abbrev pub BytesAreWritten : Type 0
BytesAreWritten = (ws bs : List ℕ) (a : ℕ) → IsMemory ws → a + length bs ≤ 65536 → All (λ b. b < 256) bs
    → BytesWritten ws a bs

-- After `n` bytes are copied from `from` to `to`, the destination has the old bytes of the source, and no other byte
-- has changed.
pub record BytesCopied (ws : List ℕ) (from to n : ℕ) : Type 0 where
  pub there : (x : ℕ) → to ≤ x → x < to + n → byte_at (copied ws from to n) x ≡ byte_at ws (from + (x - to))
  pub others : (x : ℕ) → (x < to) ⊎ (to + n ≤ x) → byte_at (copied ws from to n) x ≡ byte_at ws x
  pub memory : IsMemory (copied ws from to n)

abbrev pub BytesAreCopied : Type 0
BytesAreCopied = (ws : List ℕ) (from to n : ℕ) → IsMemory ws → from + n ≤ 65536 → to + n ≤ 65536
    → BytesCopied ws from to n

-- Moving bytes one by one has the same result as copying them if the move reads no byte that it wrote before.
pub record MovesApart (ws : List ℕ) (from to n : ℕ) : Type 0 where
  pub up : (to ≤ from) ⊎ (from + n ≤ to) → moved_up ws from to n ≡ copied ws from to n
  pub down : (from ≤ to) ⊎ (to + n ≤ from) → moved_down ws from to n ≡ copied ws from to n

abbrev pub MovesAreCopies : Type 0
MovesAreCopies = (ws : List ℕ) (from to n : ℕ) → IsMemory ws → from + n ≤ 65536 → to + n ≤ 65536
    → MovesApart ws from to n
