-- Memory as a list of words. Word k is at the addresses 2k and 2k + 1, the low byte first.
use Rattle.std.specs.Cmp.Lexicographic.{slice_cmp}
use Rattle.std.specs.Ordering.{nat_cmp}
use Rattle.std.specs.declared.cmp.Ordering.{Ordering}
use Rattle.std.specs.Prelude.{◌≡◌, ◌==◌, ◌<◌, ℕ, ◌+◌, ◌-◌, ◌*◌, ◌/◌, ◌%◌, ◌≤◌, Bool, not, ℤ, ◌-ℤ◌, pos, negsuc}
use Rattle.std.specs.Prelude.{zero, suc, reverse, List, [], ◌∷◌, ◌++◌, All, length, take, drop, replicate}
use Rattle.std.specs.Prelude.{slice_index, slice_set, Option, Some, None, position, unwrap_or, if◌then◌else◌}

-- States that the list of bytes `bs` can be a whole memory: it has 65,536 items, all below 256.
pub record AreMemoryBytes (bs : List ℕ) : Type 0 where
  pub size : length bs ≡ 65536
  pub fits : All (λ b. b < 256) bs

-- The representation of `Memory` in contracts.
pub record Contents : Type 0 where
  pub words : List ℕ
  -- The number of times that each word is watched for the debugger, and whether a watched word was written.
  pub watched : List ℕ
  pub touched : Bool

-- The bytes of a list of words, the low byte of each word first.
unfoldable pub bytes_of : List ℕ → List ℕ
bytes_of [] = []
bytes_of (w ∷ ws) = (w % 256) ∷ (w / 256) ∷ bytes_of ws

-- The words that consist of a list of bytes, the low byte of each word first. A single last byte is ignored.
unfoldable pub words_of : List ℕ → List ℕ
words_of [] = []
words_of (low ∷ []) = []
words_of (low ∷ high ∷ bs) = (low + 256 * high) ∷ words_of bs

-- States that the list of words `ws` can be a memory: it has 32,768 items, all below 65,536.
pub record IsMemory (ws : List ℕ) : Type 0 where
  pub size : length ws ≡ 32768
  pub fits : All (λ w. w < 65536) ws

-- The word of the memory `ws` at the even address `a`.
unfoldable pub word_at : List ℕ → ℕ → ℕ
word_at ws a = slice_index ws (a / 2)

-- The words `ws` after `w` is written at the even address `a`.
unfoldable pub with_word : List ℕ → ℕ → ℕ → List ℕ
with_word ws a w = slice_set ws (a / 2) w

-- The byte at address `a` of the memory `ws`.
unfoldable pub byte_at : List ℕ → ℕ → ℕ
byte_at ws a = slice_index (bytes_of ws) a

-- The `n` bytes of the memory `ws` from address `a` on.
unfoldable pub bytes_at : List ℕ → ℕ → ℕ → List ℕ
bytes_at ws a n = take n (drop a (bytes_of ws))

-- The list `xs` after its items from index `i` on are overwritten by the items of `ys`.
abbrev pub overwritten : List ℕ → ℕ → List ℕ → List ℕ
overwritten xs i ys = take i xs ++ ys ++ drop (i + length ys) xs

-- The words `ws` after the bytes `bs` are written from address `a` on.
unfoldable pub with_bytes : List ℕ → ℕ → List ℕ → List ℕ
with_bytes ws a bs = words_of (overwritten (bytes_of ws) a bs)

-- The words `ws` after the byte `b` is written at address `a`.
unfoldable pub with_byte : List ℕ → ℕ → ℕ → List ℕ
with_byte ws a b = with_bytes ws a (b ∷ [])

-- The word of the memory `ws` at address `a`, or `None` if `a` is odd.
abbrev pub word_read : List ℕ → ℕ → Option ℕ
word_read ws a = if a % 2 == 0 then Some (word_at ws a) else None

-- The words of a new memory. All of them are 0.
unfoldable pub zero_words : List ℕ
zero_words = replicate 32768 0

-- States that the `n` bytes from address `a` on are in memory.
abbrev pub IsInMemory : ℕ → ℕ → Type 0
IsInMemory a n = a + n ≤ 65536

-- The words `ws` after `n` bytes are copied from address `from` to address `to`. All bytes are read before the first is
-- written.
unfoldable pub copied : List ℕ → ℕ → ℕ → ℕ → List ℕ
copied ws from to n = with_bytes ws to (bytes_at ws from n)

-- The words `ws` after `n` bytes are copied one by one from address `from` to address `to`, the lowest address first.
unfoldable pub moved_up : List ℕ → ℕ → ℕ → ℕ → List ℕ
moved_up ws from to zero = ws
moved_up ws from to (suc n) = moved_up (with_byte ws to (byte_at ws from)) (suc from) (suc to) n

-- The words `ws` after `n` bytes are copied one by one from address `from` to address `to`, the highest address first.
unfoldable pub moved_down : List ℕ → ℕ → ℕ → ℕ → List ℕ
moved_down ws from to zero = ws
moved_down ws from to (suc n) = moved_down (with_byte ws (to + n) (byte_at ws (from + n))) from to n

-- The words `ws` after the `n` bytes from address `a` on are set to `b`.
unfoldable pub filled : List ℕ → ℕ → ℕ → ℕ → List ℕ
filled ws a n b = with_bytes ws a (replicate n b)

-- The result of comparing the `n` bytes of `ws` from address `a` on with the `n` bytes from address `b` on. The first
-- pair of bytes that differ decides.
unfoldable pub compared : List ℕ → ℕ → ℕ → ℕ → Ordering
compared ws a b n = slice_cmp nat_cmp (bytes_at ws a n) (bytes_at ws b n)

-- Whether the byte `x` stops a scan for the byte `b`. If `equal` is true, a byte equal to `b` stops the scan; otherwise
-- a byte that differs from `b` stops it.
abbrev pub stops : Bool → ℕ → ℕ → Bool
stops equal b x = if equal then x == b else not (x == b)

-- The number of bytes of `bs` before the first byte that stops a scan for `b`. If no byte stops the scan, this number
-- is the length of `bs`.
abbrev pub passed : List ℕ → ℕ → Bool → ℕ
passed bs b equal = unwrap_or (position (stops equal b) bs) (length bs)

-- States that a scan from address `a` reads only bytes in memory. A limit `n ≥ 0` reads `n` bytes upward, and a limit
-- `-(m + 1)` reads `m + 1` bytes downward.
abbrev pub IsScanInMemory : ℕ → ℤ → Type 0
IsScanInMemory a (pos n) = a + n ≤ 65536
IsScanInMemory a (negsuc m) = m ≤ a

-- The result of a scan from address `a`: the number of bytes before the first byte that stops the scan. If the limit is
-- negative, the scan reads downward, and its result is zero or negative.
unfoldable pub scanned : List ℕ → ℕ → ℤ → ℕ → Bool → ℤ
scanned ws a (pos n) b equal = pos (passed (bytes_at ws a n) b equal)
scanned ws a (negsuc m) b equal = pos 0 -ℤ pos (passed (reverse (bytes_at ws (a - m) (m + 1))) b equal)

-- The `n` words of the memory `ws` from the even address `a` on.
unfoldable pub words_at : List ℕ → ℕ → ℕ → List ℕ
words_at ws a n = take n (drop (a / 2) ws)

-- The words `ws` after the words `vs` are written from the even address `a` on.
unfoldable pub with_words : List ℕ → ℕ → List ℕ → List ℕ
with_words ws a vs = overwritten ws (a / 2) vs
