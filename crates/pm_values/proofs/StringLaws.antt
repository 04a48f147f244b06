-- Laws of the assignment of a string: the length and the characters that it writes, as one list of bytes.
use Rattle.std.proofs.Common.{◌≡◌, ℕ, suc, ◌+◌, ◌<◌, ◌≤◌, List, ◌∷◌, length, drop, get_or, refl, ap, arith}
use Rattle.std.proofs.lemmas.List.{drop_more}
use Rattle.pm_words.specs.Words.{IsMemory, byte_at, bytes_at, bytes_of, copied, with_bytes}
use Rattle.pm_words.proofs.Laws.{AreMemoryBytes-bytes_of}
use Rattle.pm_words.proofs.RangeLaws.{length-bytes_at}

-- If the `n` bytes from `a` on are in memory, then the list of these bytes has length `n`.
pub length_string : (ws : List ℕ) (a n : ℕ) → IsMemory ws → a + n ≤ 65536 → length (bytes_at ws a n) ≡ n
length_string ws a n h room = length-bytes_at ws a n h room

-- The `n + 1` bytes from `a` on are the byte at `a`, followed by the `n` bytes from `a + 1` on.
bytes_at-first : (ws : List ℕ) (a n : ℕ) → IsMemory ws → a < 65536 → bytes_at ws a (n + 1) ≡ byte_at ws a ∷ bytes_at ws (a + 1) n
unfolding bytes_at byte_at
bytes_at-first ws a n h l =
    let more : drop a (bytes_of ws) ≡ get_or (bytes_of ws) a 0 ∷ drop (a + 1) (bytes_of ws) = drop_more (bytes_of ws) a 0
    (omega (arith, (AreMemoryBytes-bytes_of ws h).size)) in
    let next : n + 1 ≡ suc n = omega arith in
    rw (next, more) refl

-- A copy of `n + 1` bytes has the same result as writing the length byte at `e`, followed by the `n` characters after
-- it.
pub copied_string : (ws : List ℕ) (e d n : ℕ) → IsMemory ws → e < 65536 → copied ws e d (n + 1) ≡ with_bytes ws d (byte_at ws e ∷ bytes_at ws (e + 1) n)
unfolding copied
copied_string ws e d n h l = ap (with_bytes ws d) (bytes_at-first ws e n h l)

pub ruleset strings = (length_string, copied_string)
