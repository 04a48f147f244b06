-- Laws of the standard procedures MOVELEFT, MOVERIGHT and SCAN.
use Rattle.std.specs.Prelude.{◌≡◌, ◌⊎◌, ◌<◌, ◌≤◌, ℕ, ◌+◌, ◌-◌, pos, negsuc, ◌-ℤ◌, Bool, true, false, List}
use Rattle.pm_words.specs.Words.{IsMemory, byte_at, copied, moved_up, moved_down, scanned, stops}

-- ---- moves

-- If the destination of MOVELEFT is not above the source, or does not overlap it, then MOVELEFT copies the whole source.
abbrev pub MoveLeftCopies : Type 0
MoveLeftCopies =
    (m : List ℕ) (from to n : ℕ) → IsMemory m → from + n ≤ 65536 → to + n ≤ 65536 → (to ≤ from) ⊎ (from + n ≤ to) →
    moved_up m from to n ≡ copied m from to n

-- If the destination of MOVERIGHT is not below the source, or does not overlap it, then MOVERIGHT copies the whole
-- source.
abbrev pub MoveRightCopies : Type 0
MoveRightCopies =
    (m : List ℕ) (from to n : ℕ) → IsMemory m → from + n ≤ 65536 → to + n ≤ 65536 → (from ≤ to) ⊎ (to + n ≤ from) →
    moved_down m from to n ≡ copied m from to n

-- After a MOVELEFT to the same or a higher address, each byte of the destination equals the byte that the source has
-- after the move. Hence, if both ranges overlap, the bytes between the two addresses are repeated up to the end of the
-- destination.
abbrev pub MoveLeftRepeats : Type 0
MoveLeftRepeats =
    (m : List ℕ) (from to n i : ℕ) → IsMemory m → from + n ≤ 65536 → to + n ≤ 65536 → from ≤ to → i < n →
    byte_at (moved_up m from to n) (to + i) ≡ byte_at (moved_up m from to n) (from + i)

-- After a MOVERIGHT to the same or a lower address, each byte of the destination equals the byte that the source has
-- after the move.
abbrev pub MoveRightRepeats : Type 0
MoveRightRepeats =
    (m : List ℕ) (from to n i : ℕ) → IsMemory m → from + n ≤ 65536 → to + n ≤ 65536 → to ≤ from → i < n →
    byte_at (moved_down m from to n) (to + i) ≡ byte_at (moved_down m from to n) (from + i)

-- MOVELEFT and MOVERIGHT change no byte outside their destination.
abbrev pub MovesStayInside : Type 0
MovesStayInside =
    (m : List ℕ) (from to n x : ℕ) → IsMemory m → from + n ≤ 65536 → to + n ≤ 65536 → (x < to) ⊎ (to + n ≤ x) →
    (byte_at (moved_up m from to n) x ≡ byte_at m x) × (byte_at (moved_down m from to n) x ≡ byte_at m x)

-- ---- scans

-- `k` is the least number below `n` for which `test` is true, or `n` if no such number exists.
pub record IsFirst (test : ℕ → Bool) (n k : ℕ) : Type 0 where
  pub inside : k ≤ n
  pub before : (i : ℕ) → i < k → test i ≡ false
  pub there : k < n → test k ≡ true

-- An upward scan of `n` bytes returns the least distance of a byte that stops the scan, or `n`.
pub record ScansUp (m : List ℕ) (a n b : ℕ) (equal : Bool) : Type 0 where
  pub distance : ℕ
  pub answer : scanned m a (pos n) b equal ≡ pos distance
  pub first : IsFirst (λ i. stops equal b (byte_at m (a + i))) n distance

-- A downward scan of `d + 1` bytes returns the least distance of a byte that stops the scan, or `d + 1`, with a minus
-- sign.
pub record ScansDown (m : List ℕ) (a d b : ℕ) (equal : Bool) : Type 0 where
  pub distance : ℕ
  pub answer : scanned m a (negsuc d) b equal ≡ pos 0 -ℤ pos distance
  pub first : IsFirst (λ i. stops equal b (byte_at m (a - i))) (d + 1) distance

abbrev pub ScansStopFirst : Type 0
ScansStopFirst =
    ((m : List ℕ) (a n b : ℕ) (equal : Bool) → IsMemory m → a + n ≤ 65536 → ScansUp m a n b equal) ×
    ((m : List ℕ) (a d b : ℕ) (equal : Bool) → IsMemory m → d ≤ a → a < 65536 → ScansDown m a d b equal)
