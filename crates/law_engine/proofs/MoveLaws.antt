-- Lemmas for the bytes after a move.
use Rattle.std.proofs.Common.{◌≡◌, ℕ, zero, suc, ◌+◌, ◌<◌, ◌≤◌, ◌⊎◌, List, refl, sym, ◌∙◌, arith, inl, inr, ⊎_elim}
use Rattle.std.proofs.lemmas.Bool.{cases_lt, cases_eq}
use Rattle.pm_words.specs.Words.{IsMemory, byte_at, moved_down, moved_up, with_byte}
use Rattle.pm_words.proofs.Laws.{AreMemoryBytes-bytes_of}
use Rattle.pm_words.proofs.RangeLaws.{IsMemory-with_byte, byte_at-with_byte, byte_at-with_byte_other, moved_down-copied, moved_up-copied}
use Rattle.law_engine.specs.ProcedureLaws.{MoveLeftCopies, MoveLeftRepeats, MoveRightCopies, MoveRightRepeats, MovesStayInside}

pub move_left_copies : MoveLeftCopies
move_left_copies m from to n h source room apart = moved_up-copied n m from to h source room apart

pub move_right_copies : MoveRightCopies
move_right_copies m from to n h source room apart = moved_down-copied n m from to h source room apart

pub byte_at-below : (ws : List ℕ) (a : ℕ) → IsMemory ws → a < 65536 → byte_at ws a < 256
unfolding byte_at
byte_at-below ws a h l =
    let bytes = AreMemoryBytes-bytes_of ws h in
    bytes.fits a 0 (omega (arith, bytes.size))

-- Bytes outside the destination of a move are unchanged.
up_stays : (n : ℕ) (ws : List ℕ) (from to x : ℕ) → IsMemory ws → from + n ≤ 65536 → to + n ≤ 65536 → (x < to) ⊎ (to + n ≤ x)
    → byte_at (moved_up ws from to n) x ≡ byte_at ws x
unfolding moved_up
up_stays zero ws from to x h source room outside = refl
up_stays (suc n) ws from to x h source room outside =
    let below : byte_at ws from < 256 = byte_at-below ws from h (omega arith) in
    let here : to < 65536 = omega arith in
    up_stays n (with_byte ws to (byte_at ws from)) (suc from) (suc to) x (IsMemory-with_byte ws to (byte_at ws from) h here below) (omega arith) (omega arith)
    (⊎_elim (λ l. inl (omega arith)) (λ r. inr (omega arith)) outside)
    ∙ byte_at-with_byte_other ws to x (byte_at ws from) h here below (λ e. ⊎_elim (λ l. omega arith) (λ r. omega arith) outside)

down_stays : (n : ℕ) (ws : List ℕ) (from to x : ℕ) → IsMemory ws → from + n ≤ 65536 → to + n ≤ 65536 → (x < to) ⊎ (to + n ≤ x)
    → byte_at (moved_down ws from to n) x ≡ byte_at ws x
unfolding moved_down
down_stays zero ws from to x h source room outside = refl
down_stays (suc n) ws from to x h source room outside =
    let below : byte_at ws (from + n) < 256 = byte_at-below ws (from + n) h (omega arith) in
    let here : to + n < 65536 = omega arith in
    down_stays n (with_byte ws (to + n) (byte_at ws (from + n))) from to x (IsMemory-with_byte ws (to + n) (byte_at ws (from + n)) h here below) (omega arith)
    (omega arith) (⊎_elim (λ l. inl l) (λ r. inr (omega arith)) outside)
    ∙ byte_at-with_byte_other ws (to + n) x (byte_at ws (from + n)) h here below (λ e. ⊎_elim (λ l. omega arith) (λ r. omega arith) outside)

pub moves_stay_inside : MovesStayInside
moves_stay_inside m from to n x h source room outside = (up_stays n m from to x h source room outside, down_stays n m from to x h source room outside)

-- If the byte at `from` is written at `to`, then both bytes are equal after the write.
with_byte-same : (ws : List ℕ) (from to : ℕ) → IsMemory ws → from < 65536 → to < 65536 → byte_at (with_byte ws to (byte_at ws from)) to
    ≡ byte_at (with_byte ws to (byte_at ws from)) from
with_byte-same ws from to h l k =
    let below : byte_at ws from < 256 = byte_at-below ws from h l in
    byte_at-with_byte ws to to (byte_at ws from) h k below refl
    ∙ ⊎_elim (λ e. sym (byte_at-with_byte ws to from (byte_at ws from) h k below e)) (λ ne. sym
    (byte_at-with_byte_other ws to from (byte_at ws from) h k below ne)) (cases_eq from to)

up_repeats : (n : ℕ) (ws : List ℕ) (from to i : ℕ) → IsMemory ws → from + n ≤ 65536 → to + n ≤ 65536 → from ≤ to → i < n
    → byte_at (moved_up ws from to n) (to + i) ≡ byte_at (moved_up ws from to n) (from + i)
unfolding moved_up
up_repeats zero ws from to i h source room up l = absurd (omega arith)
up_repeats (suc n) ws from to zero h source room up l =
    let below : byte_at ws from < 256 = byte_at-below ws from h (omega arith) in
    let here : to < 65536 = omega arith in
    let first = with_byte ws to (byte_at ws from) in
    let k : IsMemory first = IsMemory-with_byte ws to (byte_at ws from) h here below in
    let left : to + 0 ≡ to = omega arith in
    let right : from + 0 ≡ from = omega arith in
    rw (left, right) (up_stays n first (suc from) (suc to) to k (omega arith) (omega arith) (inl (omega arith))
    ∙ (with_byte-same ws from to h (omega arith) here
    ∙ sym (up_stays n first (suc from) (suc to) from k (omega arith) (omega arith) (inl (omega arith)))))
up_repeats (suc n) ws from to (suc i) h source room up l =
    let below : byte_at ws from < 256 = byte_at-below ws from h (omega arith) in
    let left : to + suc i ≡ suc to + i = omega arith in
    let right : from + suc i ≡ suc from + i = omega arith in
    rw (left, right) (up_repeats n (with_byte ws to (byte_at ws from)) (suc from) (suc to) i (IsMemory-with_byte ws to (byte_at ws from) h (omega arith) below)
    (omega arith) (omega arith) (omega arith) (omega arith))

pub move_left_repeats : MoveLeftRepeats
move_left_repeats m from to n i h source room up l = up_repeats n m from to i h source room up l

down_repeats : (n : ℕ) (ws : List ℕ) (from to i : ℕ) → IsMemory ws → from + n ≤ 65536 → to + n ≤ 65536 → to ≤ from → i < n
    → byte_at (moved_down ws from to n) (to + i) ≡ byte_at (moved_down ws from to n) (from + i)
unfolding moved_down
down_repeats zero ws from to i h source room down l = absurd (omega arith)
down_repeats (suc n) ws from to i h source room down l =
    let below : byte_at ws (from + n) < 256 = byte_at-below ws (from + n) h (omega arith) in
    let here : to + n < 65536 = omega arith in
    let first = with_byte ws (to + n) (byte_at ws (from + n)) in
    let k : IsMemory first = IsMemory-with_byte ws (to + n) (byte_at ws (from + n)) h here below in
    ⊎_elim
    (λ less. down_repeats n first from to i k (omega arith) (omega arith) down less)
    (λ last.
    let e : i ≡ n = omega arith in
    rw e (down_stays n first from to (to + n) k (omega arith) (omega arith) (inr (omega arith))
    ∙ (with_byte-same ws (from + n) (to + n) h (omega arith) here
    ∙ sym (down_stays n first from to (from + n) k (omega arith) (omega arith) (inr (omega arith))))))
    (cases_lt i n)

pub move_right_repeats : MoveRightRepeats
move_right_repeats m from to n i h source room down l = down_repeats n m from to i h source room down l
