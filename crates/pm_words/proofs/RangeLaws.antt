-- Laws of ranges of memory: a word or a byte after a copy, and when a copy one by one equals a copy of all bytes at
-- once. `touched` is *updated for* some bytes if it is true afterwards exactly if it was true before or one of these
-- bytes belongs to a watched word.
use Rattle.std.proofs.Common.{◌≡◌, ◌≢◌, ℕ, zero, suc, ◌+◌, ◌-◌, ◌*◌, ◌/◌, ◌%◌, ◌<◌, ◌≤◌, ◌⊎◌, List, [], ◌∷◌, length}
use Rattle.std.proofs.Common.{drop, get_or, replicate, refl, sym, ap, ◌∙◌, subst, arith, inl, inr, ⊎_elim, nat_lt}
use Rattle.std.specs.Prelude.{IsTrue, ◌↔◌}
use Rattle.std.specs.List.{All}
use Rattle.std.proofs.lemmas.Bool.{cases_lt, cases_eq, false≢true}
use Rattle.std.proofs.lemmas.List.{append-nil, ext_get_or, get_or-take, get_or-drop, length-take-le, length-drop, length-replicate, take-append-drop}
use Rattle.std.proofs.lemmas.List.Elements.{All-take, All-drop, All-cons, All-nil, All-replicate}
use Rattle.pm_words.specs.Watch.{IsSomeWatched, WatchStays, times}
use Rattle.pm_words.specs.Words.{Contents, filled, IsMemory, byte_at, bytes_at, bytes_of, copied}
use Rattle.pm_words.specs.Words.{moved_down, moved_up, with_byte, with_bytes, with_word, with_words, word_at}
use Rattle.pm_words.proofs.Pairs.{words_of-bytes_of}
use Rattle.pm_words.proofs.Laws.{AreMemoryBytes-bytes_of, IsMemory-with_bytes, get_or-with_words_other, byte_at-even, byte_at-odd, byte_at-with_bytes}
use Rattle.pm_words.proofs.Laws.{byte_at-with_bytes_other, word_at-bytes, word_at-with_word, word_at-with_word_other}

-- All items of `bytes_at` of a memory are below 256.
pub All-bytes_at : (ws : List ℕ) (a n : ℕ) → IsMemory ws → All (λ b. b < 256) (bytes_at ws a n)
unfolding bytes_at
All-bytes_at ws a n h =
    All-take (λ b. b < 256) n (drop a (bytes_of ws)) (All-drop (λ b. b < 256) a (bytes_of ws) (AreMemoryBytes-bytes_of ws h).fits)

pub length-bytes_at : (ws : List ℕ) (a n : ℕ) → IsMemory ws → a + n ≤ 65536 → length (bytes_at ws a n) ≡ n
unfolding bytes_at
length-bytes_at ws a n h room =
    length-take-le n (drop a (bytes_of ws)) (omega (arith, length-drop a (bytes_of ws), (AreMemoryBytes-bytes_of ws h).size))

get_or-bytes_at : (ws : List ℕ) (a n k : ℕ) → k < n → get_or (bytes_at ws a n) k 0 ≡ byte_at ws (a + k)
unfolding bytes_at byte_at
get_or-bytes_at ws a n k h =
    get_or-take n (drop a (bytes_of ws)) k 0 h ∙ get_or-drop a (bytes_of ws) k 0

-- If `x` equals the even address `a`, then the byte at `x` after the word `w` is written at `a` is the low byte of `w`.
pub byte_at-with_word_low : (ws : List ℕ) (a x w : ℕ) → a % 2 ≡ 0 → a / 2 < length ws → x ≡ a → byte_at (with_word ws a w) x ≡ w % 256
byte_at-with_word_low ws a x w even h e =
    let place : x % 2 ≡ 0 = omega arith in
    byte_at-even (with_word ws a w) x place ∙ ap (λ v. v % 256) (word_at-with_word ws a x w e h)

pub byte_at-with_word_high : (ws : List ℕ) (a x w : ℕ) → a % 2 ≡ 0 → a / 2 < length ws → x ≡ a + 1 → byte_at (with_word ws a w) x ≡ w / 256
byte_at-with_word_high ws a x w even h e =
    let place : x % 2 ≡ 1 = omega arith in
    let same : x - 1 ≡ a = omega arith in
    byte_at-odd (with_word ws a w) x place ∙ ap (λ v. v / 256) (word_at-with_word ws a (x - 1) w same h)

-- If address `x` is neither `a` nor `a + 1`, then writing a word at the even address `a` does not change the byte at
-- `x`.
pub byte_at-with_word_other : (ws : List ℕ) (a x w : ℕ) → a % 2 ≡ 0 → (x < a) ⊎ (a + 1 < x) → byte_at (with_word ws a w) x ≡ byte_at ws x
byte_at-with_word_other ws a x w even away =
    ⊎_elim
    (λ place. byte_at-even (with_word ws a w) x place
    ∙ (ap (λ v. v % 256) (word_at-with_word_other ws a x w even place (λ e. ⊎_elim (λ l. omega arith) (λ r. omega arith) away))
    ∙ sym (byte_at-even ws x place)))
    (λ odd. let place : x % 2 ≡ 1 = omega arith in
    let below : (x - 1) % 2 ≡ 0 = omega arith in
    byte_at-odd (with_word ws a w) x place
    ∙ (ap (λ v. v / 256) (word_at-with_word_other ws a (x - 1) w even below (λ e. ⊎_elim (λ l. omega arith) (λ r. omega arith) away))
    ∙ sym (byte_at-odd ws x place)))
    (cases_eq (x % 2) 0)

-- If the even address `x` has none of the written bytes, then the word at `x` is unchanged.
pub word_at-with_bytes_other : (ws ys : List ℕ) (a x : ℕ) → IsMemory ws → a + length ys ≤ 65536 → All (λ b. b < 256) ys → x % 2 ≡ 0
    → (x + 1 < a) ⊎ (a + length ys ≤ x) → word_at (with_bytes ws a ys) x ≡ word_at ws x
word_at-with_bytes_other ws ys a x h room fit even away =
    let low = byte_at-with_bytes_other ws ys a x h room fit (⊎_elim (λ l. inl (omega arith)) (λ r. inr r) away) in
    let high = byte_at-with_bytes_other ws ys a (x + 1) h room fit (⊎_elim (λ l. inl l) (λ r. inr (omega arith)) away) in
    rw (word_at-bytes (with_bytes ws a ys) x even, word_at-bytes ws x even, low, high) refl

-- If address `x` is in the target range of a copy, then its byte is the old byte at the same offset of the source
-- range.
pub byte_at-copied : (ws : List ℕ) (from to n x : ℕ) → IsMemory ws → from + n ≤ 65536 → to + n ≤ 65536 → to ≤ x → x < to + n
    → byte_at (copied ws from to n) x ≡ byte_at ws (from + (x - to))
unfolding copied
byte_at-copied ws from to n x h source room low high =
    let size = length-bytes_at ws from n h source in
    byte_at-with_bytes ws (bytes_at ws from n) to x h (omega arith) (All-bytes_at ws from n h) low (omega arith)
    ∙ get_or-bytes_at ws from n (x - to) (omega arith)

pub byte_at-copied_other : (ws : List ℕ) (from to n x : ℕ) → IsMemory ws → from + n ≤ 65536 → to + n ≤ 65536 → (x < to) ⊎ (to + n ≤ x)
    → byte_at (copied ws from to n) x ≡ byte_at ws x
unfolding copied
byte_at-copied_other ws from to n x h source room away =
    let size = length-bytes_at ws from n h source in
    byte_at-with_bytes_other ws (bytes_at ws from n) to x h (omega arith) (All-bytes_at ws from n h) (⊎_elim (λ l. inl l) (λ r. inr (omega arith)) away)

-- If both addresses of a copy are even, then a word in the target range is the old word at the same offset of the
-- source.
pub word_at-copied : (ws : List ℕ) (from to n x : ℕ) → IsMemory ws → from + n ≤ 65536 → to + n ≤ 65536 → from % 2 ≡ 0 → to % 2 ≡ 0 → x % 2 ≡ 0 → to ≤ x
    → x + 1 < to + n → word_at (copied ws from to n) x ≡ word_at ws (from + (x - to))
word_at-copied ws from to n x h source room f t even low high =
    let first = byte_at-copied ws from to n x h source room low (omega arith) in
    let second = byte_at-copied ws from to n (x + 1) h source room (omega arith) high in
    let place : (from + (x - to)) % 2 ≡ 0 = omega arith in
    let next : from + (x + 1 - to) ≡ from + (x - to) + 1 = omega arith in
    rw (word_at-bytes (copied ws from to n) x even, word_at-bytes ws (from + (x - to)) place, first, second, next) refl

pub word_at-copied_other : (ws : List ℕ) (from to n x : ℕ) → IsMemory ws → from + n ≤ 65536 → to + n ≤ 65536 → x % 2 ≡ 0 → (x + 1 < to) ⊎ (to + n ≤ x)
    → word_at (copied ws from to n) x ≡ word_at ws x
unfolding copied
word_at-copied_other ws from to n x h source room even away =
    let size = length-bytes_at ws from n h source in
    word_at-with_bytes_other ws (bytes_at ws from n) to x h (omega arith) (All-bytes_at ws from n h) even (⊎_elim (λ l. inl l) (λ r. inr (omega arith)) away)

pub IsMemory-copied : (ws : List ℕ) (from to n : ℕ) → IsMemory ws → from + n ≤ 65536 → to + n ≤ 65536 → IsMemory (copied ws from to n)
unfolding copied
IsMemory-copied ws from to n h source room =
    let size = length-bytes_at ws from n h source in
    IsMemory-with_bytes ws (bytes_at ws from n) to h (omega arith) (All-bytes_at ws from n h)

-- If two memories have the same bytes at `x` and `x + 1`, and `x` is even, then they have the same word at `x`.
same_word : (ws vs : List ℕ) (x : ℕ) → x % 2 ≡ 0 → byte_at ws x ≡ byte_at vs x → byte_at ws (x + 1) ≡ byte_at vs (x + 1) → word_at ws x ≡ word_at vs x
same_word ws vs x even first second =
    rw (word_at-bytes ws x even, word_at-bytes vs x even, first, second) refl

word_at-twice : (ws : List ℕ) (i : ℕ) → word_at ws (2 * i) ≡ get_or ws i 0
unfolding word_at
word_at-twice ws i = let half : 2 * i / 2 ≡ i = omega arith in rw half refl

pub same_memories : (ws vs : List ℕ) → IsMemory ws → IsMemory vs → ((a : ℕ) → a < 65536 → byte_at ws a ≡ byte_at vs a) → ws ≡ vs
same_memories ws vs h k same =
    ext_get_or 0 ws vs (h.size ∙ sym k.size)
    (λ i l. sym (word_at-twice ws i) ∙ (same_word ws vs (2 * i) (omega arith) (same (2 * i) (omega (arith, h.size))) (same (2 * i + 1) (omega (arith, h.size)))
    ∙ word_at-twice vs i))

-- ---- laws of copies one by one

byte_at-below : (ws : List ℕ) (a : ℕ) → IsMemory ws → a < 65536 → byte_at ws a < 256
unfolding byte_at
byte_at-below ws a h l =
    let bytes = AreMemoryBytes-bytes_of ws h in
    bytes.fits a 0 (omega (arith, bytes.size))

All-one : (b : ℕ) → b < 256 → All (λ x. x < 256) (b ∷ [])
All-one b h = All-cons (λ x. x < 256) b [] h (All-nil (λ x. x < 256))

pub IsMemory-with_byte : (ws : List ℕ) (a b : ℕ) → IsMemory ws → a < 65536 → b < 256 → IsMemory (with_byte ws a b)
unfolding with_byte
IsMemory-with_byte ws a b h l fit = IsMemory-with_bytes ws (b ∷ []) a h (omega arith) (All-one b fit)

pub byte_at-with_byte : (ws : List ℕ) (a x b : ℕ) → IsMemory ws → a < 65536 → b < 256 → x ≡ a → byte_at (with_byte ws a b) x ≡ b
unfolding with_byte
byte_at-with_byte ws a x b h l fit e =
    let none : x - a ≡ 0 = omega arith in
    byte_at-with_bytes ws (b ∷ []) a x h (omega arith) (All-one b fit) (omega arith) (omega arith) ∙ rw none refl

pub byte_at-with_byte_other : (ws : List ℕ) (a x b : ℕ) → IsMemory ws → a < 65536 → b < 256 → x ≢ a → byte_at (with_byte ws a b) x ≡ byte_at ws x
unfolding with_byte
byte_at-with_byte_other ws a x b h l fit ne =
    byte_at-with_bytes_other ws (b ∷ []) a x h (omega arith) (All-one b fit) (⊎_elim (λ less. inl less) (λ more. inr (omega arith)) (cases_lt x a))

copied-none : (ws : List ℕ) (from to : ℕ) → copied ws from to 0 ≡ ws
unfolding copied bytes_at with_bytes
copied-none ws from to =
    let e : to + 0 ≡ to = omega arith in
    rw (append-nil, e, take-append-drop to (bytes_of ws)) (words_of-bytes_of ws)

-- Let a copy, the lowest address first, read no byte that it has written. Then copying the first byte and then the
-- other `n` bytes has the same result as copying all at once.
copied-first : (ws : List ℕ) (from to n : ℕ) → IsMemory ws → from + suc n ≤ 65536 → to + suc n ≤ 65536 → (to ≤ from) ⊎ (from + suc n ≤ to)
    → copied (with_byte ws to (byte_at ws from)) (suc from) (suc to) n ≡ copied ws from to (suc n)
copied-first ws from to n h source room apart =
    let below : byte_at ws from < 256 = byte_at-below ws from h (omega arith) in
    let here : to < 65536 = omega arith in
    let first = with_byte ws to (byte_at ws from) in
    let k : IsMemory first = IsMemory-with_byte ws to (byte_at ws from) h here below in
    let inner : suc from + n ≤ 65536 = omega arith in
    let outer : suc to + n ≤ 65536 = omega arith in
    same_memories _ _ (IsMemory-copied first (suc from) (suc to) n k inner outer) (IsMemory-copied ws from to (suc n) h source room)
    (λ x l. ⊎_elim
    (λ less. byte_at-copied_other first (suc from) (suc to) n x k inner outer (inl (omega arith))
    ∙ (byte_at-with_byte_other ws to x (byte_at ws from) h here below (λ e. omega arith)
    ∙ sym (byte_at-copied_other ws from to (suc n) x h source room (inl less))))
    (λ more. ⊎_elim
    (λ inside. ⊎_elim
    (λ same. byte_at-copied_other first (suc from) (suc to) n x k inner outer (inl (omega arith))
    ∙ (byte_at-with_byte ws to x (byte_at ws from) h here below same
    ∙ (ap (byte_at ws) (omega arith) ∙ sym (byte_at-copied ws from to (suc n) x h source room more inside))))
    (λ ne. byte_at-copied first (suc from) (suc to) n x k inner outer (omega arith) (omega arith)
    ∙ (byte_at-with_byte_other ws to (suc from + (x - suc to)) (byte_at ws from) h here below (λ e. ⊎_elim (λ p. omega arith) (λ p. omega arith) apart)
    ∙ (ap (byte_at ws) (omega arith) ∙ sym (byte_at-copied ws from to (suc n) x h source room more inside))))
    (cases_eq x to))
    (λ past. byte_at-copied_other first (suc from) (suc to) n x k inner outer (inr (omega arith))
    ∙ (byte_at-with_byte_other ws to x (byte_at ws from) h here below (λ e. omega arith)
    ∙ sym (byte_at-copied_other ws from to (suc n) x h source room (inr past))))
    (cases_lt x (to + suc n)))
    (cases_lt x to))

-- Let the target be at or below the source, or let the two ranges not overlap. Then a copy one by one, the lowest
-- address first, has the same result as a copy of all bytes at once.
pub moved_up-copied : (n : ℕ) (ws : List ℕ) (from to : ℕ) → IsMemory ws → from + n ≤ 65536 → to + n ≤ 65536 → (to ≤ from) ⊎ (from + n ≤ to)
    → moved_up ws from to n ≡ copied ws from to n
unfolding moved_up
moved_up-copied zero ws from to h source room apart = sym (copied-none ws from to)
moved_up-copied (suc n) ws from to h source room apart =
    let below : byte_at ws from < 256 = byte_at-below ws from h (omega arith) in
    moved_up-copied n (with_byte ws to (byte_at ws from)) (suc from) (suc to) (IsMemory-with_byte ws to (byte_at ws from) h (omega arith) below) (omega arith)
    (omega arith) (⊎_elim (λ l. inl (omega arith)) (λ r. inr (omega arith)) apart)
    ∙ copied-first ws from to n h source room apart

-- Let a copy, the highest address first, read no byte that it has written. Then copying the last byte and then the
-- other `n` bytes has the same result as copying all at once.
copied-last : (ws : List ℕ) (from to n : ℕ) → IsMemory ws → from + suc n ≤ 65536 → to + suc n ≤ 65536 → (from ≤ to) ⊎ (to + suc n ≤ from)
    → copied (with_byte ws (to + n) (byte_at ws (from + n))) from to n ≡ copied ws from to (suc n)
copied-last ws from to n h source room apart =
    let below : byte_at ws (from + n) < 256 = byte_at-below ws (from + n) h (omega arith) in
    let here : to + n < 65536 = omega arith in
    let first = with_byte ws (to + n) (byte_at ws (from + n)) in
    let k : IsMemory first = IsMemory-with_byte ws (to + n) (byte_at ws (from + n)) h here below in
    let inner : from + n ≤ 65536 = omega arith in
    let outer : to + n ≤ 65536 = omega arith in
    same_memories _ _ (IsMemory-copied first from to n k inner outer) (IsMemory-copied ws from to (suc n) h source room)
    (λ x l. ⊎_elim
    (λ less. byte_at-copied_other first from to n x k inner outer (inl less)
    ∙ (byte_at-with_byte_other ws (to + n) x (byte_at ws (from + n)) h here below (λ e. omega arith)
    ∙ sym (byte_at-copied_other ws from to (suc n) x h source room (inl less))))
    (λ more. ⊎_elim
    (λ inside. ⊎_elim
    (λ same. byte_at-copied_other first from to n x k inner outer (inr (omega arith))
    ∙ (byte_at-with_byte ws (to + n) x (byte_at ws (from + n)) h here below same
    ∙ (ap (byte_at ws) (omega arith) ∙ sym (byte_at-copied ws from to (suc n) x h source room more inside))))
    (λ ne. byte_at-copied first from to n x k inner outer more (⊎_elim (λ p. p) (λ p. absurd (ne (omega arith))) (cases_lt x (to + n)))
    ∙ (byte_at-with_byte_other ws (to + n) (from + (x - to)) (byte_at ws (from + n)) h here below (λ e. ⊎_elim (λ p. ne (omega arith)) (λ p. omega arith) apart)
    ∙ sym (byte_at-copied ws from to (suc n) x h source room more inside)))
    (cases_eq x (to + n)))
    (λ past. byte_at-copied_other first from to n x k inner outer (inr (omega arith))
    ∙ (byte_at-with_byte_other ws (to + n) x (byte_at ws (from + n)) h here below (λ e. omega arith)
    ∙ sym (byte_at-copied_other ws from to (suc n) x h source room (inr past))))
    (cases_lt x (to + suc n)))
    (cases_lt x to))

-- Let the target be at or above the source, or let the two ranges not overlap. Then a copy one by one, the highest
-- address first, has the same result as a copy of all bytes at once.
pub moved_down-copied : (n : ℕ) (ws : List ℕ) (from to : ℕ) → IsMemory ws → from + n ≤ 65536 → to + n ≤ 65536 → (from ≤ to) ⊎ (to + n ≤ from)
    → moved_down ws from to n ≡ copied ws from to n
unfolding moved_down
moved_down-copied zero ws from to h source room apart = sym (copied-none ws from to)
moved_down-copied (suc n) ws from to h source room apart =
    let below : byte_at ws (from + n) < 256 = byte_at-below ws (from + n) h (omega arith) in
    moved_down-copied n (with_byte ws (to + n) (byte_at ws (from + n))) from to (IsMemory-with_byte ws (to + n) (byte_at ws (from + n)) h (omega arith) below)
    (omega arith) (omega arith) (⊎_elim (λ l. inl l) (λ r. inr (omega arith)) apart)
    ∙ copied-last ws from to n h source room apart

-- Laws of single bytes and of copies, for other crates.
pub ruleset byte_laws = (byte_at-with_byte, byte_at-with_byte_other, byte_at-with_word_low, byte_at-with_word_high, byte_at-with_word_other)

pub ruleset copy_laws = (word_at-copied, word_at-copied_other, byte_at-copied, byte_at-copied_other, IsMemory-copied)

-- ---- laws of watched words after copies and fills

word_at-half : (ws : List ℕ) (x : ℕ) → word_at ws (2 * (x / 2)) ≡ word_at ws x
unfolding word_at
word_at-half ws x = let half : 2 * (x / 2) / 2 ≡ x / 2 = omega arith in rw half refl

-- If none of the written bytes is in the word that contains address `x`, then this word is unchanged.
watched_word_stays : (ws ys : List ℕ) (a x : ℕ) → IsMemory ws → a + length ys ≤ 65536 → All (λ b. b < 256) ys
    → ((y : ℕ) → a ≤ y → y < a + length ys → y / 2 ≡ x / 2 → ⊥) → word_at (with_bytes ws a ys) x ≡ word_at ws x
watched_word_stays ws ys a x h room fit none =
    let half : 2 * (x / 2) / 2 ≡ x / 2 = omega arith in
    let next : (2 * (x / 2) + 1) / 2 ≡ x / 2 = omega arith in
    let even : 2 * (x / 2) % 2 ≡ 0 = omega arith in
    let first = byte_at-with_bytes_other ws ys a (2 * (x / 2)) h room fit (away (2 * (x / 2)) half) in
    let second = byte_at-with_bytes_other ws ys a (2 * (x / 2) + 1) h room fit (away (2 * (x / 2) + 1) next) in
    sym (word_at-half (with_bytes ws a ys) x) ∙ (same_word (with_bytes ws a ys) ws (2 * (x / 2)) even first second ∙ word_at-half ws x)
  where
    away : (y : ℕ) → y / 2 ≡ x / 2 → (y < a) ⊎ (a + length ys ≤ y)
    away y e =
        ⊎_elim (λ less. inl less)
        (λ more. ⊎_elim (λ inside. absurd (none y more inside e)) (λ past. inr past) (cases_lt y (a + length ys)))
        (cases_lt y a)

pub WatchStays-with_bytes : (m n : Contents) (a : ℕ) (ys : List ℕ) → IsMemory m.words → a + length ys ≤ 65536 → All (λ b. b < 256) ys
    → n.words ≡ with_bytes m.words a ys → n.watched ≡ m.watched → IsTrue n.touched ↔ (IsTrue m.touched ⊎ IsSomeWatched m.watched a (length ys)) → WatchStays m n
WatchStays-with_bytes m n a ys h room fit words watched touched = record {
  watched = watched;
  touched = λ t. touched.1 (inl t);
  values = λ no x set.
      rw words (watched_word_stays m.words ys a x h room fit
      (λ y low high e. false≢true (sym no ∙ touched.1 (inr (y, low, high, subst (λ k. IsTrue (nat_lt 0 (times m.watched k))) (sym e) set)))));
}

-- If a copy changes `m` into `n`, and `touched` is updated for the target range, then `WatchStays m n` holds.
pub WatchStays-copied : (m n : Contents) (from to k : ℕ) → IsMemory m.words → from + k ≤ 65536 → to + k ≤ 65536 → n.words ≡ copied m.words from to k
    → n.watched ≡ m.watched → IsTrue n.touched ↔ (IsTrue m.touched ⊎ IsSomeWatched m.watched to k) → WatchStays m n
unfolding copied
WatchStays-copied m n from to k h source room words watched touched =
    let size = length-bytes_at m.words from k h source in
    WatchStays-with_bytes m n to (bytes_at m.words from k) h (omega arith) (All-bytes_at m.words from k h) words watched (rw size touched)

-- If a fill changes `m` into `n`, and `touched` is updated for the filled range, then `WatchStays m n` holds.
pub WatchStays-filled : (m n : Contents) (a k b : ℕ) → IsMemory m.words → a + k ≤ 65536 → b < 256 → n.words ≡ filled m.words a k b → n.watched ≡ m.watched
    → IsTrue n.touched ↔ (IsTrue m.touched ⊎ IsSomeWatched m.watched a k) → WatchStays m n
unfolding filled
WatchStays-filled m n a k b h room fit words watched touched =
    let size = length-replicate k b in
    WatchStays-with_bytes m n a (replicate k b) h (omega arith) (All-replicate (λ x. x < 256) k b fit) words watched (rw size touched)

-- If writing the words `vs` changes `m` into `n`, and `touched` is updated for these words, then `WatchStays m n`
-- holds.
pub WatchStays-with_words : (m n : Contents) (a : ℕ) (vs : List ℕ) → IsMemory m.words → a % 2 ≡ 0 → a + 2 * length vs ≤ 65536
    → n.words ≡ with_words m.words a vs → n.watched ≡ m.watched
    → IsTrue n.touched ↔ (IsTrue m.touched ⊎ IsSomeWatched m.watched a (2 * length vs)) → WatchStays m n
unfolding word_at
WatchStays-with_words m n a vs h even room words watched touched = record {
  watched = watched;
  touched = λ t. touched.1 (inl t);
  values = λ no x set.
      let beside : (x / 2 < a / 2) ⊎ (a / 2 + length vs ≤ x / 2) = ⊎_elim
      (λ low. inl low)
      (λ from. ⊎_elim
      (λ within. absurd (false≢true (sym no ∙ touched.1 (inr (x, omega (arith, from), omega (arith, within), set)))))
      (λ past. inr past)
      (cases_lt (x / 2) (a / 2 + length vs)))
      (cases_lt (x / 2) (a / 2)) in
      rw words (get_or-with_words_other m.words vs a (x / 2) (omega (arith, h.size)) beside);
}
