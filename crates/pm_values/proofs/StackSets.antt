-- Laws of the words of a set in memory.
use Rattle.std.proofs.Common.{◌≡◌, ◌∙◌, ℕ, ◌+◌, ◌-◌, ◌*◌, ◌/◌, ◌%◌, ◌^◌, ◌<◌, ◌≤◌, ◌⊎◌, inl, inr, ⊎_elim, min, List, [], ◌∷◌, ◌++◌, length, drop, get_or}
use Rattle.std.proofs.Common.{replicate, refl, sym, ap, arith, rules, true, false, nat_le, Ok, Err}
use Rattle.std.proofs.lemmas.Bool.{cases_lt}
use Rattle.std.proofs.lemmas.Bool.Decides.{nat_tests}
use Rattle.std.proofs.lemmas.List.{ext_get_or, get_or-drop, get_or-replicate, get_or-take, get_or_past, length-replicate, places}
use Rattle.std.proofs.lemmas.List.Elements.{All-replicate}
use Rattle.pm_words.specs.Words.{IsMemory, copied, filled, overwritten, with_bytes, with_word, with_words, word_at, words_at}
use Rattle.pm_words.proofs.Laws.{IsMemory-with_bytes, byte_at-with_bytes, length-overwritten, length-words_at, with_words-before, with_words-more}
use Rattle.pm_words.proofs.Laws.{word_at-bytes}
use Rattle.pm_words.proofs.RangeLaws.{IsMemory-copied, word_at-copied, word_at-copied_other, word_at-with_bytes_other}
use Rattle.pm_words.specs.declared.error.ExecError.TheVariants.{StackOverflow}
use Rattle.pm_values.specs.Combinations.{combined_word, test_of}
use Rattle.pm_values.specs.declared.sets.Combination.{Combination}
use Rattle.pm_values.specs.Several.{push_words}
use Rattle.pm_values.specs.Sets.{bits_from, is_member, set_of}
use Rattle.pm_values.proofs.SetLaws.{combined-word, length-set_from, member-word, set_of-more}
use Rattle.pm_values.proofs.MemberLaws.{get_or-set_from}

-- Word `i` of the `n` words from the even address `a` on is the word at address `a + 2 * i`.
pub words_at-word : (ws : List ℕ) (a n i : ℕ) → a % 2 ≡ 0 → i < n → get_or (words_at ws a n) i 0 ≡ word_at ws (a + 2 * i)
unfolding words_at word_at
words_at-word ws a n i even h =
    let place : (a + 2 * i) / 2 ≡ a / 2 + i = omega arith in
    rw place (get_or-take n (drop (a / 2) ws) i 0 h ∙ get_or-drop (a / 2) ws i 0)

-- If `i` is after the last of the `n` words from `a` on, then reading item `i` of this list returns 0.
pub words_at-past : (ws : List ℕ) (a n i : ℕ) → a / 2 + n ≤ length ws → n ≤ i → get_or (words_at ws a n) i 0 ≡ 0
words_at-past ws a n i inside h = get_or_past (words_at ws a n) i 0 (omega (arith, length-words_at ws a n inside))

-- ---- a set copied to another address, cut or followed by zeros

-- If the two bytes of a word are in a range that is filled with zeros, then the word is 0.
filled-inside : (ws : List ℕ) (a n x : ℕ) → IsMemory ws → a + n ≤ 65536 → x % 2 ≡ 0 → a ≤ x → x + 1 < a + n → word_at (filled ws a n 0) x ≡ 0
unfolding filled
filled-inside ws a n x h room even low high =
    let size : length (replicate {A = ℕ} n 0) ≡ n = length-replicate {A = ℕ} n 0 in
    let fit = All-replicate (λ b. b < 256) n 0 (omega arith) in
    let first = byte_at-with_bytes ws (replicate n 0) a x h (omega arith) fit low (omega arith) ∙ get_or-replicate n (x - a) 0 0 (omega arith) in
    let second = byte_at-with_bytes ws (replicate n 0) a (x + 1) h (omega arith) fit (omega arith) (omega arith)
    ∙ get_or-replicate n (x + 1 - a) 0 0 (omega arith) in
    rw (word_at-bytes (with_bytes ws a (replicate n 0)) x even, first, second) refl

filled-outside : (ws : List ℕ) (a n x : ℕ) → IsMemory ws → a + n ≤ 65536 → x % 2 ≡ 0 → (x + 1 < a) ⊎ (a + n ≤ x) → word_at (filled ws a n 0) x ≡ word_at ws x
unfolding filled
filled-outside ws a n x h room even away =
    let size : length (replicate {A = ℕ} n 0) ≡ n = length-replicate {A = ℕ} n 0 in
    let fit = All-replicate (λ b. b < 256) n 0 (omega arith) in
    word_at-with_bytes_other ws (replicate n 0) a x h (omega arith) fit even (⊎_elim (λ l. inl l) (λ r. inr (omega arith)) away)

length-filled : (ws : List ℕ) (a n : ℕ) → IsMemory ws → a + n ≤ 65536 → length (filled ws a n 0) ≡ length ws
unfolding filled
length-filled ws a n h room =
    let size : length (replicate {A = ℕ} n 0) ≡ n = length-replicate {A = ℕ} n 0 in
    let fit = All-replicate (λ b. b < 256) n 0 (omega arith) in
    (IsMemory-with_bytes ws (replicate n 0) a h (omega arith) fit).size ∙ sym h.size

-- If index `x` is overwritten, then item `x` is the item of `ys` for this index.
overwritten-inside : (xs ys : List ℕ) (a x : ℕ) → a + length ys ≤ length xs → a ≤ x → x < a + length ys → get_or (overwritten xs a ys) x 0 ≡ get_or ys (x - a) 0
overwritten-inside xs ys a x room low high = search (rules, places)

overwritten-outside : (xs ys : List ℕ) (a x : ℕ) → a + length ys ≤ length xs → (x < a) ⊎ (a + length ys ≤ x) → get_or (overwritten xs a ys) x 0 ≡ get_or xs x 0
overwritten-outside xs ys a x room (inl h) = grind (arith, places)
overwritten-outside xs ys a x room (inr h) = grind (arith, places)

length-with_words : (ws vs : List ℕ) (a : ℕ) → a / 2 + length vs ≤ length ws → length (with_words ws a vs) ≡ length ws
unfolding with_words
length-with_words ws vs a h = length-overwritten ws vs (a / 2) h

with_words-inside : (ws vs : List ℕ) (a i : ℕ) → a / 2 + length vs ≤ length ws → a / 2 ≤ i → i < a / 2 + length vs
    → get_or (with_words ws a vs) i 0 ≡ get_or vs (i - a / 2) 0
unfolding with_words
with_words-inside ws vs a i room low high = overwritten-inside ws vs (a / 2) i room low high

with_words-outside : (ws vs : List ℕ) (a i : ℕ) → a / 2 + length vs ≤ length ws → (i < a / 2) ⊎ (a / 2 + length vs ≤ i)
    → get_or (with_words ws a vs) i 0 ≡ get_or ws i 0
unfolding with_words
with_words-outside ws vs a i room away = overwritten-outside ws vs (a / 2) i room away

-- Word `i` of a memory is the word at address `2 * i`.
at-twice : (ws : List ℕ) (i : ℕ) → get_or ws i 0 ≡ word_at ws (2 * i)
unfolding word_at
at-twice ws i = let half : 2 * i / 2 ≡ i = omega arith in rw half refl

below : (ws : List ℕ) (x : ℕ) → IsMemory ws → x < 65536 → word_at ws x < 65536
unfolding word_at
below ws x h l = h.fits (x / 2) 0 (omega (arith, h.size))

set-fits : (ws : List ℕ) (a c j : ℕ) → IsMemory ws → a % 2 ≡ 0 → a + 2 * c ≤ 65536 → get_or (words_at ws a c) j 0 < 2 ^ 16
set-fits ws a c j h even inside = ⊎_elim
    (λ less. let e = words_at-word ws a c j even less in omega (arith, e, below ws (a + 2 * j) h (omega (arith, less, inside))))
    (λ past. let e = words_at-past ws a c j (omega (arith, h.size, inside)) past in omega (arith, e))
    (cases_lt j c)

-- Word `j` of the set at `a`, resized to `n` words, is word `j` of the set, or 0 after its last word.
resized-word : (ws : List ℕ) (a c n j : ℕ) → IsMemory ws → a % 2 ≡ 0 → a + 2 * c ≤ 65536 → j < n
    → get_or (set_of n (λ e. is_member (words_at ws a c) e)) j 0 ≡ get_or (words_at ws a c) j 0
resized-word ws a c n j h even inside l =
    let place : 0 + 16 * j ≡ 16 * j = omega arith in
    get_or-set_from n 0 j (λ e. is_member (words_at ws a c) e) l
    ∙ ap (λ s. bits_from (λ e. is_member (words_at ws a c) e) s 16) place
    ∙ member-word (words_at ws a c) j (set-fits ws a c j h even inside)

-- `2 * k` bytes are copied from `a` to `t`, and zeros follow up to `2 * n` bytes. A word outside the `2 * n` bytes is
-- unchanged.
moved-out : (m : List ℕ) (a t n k x : ℕ) → IsMemory m → k ≤ n → a + 2 * k ≤ 65536 → t + 2 * n ≤ 65536 → x % 2 ≡ 0 → t % 2 ≡ 0
    → (x < t) ⊎ (t + 2 * n ≤ x)
    → word_at (filled (copied m a t (2 * k)) (t + 2 * k) (2 * (n - k)) 0) x ≡ word_at m x
moved-out m a t n k x h le source room even even_to away =
    let o = IsMemory-copied m a t (2 * k) h source (omega arith) in
    filled-outside (copied m a t (2 * k)) (t + 2 * k) (2 * (n - k)) x o (omega arith) even
    (⊎_elim (λ l. inl (omega (arith, l))) (λ r. inr (omega (arith, r))) away)
    ∙ word_at-copied_other m a t (2 * k) x h source (omega arith) even (⊎_elim (λ l. inl (omega (arith, l))) (λ r. inr (omega (arith, r))) away)

moved-in : (m : List ℕ) (a t n k j : ℕ) → IsMemory m → k ≤ n → a + 2 * k ≤ 65536 → t + 2 * n ≤ 65536 → a % 2 ≡ 0 → t % 2 ≡ 0 → j < k
    → word_at (filled (copied m a t (2 * k)) (t + 2 * k) (2 * (n - k)) 0) (t + 2 * j) ≡ word_at m (a + 2 * j)
moved-in m a t n k j h le source room even even_to l =
    let o = IsMemory-copied m a t (2 * k) h source (omega arith) in
    let place : a + (t + 2 * j - t) ≡ a + 2 * j = omega arith in
    filled-outside (copied m a t (2 * k)) (t + 2 * k) (2 * (n - k)) (t + 2 * j) o (omega arith) (omega arith) (inl (omega arith))
    ∙ word_at-copied m a t (2 * k) (t + 2 * j) h source (omega arith) even even_to (omega arith) (omega arith) (omega arith)
    ∙ ap (word_at m) place

moved-zero : (m : List ℕ) (a t n k j : ℕ) → IsMemory m → k ≤ n → a + 2 * k ≤ 65536 → t + 2 * n ≤ 65536 → t % 2 ≡ 0 → k ≤ j → j < n
    → word_at (filled (copied m a t (2 * k)) (t + 2 * k) (2 * (n - k)) 0) (t + 2 * j) ≡ 0
moved-zero m a t n k j h le source room even_to low high =
    let o = IsMemory-copied m a t (2 * k) h source (omega arith) in
    filled-inside (copied m a t (2 * k)) (t + 2 * k) (2 * (n - k)) (t + 2 * j) o (omega arith) (omega arith) (omega arith) (omega arith)

-- After the copy and the zeros, word `j` of the target is word `j` of the set at `a`, or 0 after its last word.
moved-word : (m : List ℕ) (a t c n k j : ℕ) → IsMemory m → k ≡ min c n → a + 2 * c ≤ 65536 → t + 2 * n ≤ 65536 → a % 2 ≡ 0 → t % 2 ≡ 0 → j < n
    → word_at (filled (copied m a t (2 * k)) (t + 2 * k) (2 * (n - k)) 0) (t + 2 * j) ≡ get_or (words_at m a c) j 0
moved-word m a t c n k j h least inside room even even_to l = ⊎_elim
    (λ less. moved-in m a t n k j h (omega (arith, least)) (omega (arith, least)) room even even_to less
    ∙ sym (words_at-word m a c j even (omega (arith, least, less))))
    (λ past. moved-zero m a t n k j h (omega (arith, least)) (omega (arith, least)) room even_to past l
    ∙ sym (words_at-past m a c j (omega (arith, h.size, inside)) (omega (arith, least, past, l))))
    (cases_lt j k)

moved-place : (m vs : List ℕ) (a t c n k i : ℕ) → IsMemory m → k ≡ min c n → a + 2 * c ≤ 65536 → t + 2 * n ≤ 65536 → a % 2 ≡ 0 → t % 2 ≡ 0
    → length vs ≡ n → ((j : ℕ) → j < n → get_or vs j 0 ≡ get_or (words_at m a c) j 0)
    → get_or (filled (copied m a t (2 * k)) (t + 2 * k) (2 * (n - k)) 0) i 0 ≡ get_or (with_words m t vs) i 0
moved-place m vs a t c n k i h least inside room even even_to size are =
    let fit : t / 2 + length vs ≤ length m = omega (arith, h.size, size, room) in
    let le : k ≤ n = omega (arith, least) in
    let source : a + 2 * k ≤ 65536 = omega (arith, least) in
    ⊎_elim
    (λ low. at-twice _ i
    ∙ (moved-out m a t n k (2 * i) h le source room (omega arith) even_to (inl (omega (arith, low, even_to)))
    ∙ (sym (at-twice m i) ∙ sym (with_words-outside m vs t i fit (inl low)))))
    (λ from. ⊎_elim
    (λ within.
    let place : t + 2 * (i - t / 2) ≡ 2 * i = omega (arith, from, even_to) in
    at-twice _ i
    ∙ (ap (word_at _) (sym place)
    ∙ (moved-word m a t c n k (i - t / 2) h least inside room even even_to (omega (arith, from, within))
    ∙ (sym (are (i - t / 2) (omega (arith, from, within))) ∙ sym (with_words-inside m vs t i fit from (omega (arith, size, within)))))))
    (λ past. at-twice _ i
    ∙ (moved-out m a t n k (2 * i) h le source room (omega arith) even_to (inr (omega (arith, past, even_to)))
    ∙ (sym (at-twice m i) ∙ sym (with_words-outside m vs t i fit (inr (omega (arith, size, past)))))))
    (cases_lt i (t / 2 + n)))
    (cases_lt i (t / 2))

-- After the copy and the zeros, the `n` words from `t` on are the set at `a`, resized to `n` words.
pub moved-set : (m : List ℕ) (a t c n k : ℕ) → IsMemory m → k ≡ min c n → a + 2 * c ≤ 65536 → t + 2 * n ≤ 65536 → a % 2 ≡ 0 → t % 2 ≡ 0
    → filled (copied m a t (2 * k)) (t + 2 * k) (2 * (n - k)) 0 ≡ with_words m t (set_of n (λ e. is_member (words_at m a c) e))
moved-set m a t c n k h least inside room even even_to =
    let size = length-set_from n 0 (λ e. is_member (words_at m a c) e) in
    let o = IsMemory-copied m a t (2 * k) h (omega (arith, least)) (omega (arith, least)) in
    let first = length-filled (copied m a t (2 * k)) (t + 2 * k) (2 * (n - k)) o (omega (arith, least)) in
    let second = length-with_words m (set_of n (λ e. is_member (words_at m a c) e)) t (omega (arith, h.size, size, room)) in
    let before = o.size in
    let after = h.size in
    ext_get_or 0 _ _ (omega (arith, first, second, before, after))
    (λ i l. moved-place m (set_of n (λ e. is_member (words_at m a c) e)) a t c n k i h least inside room even even_to size
    (λ j l. resized-word m a c n j h even inside l))

-- If the stack has space for the words `vs`, then the memory with `vs` below SP is the result of pushing `vs`. If it
-- has no space, the push fails.
pub pushed-words : (m vs new : List ℕ) (sp np n : ℕ) → length vs ≡ n → np + 2 * n ≤ sp → new ≡ with_words m (sp - 2 * n) vs
    → push_words m sp np vs ≡ Ok (new, sp - 2 * n)
pushed-words m vs new sp np n size room is =
    let test : nat_le (np + 2 * n) sp ≡ true = grind (arith, nat_tests) in
    rw (size, test, is) refl

pub refused-words : (m vs : List ℕ) (sp np n : ℕ) → length vs ≡ n → sp < np + 2 * n → push_words m sp np vs ≡ Err StackOverflow
refused-words m vs sp np n size room =
    let test : nat_le (np + 2 * n) sp ≡ false = grind (arith, nat_tests) in
    rw (size, test) refl

-- ---- the combination of two sets, written over the lower set

beside-words : (m vs : List ℕ) (a x : ℕ) → a / 2 + length vs ≤ length m → (x / 2 < a / 2) ⊎ (a / 2 + length vs ≤ x / 2)
    → word_at (with_words m a vs) x ≡ word_at m x
unfolding word_at
beside-words m vs a x room away = with_words-outside m vs a (x / 2) room away

-- If the words `vs` do not overwrite word `i` of the list of `n` words from `b` on, then word `i` is unchanged.
kept-word : (m vs : List ℕ) (a b n i : ℕ) → b % 2 ≡ 0 → a / 2 + length vs ≤ length m → b / 2 + n ≤ length m
    → (i < n → ((b + 2 * i) / 2 < a / 2) ⊎ (a / 2 + length vs ≤ (b + 2 * i) / 2))
    → get_or (words_at (with_words m a vs) b n) i 0 ≡ get_or (words_at m b n) i 0
kept-word m vs a b n i even room inside away = ⊎_elim
    (λ less. words_at-word (with_words m a vs) b n i even less
    ∙ (beside-words m vs a (b + 2 * i) room (away less) ∙ sym (words_at-word m b n i even less)))
    (λ past. let size = length-with_words m vs a room in
    words_at-past (with_words m a vs) b n i (omega (arith, inside, size)) past ∙ sym (words_at-past m b n i inside past))
    (cases_lt i n)

-- If the first `i` words of the combination of two sets are written, and word `i` is written after them, then the first
-- `i + 1` words are written.
pub combined-more : (how : Combination) (m now new : List ℕ) (a n b k i low high : ℕ) → IsMemory m → a % 2 ≡ 0 → b % 2 ≡ 0 → a + 2 * n ≤ 65536
    → b + 2 * k ≤ a → i < n
    → now ≡ with_words m a (set_of i (λ e. test_of how (is_member (words_at m a n) e) (is_member (words_at m b k) e)))
    → low ≡ get_or (words_at now a n) i 0 → high ≡ get_or (words_at now b k) i 0
    → new ≡ with_word now (a + 2 * i) (combined_word how low high)
    → new ≡ with_words m a (set_of (i + 1) (λ e. test_of how (is_member (words_at m a n) e) (is_member (words_at m b k) e)))
combined-more how m now new a n b k i low high h even even_b inside apart l was first second is =
    let p = λ (e : ℕ). test_of how (is_member (words_at m a n) e) (is_member (words_at m b k) e) in
    let size : length (set_of i p) ≡ i = length-set_from i 0 p in
    let room : a / 2 + length (set_of i p) ≤ length m = omega (arith, h.size, size) in
    let lower : low ≡ get_or (words_at m a n) i 0 = first ∙ (ap (λ w. get_or (words_at w a n) i 0) was
    ∙ kept-word m (set_of i p) a a n i even room (omega (arith, h.size)) (λ t. inr (omega (arith, size)))) in
    let upper : high ≡ get_or (words_at m b k) i 0 = second ∙ (ap (λ w. get_or (words_at w b k) i 0) was
    ∙ kept-word m (set_of i p) a b k i even_b room (omega (arith, h.size)) (λ t. inl (omega (arith, t)))) in
    let word = combined-word how (words_at m a n) (words_at m b k) i (set-fits m a n i h even inside) (set-fits m b k i h even_b (omega arith)) in
    is ∙ (ap (λ w. with_word w (a + 2 * i) (combined_word how low high)) was
    ∙ (with_words-more m (set_of i p) a (a + 2 * i) (combined_word how low high) even (omega (arith, size)) (omega (arith, h.size, size))
    ∙ (ap (λ w. with_words m a (set_of i p ++ w ∷ []))
    (ap (λ x. combined_word how x high) lower ∙ ap (λ x. combined_word how (get_or (words_at m a n) i 0) x) upper)
    ∙ ap (with_words m a) (set_of-more i _ p word))))

-- If a combination is written from `a` on, and its count `n` at `a - 2`, then the result is that of a push of the
-- counted set.
pub combined-pushed : (m set new : List ℕ) (a n np above : ℕ) → IsMemory m → a % 2 ≡ 0 → a + 2 * n ≤ 65536 → length set ≡ n → above ≡ a + 2 * n
    → np + 2 ≤ a → new ≡ with_word (with_words m a set) (a - 2) n → push_words m above np (n ∷ set) ≡ Ok (new, a - 2)
combined-pushed m set new a n np above h even inside size top room is =
    let more : length (n ∷ set) ≡ n + 1 = omega (arith, size) in
    let place : above - 2 * (n + 1) ≡ a - 2 = omega arith in
    let before = with_words-before m set a (a - 2) n even (omega arith) (omega (arith, h.size, size)) in
    let row = pushed-words m (n ∷ set) new above np (n + 1) more (omega arith) (rw place (is ∙ before)) in
    rw place at row
