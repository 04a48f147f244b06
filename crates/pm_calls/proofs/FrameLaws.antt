-- Laws of the words of a frame.
use Rattle.std.proofs.Common.{take, get_or, ◌≡◌, ℕ, ◌+◌, ◌-◌, ◌*◌, ◌/◌, ◌%◌, ◌<◌, ◌≤◌, List, [], ◌∷◌, ◌∙◌, refl, sym, ap, arith, inl, inr, ⊎_elim}
use Rattle.std.proofs.lemmas.Bool.{cases_lt, cases_eq}
use Rattle.std.proofs.lemmas.List.{append-nil, ext_get_or, take-append-drop}
use Rattle.pm_words.specs.Words.{IsMemory, bytes_at, bytes_of, copied, with_bytes, word_at, with_word, with_words}
use Rattle.pm_words.proofs.Pairs.{words_of-bytes_of}
use Rattle.pm_words.proofs.Laws.{IsMemory-with_word, with_words-six, word_at-with_word, word_at-with_word_other}
use Rattle.pm_words.proofs.RangeLaws.{IsMemory-copied, word_at-copied, word_at-copied_other}
use Rattle.pm_calls.specs.declared.registers.Registers.{Registers}
use Rattle.pm_calls.specs.Calls.{with_control, with_frame}

-- If the control words of a frame are written at `f`, then the word at `f` is the static link.
pub with_control-link : (m : List ℕ) (f static above : ℕ) (r : Registers) → IsMemory m → f % 2 ≡ 0 → f + 12 ≤ 65504
    → word_at (with_control m f static r above) f ≡ static
unfolding with_control
with_control-link m f static above r h even room =
    word_at-with_word_other _ (f + 10) f above (omega arith) even (λ e. absurd (omega arith))
    ∙ word_at-with_word_other _ (f + 8) f r.ipc (omega arith) even (λ e. absurd (omega arith))
    ∙ word_at-with_word_other _ (f + 6) f r.seg (omega arith) even (λ e. absurd (omega arith))
    ∙ word_at-with_word_other _ (f + 4) f r.jtab (omega arith) even (λ e. absurd (omega arith))
    ∙ word_at-with_word_other _ (f + 2) f r.mp (omega arith) even (λ e. absurd (omega arith))
    ∙ word_at-with_word m f f static refl (omega (arith, h.size))

-- Writing the six control words in one call is the same as writing them one after the other.
pub with_control-six : (m : List ℕ) (f static above : ℕ) (r : Registers) → IsMemory m → f % 2 ≡ 0 → f + 12 ≤ 65504
    → with_words m f (static ∷ r.mp ∷ r.jtab ∷ r.seg ∷ r.ipc ∷ above ∷ []) ≡ with_control m f static r above
unfolding with_control
with_control-six m f static above r h even room =
    sym (with_words-six m f static r.mp r.jtab r.seg r.ipc above even (omega (arith, room)) h.size)

-- If the parameters are copied first, and then the six control words are written, then the result is the memory with
-- the frame.
pub with_frame-six : (m n k : List ℕ) (f static : ℕ) (r : Registers) (parameters : ℕ) → IsMemory n → f % 2 ≡ 0 → f + 12 ≤ 65504
    → n ≡ copied m r.sp (f + 12) parameters
    → k ≡ with_words n f (static ∷ r.mp ∷ r.jtab ∷ r.seg ∷ r.ipc ∷ (r.sp + parameters) ∷ []) → k ≡ with_frame m f static r parameters
with_frame-six m n k f static r parameters h even room e g =
    g ∙ with_control-six n f static (r.sp + parameters) r h even room ∙ ap (λ x. with_control x f static r (r.sp + parameters)) e

-- If a word below a frame is written, then the static link of the frame is unchanged.
pub below-link : (m : List ℕ) (f w link : ℕ) → f % 2 ≡ 0 → 2 ≤ f → word_at m f ≡ link → word_at (with_word m (f - 2) w) f ≡ link
below-link m f w link even room h = word_at-with_word_other m (f - 2) f w (omega arith) even (λ e. absurd (omega arith)) ∙ h

-- If no byte is copied, then the memory is unchanged.
pub no_bytes_copied : (ws : List ℕ) (from to n : ℕ) → n ≡ 0 → copied ws from to n ≡ ws
unfolding copied bytes_at with_bytes
no_bytes_copied ws from to n none =
    let same : to + 0 ≡ to = omega arith in
    rw (none, same, append-nil (take to (bytes_of ws)), take-append-drop to (bytes_of ws)) (words_of-bytes_of ws)

-- ---- a copy word by word

word_at-twice : (ws : List ℕ) (i : ℕ) → word_at ws (2 * i) ≡ get_or ws i 0
unfolding word_at
word_at-twice ws i = let half : 2 * i / 2 ≡ i = omega arith in rw half refl

same_words : (ws vs : List ℕ) → IsMemory ws → IsMemory vs → ((x : ℕ) → x % 2 ≡ 0 → x < 65536 → word_at ws x ≡ word_at vs x) → ws ≡ vs
same_words ws vs h k same =
    ext_get_or 0 ws vs (h.size ∙ sym k.size)
    (λ i l. sym (word_at-twice ws i) ∙ (same (2 * i) (omega arith) (omega (arith, h.size)) ∙ word_at-twice vs i))

-- If `n` bytes are copied, and then one more word, then `n + 2` bytes are copied.
pub copied-word : (ws : List ℕ) (from to n w : ℕ) → IsMemory ws → from % 2 ≡ 0 → to % 2 ≡ 0 → n % 2 ≡ 0 → from + n + 2 ≤ 65536 → to + n + 2 ≤ 65536
    → w ≡ word_at ws (from + n) → w < 65536 → with_word (copied ws from to n) (to + n) w ≡ copied ws from to (n + 2)
copied-word ws from to n w h f t even source room is fit =
    let start : from + n ≤ 65536 = omega arith in
    let end : to + n ≤ 65536 = omega arith in
    let source2 : from + (n + 2) ≤ 65536 = omega arith in
    let room2 : to + (n + 2) ≤ 65536 = omega arith in
    let k = IsMemory-copied ws from to n h start end in
    same_words _ _ (IsMemory-with_word _ (to + n) w k fit) (IsMemory-copied ws from to (n + 2) h source2 room2)
    (λ x ex l. ⊎_elim
    (λ less. word_at-with_word_other _ (to + n) x w (omega arith) ex (λ e. absurd (omega arith))
    ∙ (word_at-copied_other ws from to n x h start end ex (inl (omega arith))
    ∙ sym (word_at-copied_other ws from to (n + 2) x h source2 room2 ex (inl (omega arith)))))
    (λ more. ⊎_elim
    (λ inside. word_at-with_word_other _ (to + n) x w (omega arith) ex (λ e. absurd (omega arith))
    ∙ (word_at-copied ws from to n x h start end f t ex more (omega arith)
    ∙ sym (word_at-copied ws from to (n + 2) x h source2 room2 f t ex more (omega arith))))
    (λ past. ⊎_elim
    (λ same. word_at-with_word _ (to + n) x w same (omega (arith, k.size))
    ∙ (is ∙ (ap (word_at ws) (omega arith) ∙ sym (word_at-copied ws from to (n + 2) x h source2 room2 f t ex more (omega arith)))))
    (λ ne. word_at-with_word_other _ (to + n) x w (omega arith) ex ne
    ∙ (word_at-copied_other ws from to n x h start end ex (inr past)
    ∙ sym (word_at-copied_other ws from to (n + 2) x h source2 room2 ex (inr (omega arith)))))
    (cases_eq x (to + n)))
    (cases_lt x (to + n)))
    (cases_lt x to))

-- A word that is not yet copied has its old value.
pub copied-ahead : (ws : List ℕ) (from to n : ℕ) → IsMemory ws → from % 2 ≡ 0 → n % 2 ≡ 0 → to ≤ from → from + n + 2 ≤ 65536
    → word_at (copied ws from to n) (from + n) ≡ word_at ws (from + n)
copied-ahead ws from to n h f even below source =
    word_at-copied_other ws from to n (from + n) h (omega arith) (omega arith) (omega arith) (inr (omega arith))

-- If a single word is written at the destination, then this word is copied.
pub word_copied : (ws : List ℕ) (from to w : ℕ) → IsMemory ws → from % 2 ≡ 0 → to % 2 ≡ 0 → from + 2 ≤ 65536 → to + 2 ≤ 65536
    → w ≡ word_at ws from → w < 65536 → with_word ws to w ≡ copied ws from to 2
word_copied ws from to w h f t source room is fit =
    let start : from + 0 ≡ from = omega arith in
    let place : to + 0 ≡ to = omega arith in
    let more = copied-word ws from to 0 w h f t refl (omega arith) (omega arith) (rw start is) fit in
    rw (no_bytes_copied ws from to 0 refl, place) at more
