-- The law of words that are moved between the stack and memory.
use Rattle.std.specs.Prelude.{◌≡◌, ◌<◌, ◌≤◌, ◌⊎◌, ℕ, ◌+◌, ◌*◌, List, Ok}
use Rattle.pm_words.specs.Words.{IsMemory, word_at}
use Rattle.pm_words.specs.Stack.{push}
use Rattle.pm_rows.specs.Pointers.{load_words_row, store_words_row}

-- The `count` words of `n` from the address `b` on equal the `count` words of `m` from the address `a` on.
abbrev pub AreSameWords : List ℕ → ℕ → List ℕ → ℕ → ℕ → Type 0
AreSameWords m a n b count = (k : ℕ) → k < count → word_at n (b + 2 * k) ≡ word_at m (a + 2 * k)

-- If STM stores `n` words, the address is pushed again, and LDM loads `n` words from it, then the stack has the old
-- words in the old order. Premise: the stored words do not overlap the word of the address.
abbrev pub StoredWordsAreLoaded : Type 0
StoredWordsAreLoaded =
    (m stored named loaded : List ℕ) (n sp np below address top : ℕ) →
    IsMemory m → IsMemory named →
    (word_at m (sp + 2 * n) + 2 * n ≤ sp + 2 * n) ⊎ (sp + 2 * n + 2 ≤ word_at m (sp + 2 * n)) →
    store_words_row n m sp np ≡ Ok (stored, below) →
    push stored below np (word_at m (sp + 2 * n)) ≡ Ok (named, address) →
    load_words_row n named address np ≡ Ok (loaded, top) →
    AreSameWords m sp loaded top n
