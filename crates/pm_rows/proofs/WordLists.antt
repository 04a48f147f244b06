-- Laws of words of memory that are read or written one by one.
use Rattle.std.proofs.Common.{◌≡◌, ℕ, ◌+◌, ◌*◌, ◌%◌, ◌<◌, List, [], ◌∷◌, length, take, get_or, refl, ◌∙◌, arith}
use Rattle.std.specs.Prelude.{reverse}
use Rattle.std.proofs.lemmas.List.{take_more, length-take-le, reverse-append, length-reverse}
use Rattle.pm_words.specs.Words.{with_word, with_words}
use Rattle.pm_words.proofs.Laws.{with_words-before}

-- The reverse of the first `i + 1` items of `xs` is item `i`, followed by the reverse of the first `i` items.
reverse-take_more : (xs : List ℕ) (i : ℕ) → i < length xs → reverse (take (i + 1) xs) ≡ get_or xs i 0 ∷ reverse (take i xs)
reverse-take_more xs i h = rw (take_more xs i 0) (reverse-append (take i xs) (get_or xs i 0 ∷ []))

-- Let the first `i` words be in memory from `at` on in reverse order. If word `i` is written at the address below them,
-- then the first `i + 1` words are in memory in reverse order.
pub put_more : (m words : List ℕ) (at x i : ℕ) → length m ≡ 32768 → at % 2 ≡ 0 → x + 2 ≡ at → at + 2 * i < 65536 → i < length words
    → with_word (with_words m at (reverse (take i words))) x (get_or words i 0) ≡ with_words m x (reverse (take (i + 1) words))
put_more m words at x i size even below room h =
    let count : length (reverse (take i words)) ≡ i = length-reverse (take i words) ∙ length-take-le i words (omega arith) in
    with_words-before m (reverse (take i words)) at x (get_or words i 0) even below (omega arith)
    ∙ rw (reverse-take_more words i h) refl
