-- The words of a jump table.
use Rattle.std.proofs.Common.{◌≡◌, ℕ, ◌+◌, ◌*◌, List, [], ◌∷◌, ◌++◌, length, reverse, refl, ap, ◌∙◌, arith}
use Rattle.std.proofs.lemmas.List.{reverse-append, length-reverse}
use Rattle.pm_code.specs.Program.{back_to, entry_bytes}

pub length-entry_bytes : (at : ℕ) (places : List ℕ) → length (entry_bytes at places) ≡ 2 * length places
length-entry_bytes at [] = refl
length-entry_bytes at (place ∷ places) = omega (arith, length-entry_bytes (at + 2) places)

pub entries-append : (at : ℕ) (xs ys : List ℕ) → entry_bytes at (xs ++ ys) ≡ entry_bytes at xs ++ entry_bytes (at + 2 * length xs) ys
entries-append at [] ys = ap (λ n. entry_bytes n ys) (omega arith)
entries-append at (x ∷ xs) ys =
    ap (λ bs. back_to at x ++ bs) (entries-append (at + 2) xs ys ∙ ap (λ n. entry_bytes (at + 2) xs ++ entry_bytes n ys) (omega arith))

-- The word of the first entry is the last (highest) word of the jump table.
pub entries-first : (at place : ℕ) (places : List ℕ) → entry_bytes at (reverse (place ∷ places))
    ≡ entry_bytes at (reverse places) ++ back_to (at + 2 * length places) place
entries-first at place places =
    ap (entry_bytes at) (reverse-append (place ∷ []) places)
    ∙ entries-append at (reverse places) (place ∷ [])
    ∙ ap (λ n. entry_bytes at (reverse places) ++ entry_bytes (at + 2 * n) (place ∷ [])) (length-reverse places)
