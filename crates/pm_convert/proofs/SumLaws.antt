-- The checksum of a list of bytes, word by word.
use Rattle.std.proofs.Common.{◌≡◌, ◌+◌, ◌*◌, ◌<◌, ℕ, suc, List, [], ◌∷◌, drop, length, get_or, refl, arith}
use Rattle.std.proofs.Common.{length-drop}
use Rattle.std.proofs.Math.Seq.{drop-cons}
use Rattle.pm_convert.specs.Sums.{sum_from, with_word}

pub sum_start : (bytes : List ℕ) → sum_from 0 (drop (2 * 0) bytes) ≡ sum_from 0 bytes
sum_start bytes = refl

-- A step takes the next word.
pub sum_more : (sum : ℕ) (bytes : List ℕ) (n : ℕ) → 2 * n + 1 < length bytes
    → sum_from (with_word sum (256 * get_or bytes (2 * n) 0 + get_or bytes (2 * n + 1) 0)) (drop (2 * (n + 1)) bytes)
    ≡ sum_from sum (drop (2 * n) bytes)
unfolding sum_from
sum_more sum bytes n h =
    let first : drop (2 * n) bytes ≡ get_or bytes (2 * n) 0 ∷ drop (suc (2 * n)) bytes
    = drop-cons bytes (2 * n) 0 (omega arith) in
    let one : suc (2 * n) ≡ 2 * n + 1 = omega arith in
    let second : drop (2 * n + 1) bytes ≡ get_or bytes (2 * n + 1) 0 ∷ drop (suc (2 * n + 1)) bytes
    = drop-cons bytes (2 * n + 1) 0 h in
    let two : suc (2 * n + 1) ≡ 2 * (n + 1) = omega arith in
    rw (first, one, second, two) refl

-- After the last whole word, no byte is left, or one.
pub sum_even : (sum : ℕ) (bytes : List ℕ) (n : ℕ) → length bytes ≡ 2 * n → sum_from sum (drop (2 * n) bytes) ≡ sum
unfolding sum_from
sum_even sum bytes n h = go (drop (2 * n) bytes) (omega (arith, length-drop (2 * n) bytes, h))
  where
    go : (rest : List ℕ) → length rest ≡ 0 → sum_from sum rest ≡ sum
    go [] e = refl
    go (b ∷ rest) e = absurd (omega arith)

pub sum_odd : (sum : ℕ) (bytes : List ℕ) (n : ℕ) → length bytes ≡ 2 * n + 1
    → sum_from sum (drop (2 * n) bytes) ≡ with_word sum (256 * get_or bytes (2 * n) 0)
unfolding sum_from
sum_odd sum bytes n h =
    rw (drop-cons bytes (2 * n) 0 (omega arith)) (go (drop (suc (2 * n)) bytes) (omega (arith, length-drop (suc (2 * n)) bytes, h)))
  where
    go : (rest : List ℕ) → length rest ≡ 0 → sum_from sum (get_or bytes (2 * n) 0 ∷ rest) ≡ with_word sum (256 * get_or bytes (2 * n) 0)
    go [] e = refl
    go (b ∷ rest) e = absurd (omega arith)

pub ruleset sum_steps = (sum_start, sum_more)
