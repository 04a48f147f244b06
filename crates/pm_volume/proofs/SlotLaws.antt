-- Slots that move in a directory, and bytes that are written to a list.
use borrow.Rule.Slice.PartMut.{put_mid}
use Rattle.std.proofs.Common.{◌≡◌, ◌≤◌, ℕ, ◌+◌, ◌-◌, List, ◌++◌, ◌∙◌, ap, sym, length, take, drop, arith, length-append, length-take, length-drop}
use Rattle.std.proofs.lemmas.List.{take-take, take_at, drop-drop, drop-take}
use Rattle.pm_volume.specs.Words.{written}

-- If the bytes of an area move up by the length of `slot`, and `slot` is put before them, then the result is the list
-- `d` with these bytes written at `b`.
pub inserted : (d slot : List ℕ) (b k m : ℕ) → length slot ≤ k → b + k ≤ length d → m ≡ k - length slot
    → put_mid b k d (slot ++ take (length (take k (drop b d)) - length slot) (take k (drop b d)))
    ≡ written d b (slot ++ take m (drop b d))
unfolding written
inserted d slot b k m fits within same =
    let area : length (take k (drop b d)) ≡ k = omega (arith, length-take k (drop b d), length-drop b d) in
    let less : m ≤ k = omega arith in
    let moved : take m (take k (drop b d)) ≡ take m (drop b d) = take-take m k (drop b d) less in
    let size : length (slot ++ take m (drop b d)) ≡ k = omega (arith, length-append slot (take m (drop b d)), length-take m (drop b d), length-drop b d) in
    let after : drop k (drop b d) ≡ drop (b + length (slot ++ take m (drop b d))) d = drop-drop k b d ∙ ap (λ (n : ℕ). drop (b + n) d) (sym size) in
    ap (λ (n : ℕ). put_mid b k d (slot ++ take n (take k (drop b d)))) (ap (λ (n : ℕ). n - length slot) area ∙ sym same)
    ∙ ap (λ (xs : List ℕ). put_mid b k d (slot ++ xs)) moved
    ∙ ap (λ (xs : List ℕ). take b d ++ ((slot ++ take m (drop b d)) ++ xs)) after

-- If the first `s` bytes of an area are removed, and `none` is put after the others, then the result is the list `d`
-- with these bytes written at `b`.
pub removed : (d none : List ℕ) (b k m s : ℕ) → length none ≡ s → k ≡ s + m → b + k ≤ length d
    → put_mid b k d (drop s (take k (drop b d)) ++ none) ≡ written d b (take m (drop (b + s) d) ++ none)
unfolding written
removed d none b k m s size same within =
    let cut : drop s (take k (drop b d)) ≡ take m (drop (b + s) d) =
    ap (λ (n : ℕ). drop s (take n (drop b d))) same ∙ drop-take s m (drop b d) ∙ ap (take m) (drop-drop s b d) in
    let whole : length (take m (drop (b + s) d) ++ none) ≡ k =
    omega (arith, length-append (take m (drop (b + s) d)) none, length-take m (drop (b + s) d), length-drop (b + s) d) in
    let after : drop k (drop b d) ≡ drop (b + length (take m (drop (b + s) d) ++ none)) d = drop-drop k b d ∙ ap (λ (n : ℕ). drop (b + n) d) (sym whole) in
    ap (λ (xs : List ℕ). put_mid b k d (xs ++ none)) cut
    ∙ ap (λ (xs : List ℕ). take b d ++ ((take m (drop (b + s) d) ++ none) ++ xs)) after

-- Replacing bytes 1,024 to 3,071 of an image by a directory is the same as writing the directory at offset 1,024.
pub listed : (image directory : List ℕ) → length directory ≡ 2048 → put_mid 1024 2048 image directory ≡ written image 1024 directory
unfolding written
listed image directory size =
    ap (λ (xs : List ℕ). take 1024 image ++ (directory ++ xs)) (drop-drop 2048 1024 image ∙ ap (λ (n : ℕ). drop (1024 + n) image) (sym size))

-- Replacing bytes 3,072 to 5,119 of an image by a directory is the same as writing the directory at offset 3,072.
pub listed_second : (image directory : List ℕ) → length directory ≡ 2048 → put_mid 3072 2048 image directory ≡ written image 3072 directory
unfolding written
listed_second image directory size =
    ap (λ (xs : List ℕ). take 3072 image ++ (directory ++ xs)) (drop-drop 2048 3072 image ∙ ap (λ (n : ℕ). drop (3072 + n) image) (sym size))

-- If a list overwrites another list of the same length, then the result is the new list.
pub written_back : (old new : List ℕ) (n : ℕ) → length new ≡ length old → n ≡ length old → take n (new ++ drop (length new) old) ≡ new
written_back old new n same size = take_at new (drop (length new) old) n (same ∙ sym size)
