-- Laws of words and ranges of joined lists, and of the parts of a written code file.
use Rattle.std.proofs.Common.{◌≡◌, ◌<◌, ◌≤◌, ℕ, zero, suc, ◌+◌, ◌-◌, ◌*◌, List, [], ◌∷◌, ◌++◌, length, take, drop, get_or, ◌∙◌, cond, eqb, refl, inl, inr}
use Rattle.std.proofs.Common.{arith, append_assoc, length-append}
use Rattle.std.specs.Prelude.{slice_range, sum}
use Rattle.std.specs.List.{sum_by}
use Rattle.std.proofs.lemmas.Bool.{cases_Bool}
use Rattle.std.proofs.lemmas.List.{drop-drop, drop_at, drop-append-le, get_or-append_right, get_or_append_left, length-drop, length-replicate, length-take-le}
use Rattle.std.proofs.lemmas.List.{take_at, take-append-le}
use Rattle.std.proofs.lemmas.List.Sums.{sum_by-cons}
use Rattle.byteorder.specs.Endian.{little_bytes}
use Rattle.byteorder.specs.Numbers.{little_number-reads_back}
use Rattle.pm_codefile.specs.Dictionary.{word_in}
use Rattle.pm_codefile.specs.Layout.{blocks_for, name_for, names_for, in_blocks, block_padding, slot_pair, pairs}

-- If both bytes of a word are in the first of two joined lists, then the word is the word of the first list.
pub word_in-left : (xs ys : List ℕ) (p : ℕ) → p + 2 ≤ length xs → word_in (xs ++ ys) p ≡ word_in xs p
unfolding word_in
word_in-left xs ys p h = rw (get_or_append_left xs ys 0 p (omega arith), get_or_append_left xs ys 0 (p + 1) (omega arith)) refl

-- A word at `n + p` of two joined lists, the first of which has `n` bytes, is the word at `p` of the second list.
pub word_in-right : (xs ys : List ℕ) (n p : ℕ) → length xs ≡ n → word_in (xs ++ ys) (n + p) ≡ word_in ys p
unfolding word_in
word_in-right xs ys n p h =
    let low = get_or-append_right xs ys n (n + p) 0 h (omega arith) in
    let high = get_or-append_right xs ys n ((n + p) + 1) 0 h (omega arith) in
    let e : (n + p) - n ≡ p = omega arith in
    let f : ((n + p) + 1) - n ≡ p + 1 = omega arith in
    rw (low, high, e, f) refl

-- If a list begins with the two bytes of the word `w`, then its word at offset 0 is `w`.
pub word_in-start : (w : ℕ) (rest : List ℕ) → w < 65536 → word_in (little_bytes 2 w ++ rest) 0 ≡ w
unfolding word_in
word_in-start w rest h = omega (arith, little_number-reads_back 2 w rest h)

-- If a range ends inside the first of two joined lists, then it is the same range of the first list.
pub slice_range-left : (xs ys : List ℕ) (a b : ℕ) → a ≤ b → b ≤ length xs → slice_range (xs ++ ys) a b ≡ slice_range xs a b
slice_range-left xs ys a b l h =
    rw (drop-append-le a xs ys (omega arith)) (take-append-le (b - a) (drop a xs) ys (omega (arith, length-drop a xs)))

-- The range from `n + a` to `n + b` of two joined lists, the first of which has `n` items, is the range from `a` to `b`
-- of the second list.
pub slice_range-right : (xs ys : List ℕ) (n a b : ℕ) → length xs ≡ n → slice_range (xs ++ ys) (n + a) (n + b) ≡ slice_range ys a b
slice_range-right xs ys n a b h =
    let e : (n + b) - (n + a) ≡ b - a = omega arith in
    rw (e, ← drop-drop a n (xs ++ ys), drop_at xs ys n h) refl

-- The blocks and lengths of the slots have four bytes for each slot.
pub length-pairs : (ns : List ℕ) (b : ℕ) → length (pairs b ns) ≡ 4 * length ns
unfolding pairs
length-pairs [] b = refl
length-pairs (n ∷ ns) b =
    omega (arith, length-append (slot_pair b n) (pairs (b + blocks_for n) ns), length-pairs ns (b + blocks_for n))

-- The second word for slot `i` is the length of this slot.
pub pairs-length : (ns : List ℕ) (b i : ℕ) → i < length ns → ((k : ℕ) → get_or ns k 0 < 65536) → word_in (pairs b ns) (4 * i + 2) ≡ get_or ns i 0
unfolding pairs
pairs-length [] b i l small = absurd (omega arith)
pairs-length (n ∷ ns) b zero l small =
    let rest = pairs (b + blocks_for n) ns in
    let first = little_bytes 2 (cond (eqb n 0) 0 b) in
    rw (append_assoc first (little_bytes 2 n) rest) (word_in-right first (little_bytes 2 n ++ rest) 2 0 refl ∙ word_in-start n rest (small 0))
pairs-length (n ∷ ns) b (suc i) l small =
    let e : 4 * suc i + 2 ≡ 4 + (4 * i + 2) = omega arith in
    rw e (word_in-right (slot_pair b n) (pairs (b + blocks_for n) ns) 4 (4 * i + 2) refl
    ∙ pairs-length ns (b + blocks_for n) i (omega arith) (λ k. small (suc k)))

small_block : (n b : ℕ) → b < 65536 → cond (eqb n 0) 0 b < 65536
small_block n b h = elim (cases_Bool (eqb n 0)) [ inl e ↦ rw e (omega arith) | inr e ↦ rw e h ]

-- The first word for slot `i` is its block: the first block after the segments of the slots before it, or 0 for length
-- 0.
pub pairs-block : (ns : List ℕ) (b i : ℕ) → i < length ns → b + sum_by blocks_for ns < 65536
    → word_in (pairs b ns) (4 * i) ≡ cond (eqb (get_or ns i 0) 0) 0 (b + sum_by blocks_for (take i ns))
unfolding pairs
pairs-block [] b i l small = absurd (omega arith)
pairs-block (n ∷ ns) b zero l small =
    let rest = pairs (b + blocks_for n) ns in
    let first = little_bytes 2 (cond (eqb n 0) 0 b) in
    let e : b + 0 ≡ b = omega arith in
    rw (append_assoc first (little_bytes 2 n) rest, e) (word_in-start (cond (eqb n 0) 0 b) (little_bytes 2 n ++ rest) (small_block n b (omega arith)))
pairs-block (n ∷ ns) b (suc i) l small =
    let e : 4 * suc i ≡ 4 + 4 * i = omega arith in
    let all = sum_by-cons blocks_for n ns in
    let before = sum_by-cons blocks_for n (take i ns) in
    let f : b + sum_by blocks_for (n ∷ take i ns) ≡ (b + blocks_for n) + sum_by blocks_for (take i ns) = omega (arith, before) in
    rw (e, f) (word_in-right (slot_pair b n) (pairs (b + blocks_for n) ns) 4 (4 * i) refl
    ∙ pairs-block ns (b + blocks_for n) i (omega arith) (omega (arith, all)))

length-name : (name : List ℕ) (n : ℕ) → length name ≡ 8 → length (name_for name n) ≡ 8
length-name name n h = elim (cases_Bool (eqb n 0)) [ inl e ↦ rw e refl | inr e ↦ rw e h ]

-- The names of the slots have eight bytes for each slot.
pub length-names : (names : List (List ℕ)) (ns : List ℕ) → length names ≡ length ns → ((k : ℕ) → k < length names → length (get_or names k []) ≡ 8)
    → length (names_for names ns) ≡ 8 * length ns
unfolding names_for
length-names [] [] h each = refl
length-names [] (n ∷ ns) h each = absurd (omega arith)
length-names (name ∷ names) [] h each = absurd (omega arith)
length-names (name ∷ names) (n ∷ ns) h each =
    omega (
      arith,
      length-append (name_for name n) (names_for names ns),
      length-name name n (each 0 (omega arith)),
      length-names names ns (omega arith) (λ k l. each (suc k) (omega arith)),
    )

-- The eight bytes from `8 * i` on are the name of slot `i`.
pub names-name : (names : List (List ℕ)) (ns : List ℕ) (i : ℕ) → i < length ns → length names ≡ length ns
    → ((k : ℕ) → k < length names → length (get_or names k []) ≡ 8)
    → slice_range (names_for names ns) (8 * i) (8 * i + 8) ≡ name_for (get_or names i []) (get_or ns i 0)
unfolding names_for
names-name [] ns i l h each = absurd (omega arith)
names-name (name ∷ names) [] i l h each = absurd (omega arith)
names-name (name ∷ names) (n ∷ ns) zero l h each = take_at (name_for name n) (names_for names ns) 8 (length-name name n (each 0 (omega arith)))
names-name (name ∷ names) (n ∷ ns) (suc i) l h each =
    let e : 8 * suc i ≡ 8 + 8 * i = omega arith in
    let f : (8 + 8 * i) + 8 ≡ 8 + (8 * i + 8) = omega arith in
    rw (e, f) (slice_range-right (name_for name n) (names_for names ns) 8 (8 * i) (8 * i + 8) (length-name name n (each 0 (omega arith)))
    ∙ names-name names ns i (omega arith) (omega arith) (λ k m. each (suc k) (omega arith)))

length-filled : (n : ℕ) (segments : List ℕ) → n ≤ length segments → length (take n segments ++ block_padding n) ≡ 512 * blocks_for n
length-filled n segments h =
    omega (arith, length-append (take n segments) (block_padding n), length-take-le n segments h, length-replicate {A = ℕ} (512 * blocks_for n - n) 0)

-- The padded segments have 512 bytes for each of their blocks.
pub length-padded : (ns segments : List ℕ) → sum ns ≤ length segments → length (in_blocks ns segments) ≡ 512 * sum_by blocks_for ns
unfolding in_blocks
length-padded [] segments h = refl
length-padded (n ∷ ns) segments h =
    let total = sum_by-cons (λ x. x) n ns in
    omega (
      arith,
      length-append (take n segments ++ block_padding n) (in_blocks ns (drop n segments)),
      length-filled n segments (omega (arith, total)),
      length-padded ns (drop n segments) (omega (arith, total, length-drop n segments)),
      sum_by-cons blocks_for n ns,
    )

-- The segment of slot `i` ends inside the blocks of all segments.
pub part-within : (ns : List ℕ) (i : ℕ) → i < length ns → 512 * sum_by blocks_for (take i ns) + get_or ns i 0 ≤ 512 * sum_by blocks_for ns
part-within [] i l = absurd (omega arith)
part-within (n ∷ ns) zero l = omega (arith, sum_by-cons blocks_for n ns)
part-within (n ∷ ns) (suc i) l =
    omega (arith, sum_by-cons blocks_for n ns, sum_by-cons blocks_for n (take i ns), part-within ns i (omega arith))

-- The bytes at the blocks of slot `i` are the segment of this slot.
pub padded-part : (ns segments : List ℕ) (i : ℕ) → i < length ns → sum ns ≤ length segments
    → slice_range (in_blocks ns segments) (512 * sum_by blocks_for (take i ns)) (512 * sum_by blocks_for (take i ns) + get_or ns i 0)
    ≡ slice_range segments (sum (take i ns)) (sum (take i ns) + get_or ns i 0)
unfolding in_blocks
padded-part [] segments i l h = absurd (omega arith)
padded-part (n ∷ ns) segments zero l h =
    let total = sum_by-cons (λ x. x) n ns in
    let rest = in_blocks ns (drop n segments) in
    let e : (0 + n) - 0 ≡ n = omega arith in
    rw (append_assoc (take n segments) (block_padding n) rest, e) (take_at (take n segments) (block_padding n ++ rest) n
    (length-take-le n segments (omega (arith, total))))
padded-part (n ∷ ns) segments (suc i) l h =
    let total = sum_by-cons (λ x. x) n ns in
    let sum' = sum_by-cons (λ x. x) n (take i ns) in
    let blocks' = sum_by-cons blocks_for n (take i ns) in
    let m = get_or ns i 0 in
    let b = sum_by blocks_for (take i ns) in
    let s = sum (take i ns) in
    let e : 512 * sum_by blocks_for (n ∷ take i ns) ≡ 512 * blocks_for n + 512 * b = omega (arith, blocks') in
    let f : (512 * blocks_for n + 512 * b) + m ≡ 512 * blocks_for n + (512 * b + m) = omega arith in
    let g : sum (n ∷ take i ns) ≡ n + s = sum' in
    let k : ((n + s) + m) - (n + s) ≡ (s + m) - s = omega arith in
    rw (e, f, g, k, ← drop-drop s n segments)
    (slice_range-right (take n segments ++ block_padding n) (in_blocks ns (drop n segments)) (512 * blocks_for n) (512 * b) (512 * b + m)
    (length-filled n segments (omega (arith, total)))
    ∙ padded-part ns (drop n segments) i (omega arith) (omega (arith, total, length-drop n segments)))
