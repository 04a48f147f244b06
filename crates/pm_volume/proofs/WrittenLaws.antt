-- Laws of bytes that are written to a list (`written`).
use Rattle.byteorder.specs.Endian.{little_bytes}
use Rattle.std.proofs.Math.Nat.{mod-eq_of_lt}
use Rattle.std.proofs.Common.{◌≡◌, ◌<◌, ◌≤◌, ◌⊎◌, inl, inr, ℕ, ◌+◌, ◌-◌, ◌*◌, ◌/◌, ◌%◌, List, [], ◌∷◌, ◌++◌, ◌∙◌, ap, sym, refl, length, map, set, take, drop}
use Rattle.std.proofs.Common.{get_or, arith, length-append, length-take, length-drop}
use Rattle.std.proofs.lemmas.Bool.{cases_lt}
use Rattle.std.specs.Char.{to_ascii_uppercase}
use Rattle.std.proofs.lemmas.List.{append_assoc, drop_more, length-map, map_more, set-append_right, get_or-append_right, get_or-drop, get_or-take}
use Rattle.std.proofs.lemmas.List.{get_or_append_left, length-take-le, ext_get_or}
use Rattle.pm_volume.specs.Words.{word_in, written}
use Rattle.pm_volume.specs.Directory.{directory_of}

pub length-written : (xs : List ℕ) (i : ℕ) (ys : List ℕ) → i + length ys ≤ length xs → length (written xs i ys) ≡ length xs
unfolding written
length-written xs i ys fits =
    omega (
      arith,
      length-append (take i xs) (ys ++ drop (i + length ys) xs),
      length-append ys (drop (i + length ys) xs),
      length-take i xs,
      length-drop
          (i + length ys) xs,
    )

-- An item before the written items is unchanged.
pub get_written_below : (xs : List ℕ) (i : ℕ) (ys : List ℕ) (k : ℕ) → i + length ys ≤ length xs → k < i
    → get_or (written xs i ys) k 0 ≡ get_or xs k 0
unfolding written
get_written_below xs i ys k fits below =
    let front : length (take i xs) ≡ i = length-take-le i xs (omega arith) in
    get_or_append_left (take i xs) (ys ++ drop (i + length ys) xs) 0 k (omega arith) ∙ get_or-take i xs k 0 below

-- An item among the written items is the item of `ys` that was written there.
pub get_written_in : (xs : List ℕ) (i : ℕ) (ys : List ℕ) (k : ℕ) → i + length ys ≤ length xs → i ≤ k → k < i + length ys
    → get_or (written xs i ys) k 0 ≡ get_or ys (k - i) 0
unfolding written
get_written_in xs i ys k fits from below =
    let front : length (take i xs) ≡ i = length-take-le i xs (omega arith) in
    get_or-append_right (take i xs) (ys ++ drop (i + length ys) xs) i k 0 front from
    ∙ get_or_append_left ys (drop (i + length ys) xs) 0 (k - i) (omega arith)

-- An item after the written items is unchanged.
pub get_written_above : (xs : List ℕ) (i : ℕ) (ys : List ℕ) (k : ℕ) → i + length ys ≤ length xs → i + length ys ≤ k
    → get_or (written xs i ys) k 0 ≡ get_or xs k 0
unfolding written
get_written_above xs i ys k fits from =
    let front : length (take i xs) ≡ i = length-take-le i xs (omega arith) in
    let place : (i + length ys) + ((k - i) - length ys) ≡ k = omega arith in
    get_or-append_right (take i xs) (ys ++ drop (i + length ys) xs) i k 0 front (omega arith)
    ∙ get_or-append_right ys (drop (i + length ys) xs) (length ys) (k - i) 0 refl (omega arith)
    ∙ get_or-drop (i + length ys) xs ((k - i) - length ys) 0
    ∙ ap (λ (n : ℕ). get_or xs n 0) place

-- An item before or after the written items is unchanged.
pub get_written_outside : (xs : List ℕ) (i : ℕ) (ys : List ℕ) (k : ℕ) → i + length ys ≤ length xs → (k < i) ⊎ (i + length ys ≤ k)
    → get_or (written xs i ys) k 0 ≡ get_or xs k 0
get_written_outside xs i ys k fits (inl below) = get_written_below xs i ys k fits below
get_written_outside xs i ys k fits (inr above) = get_written_above xs i ys k fits above

-- If an offset is outside a range of a list, then it is outside this range also when all offsets are counted from
-- `from`.
pub shifted : (from a b place : ℕ) → from ≤ place → (place < from + a) ⊎ (from + b ≤ place) → (place - from < a) ⊎ (b ≤ place - from)
shifted from a b place after (inl below) = inl (omega arith)
shifted from a b place after (inr above) = inr (omega arith)

-- If two ranges of `n` items are equal item by item, then they are equal as lists.
pub same_parts : (xs ys : List ℕ) (a b n : ℕ) → a + n ≤ length xs → b + n ≤ length ys
    → ((k : ℕ) → k < n → get_or xs (a + k) 0 ≡ get_or ys (b + k) 0) → take n (drop a xs) ≡ take n (drop b ys)
same_parts xs ys a b n left right same =
    let size : length (take n (drop a xs)) ≡ n = omega (arith, length-take n (drop a xs), length-drop a xs) in
    let size' : length (take n (drop b ys)) ≡ n = omega (arith, length-take n (drop b ys), length-drop b ys) in
    same_numbers (take n (drop a xs)) (take n (drop b ys)) (size ∙ sym size') (λ k below.
    let low : k < n = omega arith in
    get_or-take n (drop a xs) k 0 low ∙ get_or-drop a xs k 0 ∙ same k low
    ∙ sym (get_or-take n (drop b ys) k 0 low ∙ get_or-drop b ys k 0))
  where
    same_numbers : (us vs : List ℕ) → length us ≡ length vs → ((k : ℕ) → k < length us → get_or us k 0 ≡ get_or vs k 0) → us ≡ vs
    same_numbers us vs e h = ext_get_or 0 us vs e h

two_bytes : (w : ℕ) → w < 65536 → w % 256 + 256 * (w / 256 % 256) ≡ w
two_bytes w fits =
    let high : w / 256 % 256 ≡ w / 256 = mod-eq_of_lt (omega arith) in
    rw high (omega arith)

-- If a word is written at an offset, then reading the word at this offset returns the written word.
pub word_in-written : (xs : List ℕ) (i w : ℕ) → i + 2 ≤ length xs → w < 65536 → word_in (written xs i (little_bytes 2 w)) i ≡ w
unfolding word_in
word_in-written xs i w room fits =
    let low = get_written_in xs i (little_bytes 2 w) i room (omega arith) (omega arith) in
    let high = get_written_in xs i (little_bytes 2 w) (i + 1) room (omega arith) (omega arith) in
    let zeroth : i - i ≡ 0 = omega arith in
    let first : (i + 1) - i ≡ 1 = omega arith in
    rw (low, high, zeroth, first) (two_bytes w fits)

-- The law `word_in-below`: a word before the written bytes is unchanged. The next law states the same for a word after
-- them.
pub word_in-below : (xs : List ℕ) (i : ℕ) (ys : List ℕ) (place : ℕ) → i + length ys ≤ length xs → place + 2 ≤ i
    → word_in (written xs i ys) place ≡ word_in xs place
unfolding word_in
word_in-below xs i ys place fits below =
    rw (get_written_below xs i ys place fits (omega arith), get_written_below xs i ys (place + 1) fits (omega arith))

pub word_in-above : (xs : List ℕ) (i : ℕ) (ys : List ℕ) (place : ℕ) → i + length ys ≤ length xs → i + length ys ≤ place
    → word_in (written xs i ys) place ≡ word_in xs place
unfolding word_in
word_in-above xs i ys place fits above =
    rw (get_written_above xs i ys place fits above, get_written_above xs i ys (place + 1) fits (omega arith))

pub length-directory : (image : List ℕ) → 3072 ≤ length image → length (directory_of image) ≡ 2048
length-directory image long = omega (arith, length-take 2048 (drop 1024 image), length-drop 1024 image)

-- If `i` characters of a name were written to a field in upper case, and one more is written, then `i + 1` characters
-- were written.
pub raised_more : (name field : List ℕ) (i : ℕ) → i < length name → i < length field
    → set (map to_ascii_uppercase (take i name) ++ drop i field) i (to_ascii_uppercase (get_or name i 0))
    ≡ map to_ascii_uppercase (take (i + 1) name) ++ drop (i + 1) field
raised_more name field i below room =
    let front = map to_ascii_uppercase (take i name) in
    let c = to_ascii_uppercase (get_or name i 0) in
    let long : length front ≡ i = length-map (take i name) to_ascii_uppercase ∙ length-take-le i name (omega arith) in
    let none : i - i ≡ 0 = omega arith in
    set-append_right front (drop i field) i i c long (omega arith)
    ∙ rw (none, drop_more field i 0 room, map_more to_ascii_uppercase name i 0 below) (sym (append_assoc front (c ∷ []) (drop (i + 1) field)))

-- If `ys` has the `n` items of `xs` from `from` on at `to`, and all other items equal those of `xs`, then `ys` is `xs`
-- with these `n` items written at `to`.
pub copied_part : (xs ys : List ℕ) (from to n : ℕ) → length ys ≡ length xs → from + n ≤ length xs → to + n ≤ length xs
    → ((k : ℕ) → to ≤ k → k < to + n → get_or ys k 0 ≡ get_or xs (from + (k - to)) 0)
    → ((k : ℕ) → k < to → get_or ys k 0 ≡ get_or xs k 0) → ((k : ℕ) → to + n ≤ k → get_or ys k 0 ≡ get_or xs k 0)
    → ys ≡ written xs to (take n (drop from xs))
copied_part xs ys from to n size source target inside below above =
    let part = take n (drop from xs) in
    let long : length part ≡ n = omega (arith, length-take n (drop from xs), length-drop from xs) in
    let room : to + length part ≤ length xs = omega arith in
    ext_get_or 0 ys (written xs to part) (size ∙ sym (length-written xs to part room)) (λ k _. elim (cases_lt k to) [
      | inl low ↦ below k low ∙ sym (get_written_below xs to part k room low)
      | inr high ↦
          elim (cases_lt k (to + n)) [
            | inl within ↦
                inside k high within ∙ sym (get_written_in xs to part k room high (omega arith)
                ∙ get_or-take n (drop from xs) (k - to) 0 (omega arith) ∙ get_or-drop from xs (k - to) 0)
            | inr past ↦ above k past ∙ sym (get_written_above xs to part k room (omega arith))
          ]
    ])
