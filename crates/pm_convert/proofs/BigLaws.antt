-- If an image is converted to the order `big` and back, or from the order `big` and back, it is unchanged.
use Rattle.std.proofs.Common.{◌≡◌, ◌∙◌, ◌+◌, ◌-◌, ◌*◌, ◌/◌, ◌%◌, ◌<◌, ◌≤◌, inl, inr, ℕ, Bool, true, false}
use Rattle.std.proofs.Common.{List, length, map, drop, refl, sym, ap, arith, ltb, leb, cond}
use Rattle.std.specs.Prelude.{◌==◌, ◌&&◌, ◌||◌, nat_le, nat_lt, slice_index}
use Rattle.std.specs.List.{list_any, range_with_len}
use Rattle.std.proofs.lemmas.Bool.{agree_below_at, and_from, and_parts, cases_lt, cond_both, cond-true, cond-false}
use Rattle.std.proofs.lemmas.Bool.{le-leb, le-ltb, lt-leb, leb-true, lt-ltb, ltb-true}
use Rattle.std.proofs.lemmas.List.{get_or-drop, get_or-take}
use Rattle.std.proofs.lemmas.List.FromFn.{fill_by_all, get_or-map-range_with_len}
use Rattle.pm_check.specs.Orders.{place_in_word}
use Rattle.pm_convert.specs.Big.{IsClear, big_place, big_with, code_blocks, directory_front, directory_place, exchanged_front, exchanged_with}
use Rattle.pm_convert.specs.Big.{from_big, is_dictionary_word, is_directory_word, is_exchanged, is_in_directory, to_big, turned_directory}
use Rattle.pm_convert.proofs.BigSteps.{exchanged_size}
use Rattle.pm_volume.specs.Directory.{directory_of, files_begin}
use Rattle.pm_volume.specs.declared.fields.TheConstants.{PAST_SECOND}
use Rattle.pm_volume.proofs.WrittenLaws.{length-directory}

-- Two tests are equal if both are true, or both are false.
same_lt : (a b c d : ℕ) → (a < b → c < d) → (b ≤ a → d ≤ c) → ltb a b ≡ ltb c d
same_lt a b c d below above = elim (cases_lt a b) [
  | inl h ↦ lt-ltb a b h ∙ sym (lt-ltb c d (below h))
  | inr h ↦ le-ltb a b h ∙ sym (le-ltb c d (above h))
]

same_le : (a b c d : ℕ) → (b < a → d < c) → (a ≤ b → c ≤ d) → leb a b ≡ leb c d
same_le a b c d below above = elim (cases_lt b a) [
  | inl h ↦ lt-leb a b h ∙ sym (lt-leb c d (below h))
  | inr h ↦ le-leb a b h ∙ sym (le-leb c d (above h))
]

-- ---- the two bytes of a word

word_back : (place : ℕ) → place_in_word (place_in_word place) ≡ place
word_back place = omega arith

word_inside : (place words : ℕ) → place < words * 2 → place_in_word place < words * 2
word_inside place words inside = omega (arith, inside)

-- The two bytes of a word of a directory, or of a dictionary, are both exchanged or both unchanged.
directory_same : (place : ℕ) → place < 2048 → is_directory_word (place_in_word place) ≡ is_directory_word place
directory_same place inside = agree_below_at (λ p. is_directory_word (place_in_word p)) is_directory_word 2048 place refl inside

dictionary_same : (place : ℕ) → place < 512 → is_dictionary_word (place_in_word place) ≡ is_dictionary_word place
dictionary_same place inside = agree_below_at (λ p. is_dictionary_word (place_in_word p)) is_dictionary_word 512 place refl inside

in_same : (half place : ℕ) → is_in_directory (2 * half) (place_in_word place) ≡ is_in_directory (2 * half) place
in_same half place = go (nat_le (2 * half) place) (nat_lt place (2 * half + 2048)) refl refl
  where
    from : nat_le (2 * half) (place_in_word place) ≡ nat_le (2 * half) place
    from = same_le (2 * half) (place_in_word place) (2 * half) place (λ h. omega (arith, h)) (λ h. omega (arith, h))

    to : nat_lt (place_in_word place) (2 * half + 2048) ≡ nat_lt place (2 * half + 2048)
    to = same_lt (place_in_word place) (2 * half + 2048) place (2 * half + 2048) (λ h. omega (arith, h)) (λ h. omega (arith, h))

    go : (x y : Bool) → nat_le (2 * half) place ≡ x → nat_lt place (2 * half + 2048) ≡ y
        → is_in_directory (2 * half) (place_in_word place) ≡ is_in_directory (2 * half) place
    go false y e f = rw (from, e) refl
    go true false e f = rw (from, to, e, f) refl
    go true true e f =
        let low : 2 * half ≤ place = leb-true (2 * half) place e in
        let high : place < 2 * half + 2048 = ltb-true place (2 * half + 2048) f in
        let inside : place - 2 * half < 2048 = omega (arith, low, high) in
        let apart : place_in_word place - 2 * half ≡ place_in_word (place - 2 * half) = omega (arith, low) in
        rw (from, to, e, f, apart) (directory_same (place - 2 * half) inside)

exchanged_same : (second : Bool) (blocks : List ℕ) (size place : ℕ)
    → is_exchanged second blocks size (place_in_word place) ≡ is_exchanged second blocks size place
exchanged_same second blocks size place =
    let first = in_same 512 place in
    let copy = in_same 1536 place in
    let rest : place_in_word place % 512 ≡ place_in_word (place % 512) = omega arith in
    let table : is_dictionary_word (place_in_word (place % 512)) ≡ is_dictionary_word (place % 512)
    = dictionary_same (place % 512) (omega arith) in
    let whole : nat_lt (place_in_word place) (size / 512 * 512) ≡ nat_lt place (size / 512 * 512)
    = same_lt (place_in_word place) (size / 512 * 512) place (size / 512 * 512) (λ h. omega (arith, h)) (λ h. omega (arith, h)) in
    let block : place_in_word place / 512 ≡ place / 512 = omega arith in
    rw (first, copy, rest, table, whole, block) refl

-- The offset of a byte before the conversion is an offset of the image. If it is computed twice, the result is the
-- first offset.
big_inside : (second : Bool) (blocks : List ℕ) (size place : ℕ) → place < size → big_place second blocks size place < size
big_inside second blocks size place inside =
    cond_both (nat_lt place (size / 2 * 2) && is_exchanged second blocks size place) _ _ (λ there. there < size)
    (λ is. let here = word_inside place (size / 2) (ltb-true _ _ (and_parts _ _ is).0) in omega (arith, here)) (λ is. inside)

big_back : (second : Bool) (blocks : List ℕ) (size place : ℕ) → place < size
    → big_place second blocks size (big_place second blocks size place) ≡ place
big_back second blocks size place inside =
    cond_both (nat_lt place (size / 2 * 2) && is_exchanged second blocks size place) _ _
    (λ there. big_place second blocks size there ≡ place)
    (λ is. cond-true _ _ _ (and_from _ _ (lt-ltb _ _ (word_inside place (size / 2) (ltb-true _ _ (and_parts _ _ is).0)))
    (exchanged_same second blocks size place ∙ (and_parts _ _ is).1)) ∙ word_back place)
    (λ is. cond-false _ _ _ is)

-- ---- an image that is converted twice

-- The byte at offset `place` of the converted image is the byte of the image at the offset before the conversion.
exchanged_at : (second : Bool) (blocks image : List ℕ) (place : ℕ) → place < length image
    → slice_index (exchanged_with second blocks image) place ≡ slice_index image (big_place second blocks (length image) place)
unfolding exchanged_with exchanged_front
exchanged_at second blocks image place inside =
    get_or-map-range_with_len _ 0 (length image) place place 0 inside (omega arith)

exchanged_over : (second : Bool) (blocks image : List ℕ) (size : ℕ) → size ≡ length image
    → map (λ place. slice_index image (big_place second blocks size place)) (range_with_len 0 size) ≡ exchanged_with second blocks image
unfolding exchanged_with exchanged_front
exchanged_over second blocks image size is = rw is refl

exchanged_back : (second : Bool) (blocks image : List ℕ)
    → exchanged_with second blocks (exchanged_with second blocks image) ≡ image
exchanged_back second blocks image =
    sym (fill_by_all (λ place. slice_index (exchanged_with second blocks image) (big_place second blocks (length image) place))
    image (length image) 0 refl at
    ∙ exchanged_over second blocks (exchanged_with second blocks image) (length image) (sym (exchanged_size second blocks image)))
  where
    at : (place : ℕ) → place < length image
        → slice_index image place ≡ slice_index (exchanged_with second blocks image) (big_place second blocks (length image) place)
    at place inside = sym (exchanged_at second blocks image (big_place second blocks (length image) place)
        (big_inside second blocks (length image) place inside)
        ∙ ap (slice_index image) (big_back second blocks (length image) place inside))

-- ---- a directory that is converted twice

directory_inside : (place : ℕ) → place < 2048 → directory_place place < 2048
directory_inside place inside = cond_both (is_directory_word place) _ _ (λ there. there < 2048)
    (λ is. let here = word_inside place 1024 inside in here) (λ is. inside)

directory_back : (place : ℕ) → place < 2048 → directory_place (directory_place place) ≡ place
directory_back place inside = cond_both (is_directory_word place) _ _ (λ there. directory_place there ≡ place)
    (λ is. cond-true _ _ _ (directory_same place inside ∙ is) ∙ word_back place)
    (λ is. cond-false _ _ _ is)

turned_at : (directory : List ℕ) (place : ℕ) → place < 2048
    → slice_index (turned_directory directory) place ≡ slice_index directory (directory_place place)
unfolding turned_directory directory_front
turned_at directory place inside =
    get_or-map-range_with_len (λ (p : ℕ). slice_index directory (directory_place p)) 0 2048 place place 0 inside (omega arith)

turned_is : (directory : List ℕ)
    → map (λ (place : ℕ). slice_index directory (directory_place place)) (range_with_len 0 2048) ≡ turned_directory directory
unfolding turned_directory directory_front
turned_is directory = refl

turned_back : (directory : List ℕ) → length directory ≡ 2048 → turned_directory (turned_directory directory) ≡ directory
turned_back directory whole =
    sym (fill_by_all (λ place. slice_index (turned_directory directory) (directory_place place)) directory 2048 0 whole at
    ∙ turned_is (turned_directory directory))
  where
    at : (place : ℕ) → place < 2048
        → slice_index directory place ≡ slice_index (turned_directory directory) (directory_place place)
    at place inside = sym (turned_at directory (directory_place place) (directory_inside place inside)
        ∙ ap (slice_index directory) (directory_back place inside))

-- ---- the directory of a converted image

-- The byte at offset `place` of a directory.
directory_at : (image : List ℕ) (place : ℕ) → place < 2048
    → slice_index (directory_of image) place ≡ slice_index image (1024 + place)
directory_at image place inside = get_or-take 2048 (drop 1024 image) place 0 inside ∙ get_or-drop 1024 image place 0

-- If no dictionary is in blocks 2 to 5, only the words of the directory are exchanged there.
in_directory : (second : Bool) (blocks : List ℕ) (size place : ℕ) → place < 2048
    → ((block : ℕ) → 2 ≤ block → block < 6 → list_any (λ known. known == block) blocks ≡ false)
    → is_exchanged second blocks size (1024 + place) ≡ is_directory_word place
in_directory second blocks size place inside clear =
    let from : nat_le 1024 (1024 + place) ≡ true = le-leb 1024 (1024 + place) (omega arith) in
    let to : nat_lt (1024 + place) 3072 ≡ true = lt-ltb (1024 + place) 3072 (omega (arith, inside)) in
    let apart : (1024 + place) - 1024 ≡ place = omega arith in
    let none : nat_le 3072 (1024 + place) ≡ false = lt-leb 3072 (1024 + place) (omega (arith, inside)) in
    let no : list_any (λ known. known == (1024 + place) / 512) blocks ≡ false
    = clear ((1024 + place) / 512) (omega (arith, inside)) (omega (arith, inside)) in
    rw (from, to, apart, none, no) (go second (is_directory_word place) (is_dictionary_word ((1024 + place) % 512))
    (nat_lt (1024 + place) (size / 512 * 512)))
  where
    go : (s w d t : Bool) → (w || ((s && false) || (d && (t && false)))) ≡ w
    go s true d t = refl
    go true false true true = refl
    go true false true false = refl
    go true false false t = refl
    go false false true true = refl
    go false false true false = refl
    go false false false t = refl

place_there : (second : Bool) (blocks : List ℕ) (size place : ℕ) → place < 2048 → 3072 ≤ size
    → ((block : ℕ) → 2 ≤ block → block < 6 → list_any (λ known. known == block) blocks ≡ false)
    → big_place second blocks size (1024 + place) ≡ 1024 + directory_place place
place_there second blocks size place inside long clear =
    let to : nat_lt (1024 + place) (size / 2 * 2) ≡ true = lt-ltb _ _ (omega (arith, inside, long)) in
    rw (to, in_directory second blocks size place inside clear) (go (is_directory_word place))
  where
    go : (w : Bool) → cond (true && w) (place_in_word (1024 + place)) (1024 + place) ≡ 1024 + cond w (place_in_word place) place
    go true = omega arith
    go false = refl

converted_directory : (directory image : List ℕ) → 3072 ≤ length image → IsClear directory
    → directory_of (big_with directory image) ≡ turned_directory (directory_of image)
converted_directory directory image long clear =
    fill_by_all (λ place. slice_index (directory_of image) (directory_place place)) (directory_of (big_with directory image)) 2048 0
    (length-directory (big_with directory image) (omega (arith, long, size))) at
    ∙ turned_is (directory_of image)
  where
    second : Bool
    second = files_begin directory == PAST_SECOND

    blocks : List ℕ
    blocks = code_blocks directory

    size : length (exchanged_with second blocks image) ≡ length image
    size = exchanged_size second blocks image

    at : (place : ℕ) → place < 2048
        → slice_index (directory_of (big_with directory image)) place ≡ slice_index (directory_of image) (directory_place place)
    at place inside = directory_at (big_with directory image) place inside
        ∙ exchanged_at (files_begin directory == PAST_SECOND) (code_blocks directory) image (1024 + place) (omega (arith, inside, long))
        ∙ ap (slice_index image) (place_there (files_begin directory == PAST_SECOND) (code_blocks directory) (length image) place inside long clear)
        ∙ sym (directory_at image (directory_place place) (directory_inside place inside))

-- ---- there and back

pub from_to : (blocks : List ℕ) → 3072 ≤ length blocks → IsClear (directory_of blocks) → from_big (to_big blocks) ≡ blocks
unfolding from_big to_big
from_to blocks long clear =
    rw (converted_directory (directory_of blocks) blocks long clear, turned_back (directory_of blocks) (length-directory blocks long))
    (exchanged_back (files_begin (directory_of blocks) == PAST_SECOND) (code_blocks (directory_of blocks)) blocks)

pub to_from : (volume : List ℕ) → 3072 ≤ length volume → IsClear (turned_directory (directory_of volume))
    → to_big (from_big volume) ≡ volume
unfolding from_big to_big
to_from volume long clear =
    rw (converted_directory (turned_directory (directory_of volume)) volume long clear)
    (exchanged_back (files_begin (turned_directory (directory_of volume)) == PAST_SECOND)
    (code_blocks (turned_directory (directory_of volume))) volume)

pub from_size : (volume : List ℕ) → length (from_big volume) ≡ length volume
unfolding from_big
from_size volume = exchanged_size (files_begin (turned_directory (directory_of volume)) == PAST_SECOND)
    (code_blocks (turned_directory (directory_of volume))) volume

pub to_size : (blocks : List ℕ) → length (to_big blocks) ≡ length blocks
unfolding to_big
to_size blocks = exchanged_size (files_begin (directory_of blocks) == PAST_SECOND) (code_blocks (directory_of blocks)) blocks
