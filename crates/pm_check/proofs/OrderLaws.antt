-- If an image is converted twice, it is unchanged.
use Rattle.std.proofs.Common.{arith, ◌≡◌, ◌∙◌, ◌+◌, ◌*◌, ◌/◌, ◌%◌, ◌<◌, ℕ, true, List, [], ◌∷◌, ◌++◌}
use Rattle.std.proofs.Common.{length, map, refl, sym, ap, eqb, ltb}
use Rattle.std.specs.Prelude.{slice_index}
use Rattle.std.specs.List.{range_with_len}
use Rattle.std.proofs.lemmas.Bool.{agree_below_at, cond_both, cond-true, cond-false, eqb-true, lt-ltb, ltb-true}
use Rattle.std.proofs.lemmas.List.FromFn.{length-map-range_with_len, get_or-map-range_with_len, fill_by_all}
use Rattle.std.proofs.lemmas.List.FromFn.{map-range_with_len_more}
use Rattle.pm_check.specs.Orders.{WorkedOrders, other_sector, place_in, place_in_track, place_in_word, turned, turned_front}
use Rattle.pm_check.specs.declared.order.Order.{Order}
use Rattle.pm_check.specs.declared.order.Order.TheVariants as orders

-- The first 0 bytes of the converted image are the empty list. The next law adds one byte.
pub front_none : (order : Order) (image : List ℕ) → [] ≡ turned_front order image 0
unfolding turned_front
front_none order image = refl

pub front_more : (order : Order) (image made : List ℕ) (place from : ℕ) → made ≡ turned_front order image place
    → from ≡ place_in order (length image) place
    → made ++ (slice_index image from ∷ []) ≡ turned_front order image (place + 1)
unfolding turned_front
front_more order image made place from whole value =
    rw (whole, value) (sym (map-range_with_len_more _ 0 place place (omega arith)))

-- A conversion keeps the length of the image.
pub turned_size : (order : Order) (image : List ℕ) → length (turned order image) ≡ length image
unfolding turned turned_front
turned_size order image = length-map-range_with_len _ 0 (length image)

-- The sector with which a sector is exchanged is in the same track. The next law: two exchanges give the first sector.
sector_inside : (sector : ℕ) → sector < 16 → other_sector sector < 16
unfolding other_sector
sector_inside sector inside =
    ltb-true _ _ (agree_below_at (λ sector. ltb (other_sector sector) 16) (λ sector. true) 16 sector refl inside)

sector_back : (sector : ℕ) → sector < 16 → other_sector (other_sector sector) ≡ sector
unfolding other_sector
sector_back sector inside =
    eqb-true _ _ (agree_below_at (λ sector. eqb (other_sector (other_sector sector)) sector) (λ sector. true) 16 sector refl inside)

-- If an offset is composed of a track, a sector and a byte, then dividing it returns the track. The next laws state the
-- same for the sector and the byte.
track_of : (track sector byte : ℕ) → sector < 16 → byte < 256 → (track * 4096 + (sector * 256 + byte)) / 4096 ≡ track
track_of track sector byte few small = omega (arith, few, small)

sector_of : (track sector byte : ℕ) → sector < 16 → byte < 256
    → (track * 4096 + (sector * 256 + byte)) / 256 % 16 ≡ sector
sector_of track sector byte few small = omega (arith, few, small)

byte_of : (track sector byte : ℕ) → sector < 16 → byte < 256 → (track * 4096 + (sector * 256 + byte)) % 256 ≡ byte
byte_of track sector byte few small = omega (arith, few, small)

track_back : (place : ℕ) → place_in_track (place_in_track place) ≡ place
track_back place =
    let few : place / 256 % 16 < 16 = omega arith in
    let small : place % 256 < 256 = omega arith in
    let inside = sector_inside (place / 256 % 16) few in
    rw (
      track_of (place / 4096) (other_sector (place / 256 % 16)) (place % 256) inside small,
      sector_of (place / 4096) (other_sector (place / 256 % 16)) (place % 256) inside small,
      byte_of (place / 4096) (other_sector (place / 256 % 16)) (place % 256) inside small,
      sector_back (place / 256 % 16) few,
    ) (omega arith)

track_inside : (place tracks : ℕ) → place < tracks * 4096 → place_in_track place < tracks * 4096
track_inside place tracks inside =
    let few : place / 256 % 16 < 16 = omega arith in
    let there = sector_inside (place / 256 % 16) few in omega (arith, inside, there)

word_back : (place : ℕ) → place_in_word (place_in_word place) ≡ place
word_back place = omega arith

word_inside : (place words : ℕ) → place < words * 2 → place_in_word place < words * 2
word_inside place words inside = omega (arith, inside)

-- The offset of a byte before the conversion is an offset of the image.
pub place_inside : (order : Order) (size place : ℕ) → place < size → place_in order size place < size
place_inside orders.Blocks size place inside = inside
place_inside orders.Dos size place inside = cond_both (ltb place (size / 4096 * 4096)) _ _ (λ there. there < size)
    (λ is. let here = track_inside place (size / 4096) (ltb-true _ _ is) in omega (arith, here)) (λ is. inside)
place_inside orders.Swapped size place inside = cond_both (ltb place (size / 2 * 2)) _ _ (λ there. there < size)
    (λ is. let here = word_inside place (size / 2) (ltb-true _ _ is) in omega (arith, here)) (λ is. inside)

-- If the offset before the conversion is computed twice, the result is the first offset.
pub place_back : (order : Order) (size place : ℕ) → place < size → place_in order size (place_in order size place) ≡ place
place_back orders.Blocks size place inside = refl
place_back orders.Dos size place inside =
    cond_both (ltb place (size / 4096 * 4096)) _ _ (λ there. place_in orders.Dos size there ≡ place)
    (λ is. cond-true _ _ _ (lt-ltb _ _ (track_inside place (size / 4096) (ltb-true _ _ is))) ∙ track_back place)
    (λ is. cond-false _ _ _ is)
place_back orders.Swapped size place inside =
    cond_both (ltb place (size / 2 * 2)) _ _ (λ there. place_in orders.Swapped size there ≡ place)
    (λ is. cond-true _ _ _ (lt-ltb _ _ (word_inside place (size / 2) (ltb-true _ _ is))) ∙ word_back place)
    (λ is. cond-false _ _ _ is)

-- The byte at offset `place` of the converted image is the byte of the image at the offset before the conversion.
turned_at : (order : Order) (image : List ℕ) (place : ℕ) → place < length image
    → slice_index (turned order image) place ≡ slice_index image (place_in order (length image) place)
unfolding turned turned_front
turned_at order image place inside = get_or-map-range_with_len _ 0 (length image) place place 0 inside (omega arith)

-- If all bytes of an image are converted, the result is the converted image.
turned_over : (order : Order) (image : List ℕ) (size : ℕ) → size ≡ length image
    → map (λ place. slice_index image (place_in order size place)) (range_with_len 0 size) ≡ turned order image
unfolding turned turned_front
turned_over order image size is = rw is refl

pub turned_back : (order : Order) (image : List ℕ) → turned order (turned order image) ≡ image
turned_back order image = sym (fill_by_all (λ place. slice_index (turned order image) (place_in order (length image) place))
    image (length image) 0 refl at ∙ turned_over order (turned order image) (length image) (sym (turned_size order image)))
  where
    at : (place : ℕ) → place < length image
        → slice_index image place ≡ slice_index (turned order image) (place_in order (length image) place)
    at place inside = sym (turned_at order image (place_in order (length image) place)
        (place_inside order (length image) place inside) ∙ ap (slice_index image) (place_back order (length image) place inside))

pub turned_blocks : (image : List ℕ) → turned orders.Blocks image ≡ image
unfolding turned turned_front
turned_blocks image =
    sym (fill_by_all (λ place. slice_index image place) image (length image) 0 refl (λ place inside. refl))

-- Worked examples: the sectors with which sectors 0 to 15 are exchanged. The next laws are examples of offsets and
-- bytes.
table_worked : map other_sector (range_with_len 0 16)
    ≡ 0 ∷ 14 ∷ 13 ∷ 12 ∷ 11 ∷ 10 ∷ 9 ∷ 8 ∷ 7 ∷ 6 ∷ 5 ∷ 4 ∷ 3 ∷ 2 ∷ 1 ∷ 15 ∷ []
unfolding other_sector
table_worked = refl

places_worked : map (place_in orders.Dos 8192) (0 ∷ 255 ∷ 256 ∷ 1025 ∷ 3840 ∷ 4352 ∷ 8191 ∷ [])
    ≡ 0 ∷ 255 ∷ 3584 ∷ 2817 ∷ 3840 ∷ 7680 ∷ 8191 ∷ []
unfolding other_sector
places_worked = refl

behind_worked : map (place_in orders.Dos 4864) (256 ∷ 4096 ∷ 4352 ∷ 4863 ∷ []) ≡ 3584 ∷ 4096 ∷ 4352 ∷ 4863 ∷ []
unfolding other_sector
behind_worked = refl

words_worked : turned orders.Swapped (1 ∷ 2 ∷ 3 ∷ 4 ∷ 5 ∷ []) ≡ 2 ∷ 1 ∷ 4 ∷ 3 ∷ 5 ∷ []
unfolding turned turned_front
words_worked = refl

pub worked_orders : WorkedOrders
worked_orders = record {
  back = turned_back;
  size = turned_size;
  table = table_worked;
  places = places_worked;
  behind = behind_worked;
  words = words_worked;
  blocks = turned_blocks;
}
