-- The orders in which a file can have the bytes of an image. A conversion changes an order to blocks in order, or back.
use Rattle.std.specs.Prelude.{◌≡◌, ℕ, ◌+◌, ◌-◌, ◌*◌, ◌/◌, ◌%◌, ◌==◌, ◌||◌, nat_lt, List, [], ◌∷◌}
use Rattle.std.specs.Prelude.{length, map, slice_index, if◌then◌else◌}
use Rattle.std.specs.List.{range_with_len}
use Rattle.pm_check.specs.declared.order.Order.{Order}
use Rattle.pm_check.specs.declared.order.Order.TheVariants as orders

-- The sector with which sector `sector` of a track is exchanged. A track has sixteen sectors. The first and the last
-- are unchanged, and the order of those between them is reversed.
unfoldable pub other_sector : ℕ → ℕ
other_sector sector = if sector == 0 || sector == 15 then sector else 15 - sector

-- The offset of the corresponding byte of the exchanged sector in the same track. A sector has 256 bytes, and a track
-- has 4,096.
abbrev pub place_in_track : ℕ → ℕ
place_in_track place = place / 4096 * 4096 + (other_sector (place / 256 % 16) * 256 + place % 256)

-- The offset of the other byte of the word that has the byte at offset `place`.
abbrev pub place_in_word : ℕ → ℕ
place_in_word place = place / 2 * 2 + (1 - place % 2)

-- The offset that the byte at offset `place` of the converted image had before the conversion. The image has `size`
-- bytes. Bytes after the last whole track, or after the last whole word, are unchanged.
abbrev pub place_in : Order → ℕ → ℕ → ℕ
place_in orders.Blocks size place = place
place_in orders.Dos size place = if nat_lt place (size / 4096 * 4096) then place_in_track place else place
place_in orders.Swapped size place = if nat_lt place (size / 2 * 2) then place_in_word place else place

-- The first `count` bytes of the image `image` after its conversion.
unfoldable pub turned_front : Order → List ℕ → ℕ → List ℕ
turned_front order image count =
    map (λ place. slice_index image (place_in order (length image) place)) (range_with_len 0 count)

-- The image `image` after its conversion.
unfoldable pub turned : Order → List ℕ → List ℕ
turned order image = turned_front order image (length image)

-- ---- laws

-- If an image is converted twice, it is unchanged. A conversion keeps the length of the image. These are the examples:
-- - the sectors with which sectors 0 to 15 are exchanged, as documented for Apple disks
-- - offsets of a disk of two tracks, and of a disk of one track and three sectors
-- - words, and a single byte
pub record WorkedOrders : Type 0 where
  pub back : (order : Order) (image : List ℕ) → turned order (turned order image) ≡ image
  pub size : (order : Order) (image : List ℕ) → length (turned order image) ≡ length image
  pub table : map other_sector (range_with_len 0 16)
      ≡ 0 ∷ 14 ∷ 13 ∷ 12 ∷ 11 ∷ 10 ∷ 9 ∷ 8 ∷ 7 ∷ 6 ∷ 5 ∷ 4 ∷ 3 ∷ 2 ∷ 1 ∷ 15 ∷ []
  pub places : map (place_in orders.Dos 8192) (0 ∷ 255 ∷ 256 ∷ 1025 ∷ 3840 ∷ 4352 ∷ 8191 ∷ [])
      ≡ 0 ∷ 255 ∷ 3584 ∷ 2817 ∷ 3840 ∷ 7680 ∷ 8191 ∷ []
  pub behind : map (place_in orders.Dos 4864) (256 ∷ 4096 ∷ 4352 ∷ 4863 ∷ []) ≡ 3584 ∷ 4096 ∷ 4352 ∷ 4863 ∷ []
  pub words : turned orders.Swapped (1 ∷ 2 ∷ 3 ∷ 4 ∷ 5 ∷ []) ≡ 2 ∷ 1 ∷ 4 ∷ 3 ∷ 5 ∷ []
  pub blocks : (image : List ℕ) → turned orders.Blocks image ≡ image
