-- The blocks of a new image are the blocks that it was made for.
use Rattle.std.proofs.Common.{◌≡◌, ◌∙◌, ◌≢◌, ◌+◌, ◌-◌, ◌<◌, ℕ, Bool, true, false, List, [], ◌∷◌, ◌++◌, None, Some}
use Rattle.std.proofs.Common.{take, get_or, length, length-append, refl, sym, ap, arith, eqb, ltb, leb}
use Rattle.std.specs.Prelude.{◌==◌, if◌then◌else◌, slice_range, codes}
use Rattle.std.proofs.lemmas.Bool.{cond-false, cond-true, eq-eqb, le-leb, le-ltb, lt-ltb, ne_eqb}
use Rattle.std.proofs.lemmas.List.{take_all}
use Rattle.pm_bytes.specs.Words.{word_in, written}
use Rattle.pm_check.specs.Forms.{front_size, has_front, long_in}
use Rattle.pm_check.specs.Headed.{new_file, plain_header}
use Rattle.pm_convert.specs.Covers.{bytes_at, has_disk_copy, part_in}
use Rattle.pm_convert.specs.Found.{blocks_at, blocks_in, is_sum_wrong}
use Rattle.pm_convert.specs.Headers.{disk_copy_header}
use Rattle.pm_convert.specs.Made.{covered, disk_copy, new_image, order_number}
use Rattle.pm_convert.specs.Sums.{checksum, high_long}
use Rattle.pm_convert.specs.Turning.{fits, in_blocks, in_order}
use Rattle.pm_convert.specs.Worked.{ComesBack}
use Rattle.pm_convert.specs.declared.format.ByteOrder.{ByteOrder}
use Rattle.pm_convert.specs.declared.format.Cover.{Cover}
use Rattle.pm_convert.specs.declared.format.Cover.TheVariants as covers
use Rattle.pm_convert.specs.declared.format.Format.{Format}
use Rattle.pm_convert.proofs.MadeLaws.{new_file_size}
use Rattle.pm_convert.proofs.SealLaws.{checksum_small, high_back}
use Rattle.pm_convert.proofs.TurnLaws.{order_size, turn_back}
use Rattle.pm_volume.proofs.WrittenLaws.{length-written}

-- ---- .2mg

module _ (volume : List ℕ) (number : ℕ) where
  file_long : length (written (new_file volume) 12 (number ∷ [])) ≡ 64 + length volume
  file_long = length-written (new_file volume) 12 (number ∷ []) (omega (arith, new_file_size volume)) ∙ new_file_size volume

  file_letters : take 4 (written (new_file volume) 12 (number ∷ [])) ≡ codes "2IMG"
  unfolding written new_file plain_header
  file_letters = refl

  file_begin : long_in (written (new_file volume) 12 (number ∷ [])) 24 ≡ 64
  unfolding long_in word_in written new_file plain_header
  file_begin = refl

  file_number : length volume < 4294967296 → long_in (written (new_file volume) 12 (number ∷ [])) 28 ≡ length volume
  unfolding long_in word_in written new_file plain_header
  file_number small = omega (arith, small)

  file_size : 0 < length volume → length volume < 4294967296
      → front_size (written (new_file volume) 12 (number ∷ [])) ≡ length volume
  unfolding front_size
  file_size some small =
      let said = file_number small in
      cond-false (eqb (long_in (written (new_file volume) 12 (number ∷ [])) 28) 0) _ _
      (ne_eqb (long_in (written (new_file volume) 12 (number ∷ [])) 28) 0 (λ none. omega (arith, said, none, some)))
      ∙ said

  file_front : 0 < length volume → length volume < 4294967296 → has_front (written (new_file volume) 12 (number ∷ [])) ≡ true
  unfolding has_front
  file_front some small =
      let size = file_size some small in
      let long : ltb (64 + length volume) 64 ≡ false = le-ltb (64 + length volume) 64 (omega arith) in
      let there : ltb 0 (length volume) ≡ true = lt-ltb 0 (length volume) some in
      let inside : leb (64 + length volume) (64 + length volume) ≡ true = le-leb _ _ (omega arith) in
      rw (file_long, file_letters, file_begin, size, long, there, inside) refl

  file_part : 0 < length volume → length volume < 4294967296
      → part_in covers.TwoImg (written (new_file volume) 12 (number ∷ [])) ≡ Some (record { begin = 64; size = length volume })
  file_part some small =
      let front = file_front some small in
      let size = file_size some small in
      rw (front, file_begin, size) refl

  file_bytes : slice_range (written (new_file volume) 12 (number ∷ [])) 64 (64 + length volume) ≡ volume
  unfolding written new_file plain_header
  file_bytes = take_all ((64 + length volume) - 64) volume (omega arith)

-- ---- DiskCopy 4.2

module _ (volume : List ℕ) (sum : ℕ) where
  copy_long : length (disk_copy_header (length volume) sum ++ volume) ≡ 84 + length volume
  unfolding disk_copy_header
  copy_long = length-append (disk_copy_header (length volume) sum) volume

  copy_size : length volume < 4294967296 → high_long (disk_copy_header (length volume) sum ++ volume) 64 ≡ length volume
  unfolding disk_copy_header
  copy_size small = high_back (length volume) small

  copy_tags : high_long (disk_copy_header (length volume) sum ++ volume) 68 ≡ 0
  unfolding disk_copy_header
  copy_tags = refl

  copy_sum : sum < 4294967296 → high_long (disk_copy_header (length volume) sum ++ volume) 72 ≡ sum
  unfolding disk_copy_header
  copy_sum small = high_back sum small

  copy_mark : (get_or (disk_copy_header (length volume) sum ++ volume) 82 0 ≡ 1)
      × (get_or (disk_copy_header (length volume) sum ++ volume) 83 0 ≡ 0)
  unfolding disk_copy_header
  copy_mark = (refl, refl)

  copy_valid : 0 < length volume → length volume < 4294967296
      → has_disk_copy (disk_copy_header (length volume) sum ++ volume) ≡ true
  unfolding has_disk_copy
  copy_valid some small =
      let size = copy_size small in
      let long : leb 84 (84 + length volume) ≡ true = le-leb 84 (84 + length volume) (omega arith) in
      let there : ltb 0 (length volume) ≡ true = lt-ltb 0 (length volume) some in
      let inside : leb (84 + (length volume + 0)) (84 + length volume) ≡ true = le-leb _ _ (omega arith) in
      let first = copy_mark.0 in
      let second = copy_mark.1 in
      rw (copy_long, first, second, size, copy_tags, long, there, inside) refl

  copy_part : 0 < length volume → length volume < 4294967296
      → part_in covers.DiskCopy (disk_copy_header (length volume) sum ++ volume) ≡ Some (record { begin = 84; size = length volume })
  copy_part some small =
      let valid = copy_valid some small in
      let size = copy_size small in
      rw (valid, size) refl

  copy_bytes : slice_range (disk_copy_header (length volume) sum ++ volume) 84 (84 + length volume) ≡ volume
  unfolding disk_copy_header
  copy_bytes = take_all ((84 + length volume) - 84) volume (omega arith)

-- ---- all covers

-- The offset of the volume in a new image.
new_begin : Cover → ℕ
new_begin covers.Bare = 0
new_begin covers.TwoImg = 64
new_begin covers.DiskCopy = 84

new_part : (cover : Cover) (order : ByteOrder) (volume : List ℕ) → 0 < length volume → length volume < 4294967296
    → length volume ≢ 143488
    → part_in cover (covered cover order volume) ≡ Some (record { begin = new_begin cover; size = length volume })
unfolding new_begin
new_part covers.Bare order volume some small other =
    ap (λ size. Some (record { begin = 0; size = size }))
    (cond-false (eqb (length volume) 143488) _ _ (ne_eqb (length volume) 143488 other))
new_part covers.TwoImg order volume some small other = file_part volume (order_number order) some small
new_part covers.DiskCopy order volume some small other = copy_part volume (checksum volume) some small

new_bytes : (cover : Cover) (order : ByteOrder) (volume : List ℕ)
    → bytes_at (record { begin = new_begin cover; size = length volume }) (covered cover order volume) ≡ volume
unfolding new_begin
new_bytes covers.Bare order volume = take_all ((0 + length volume) - 0) volume (omega arith)
new_bytes covers.TwoImg order volume = file_bytes volume (order_number order)
new_bytes covers.DiskCopy order volume = copy_bytes volume (checksum volume)

pub made_back : (format : Format) (blocks made : List ℕ) → new_image format blocks ≡ Some made
    → ComesBack format.order blocks → 0 < length blocks → length blocks < 4294967296 → length blocks ≢ 143488
    → blocks_in format made ≡ Some blocks
made_back format blocks made e clear some small other = go (fits format.order (length blocks)) refl e
  where
    volume : List ℕ
    volume = in_order format.order blocks

    go : (b : Bool) → fits format.order (length blocks) ≡ b
        → (if b then Some (covered format.cover format.order (in_order format.order blocks)) else None) ≡ Some made
        → blocks_in format made ≡ Some blocks
    go false is e = cc
    go true is e =
        let made_is : made ≡ covered format.cover format.order (in_order format.order blocks) = cc in
        let size = order_size format.order blocks in
        ap (blocks_in format) made_is
        ∙ ap (λ found. blocks_at format.order found (covered format.cover format.order (in_order format.order blocks)))
        (new_part format.cover format.order (in_order format.order blocks) (omega (arith, size, some)) (omega (arith, size, small))
        (λ same. other (sym size ∙ same)))
        ∙ cond-true (fits format.order (length (in_order format.order blocks))) _ _ (ap (fits format.order) size ∙ is)
        ∙ ap (λ volume. Some (in_blocks format.order volume)) (new_bytes format.cover format.order (in_order format.order blocks))
        ∙ ap Some (turn_back format.order blocks is clear)

pub made_sealed : (order : ByteOrder) (blocks made : List ℕ)
    → new_image (record { cover = covers.DiskCopy; order = order }) blocks ≡ Some made
    → 0 < length blocks → length blocks < 4294967296 → is_sum_wrong made ≡ false
made_sealed order blocks made e some small = go (fits order (length blocks)) e
  where
    go : (b : Bool) → (if b then Some (disk_copy (in_order order blocks)) else None) ≡ Some made → is_sum_wrong made ≡ false
    go false e = cc
    go true e =
        let made_is : made ≡ disk_copy (in_order order blocks) = cc in
        let same = order_size order blocks in
        let valid = copy_valid (in_order order blocks) (checksum (in_order order blocks)) (omega (arith, same, some)) (omega (arith, same, small)) in
        let size = copy_size (in_order order blocks) (checksum (in_order order blocks)) (omega (arith, same, small)) in
        let sum = copy_sum (in_order order blocks) (checksum (in_order order blocks)) (checksum_small (in_order order blocks)) in
        let bytes = copy_bytes (in_order order blocks) (checksum (in_order order blocks)) in
        let equal : (checksum (in_order order blocks) == checksum (in_order order blocks)) ≡ true = eq-eqb _ _ refl in
        ap is_sum_wrong made_is ∙ rw (valid, sum, size, bytes, equal) refl
