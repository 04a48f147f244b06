-- The position of the volume in an image stays if the volume is replaced.
use Rattle.std.proofs.Common.{◌≡◌, ◌∙◌, ◌+◌, ◌-◌, ◌<◌, ◌≤◌, ℕ, Bool, true, false}
use Rattle.std.proofs.Common.{List, ◌++◌, None, Some, length, take, drop, get_or, refl, sym, ap, arith, length-append, length-drop, lit<, lit≤}
use Rattle.std.specs.Prelude.{◌==◌, ◌&&◌, nat_le, nat_lt, slice_index, slice_range, if◌then◌else◌, codes}
use Rattle.std.specs.Str.{bytes_eq}
use Rattle.std.proofs.lemmas.Bool.{and_parts, leb-true, ltb-true, ltb-false, eqb-true}
use Rattle.std.proofs.lemmas.List.{append_assoc, drop-drop, drop_at, length-take-le, take-append-drop, take-append-le, take-take, take_at}
use Rattle.pm_bytes.specs.Words.{written}
use Rattle.pm_check.specs.Forms.{front_begin, front_size, has_front, long_in}
use Rattle.pm_convert.specs.Covers.{bare_size, bytes_at, has_disk_copy, part_in}
use Rattle.pm_convert.specs.Made.{replaced_at}
use Rattle.pm_convert.specs.Sums.{checksum, high_bytes, high_long}
use Rattle.pm_convert.specs.declared.cover.Part.{Part}
use Rattle.pm_convert.specs.declared.format.Cover.{Cover}
use Rattle.pm_convert.specs.declared.format.Cover.TheVariants as covers
use Rattle.pm_volume.proofs.WrittenLaws.{get_written_above, get_written_below, length-written, word_in-below}

-- ---- lists

-- The new bytes are where they were written.
pub written_there : (xs : List ℕ) (i : ℕ) (ys : List ℕ) → i + length ys ≤ length xs
    → slice_range (written xs i ys) i (i + length ys) ≡ ys
unfolding written
written_there xs i ys fits =
    let front : length (take i xs) ≡ i = length-take-le i xs (omega (arith, fits)) in
    ap (take ((i + length ys) - i)) (drop_at (take i xs) (ys ++ drop (i + length ys) xs) i front)
    ∙ take_at ys (drop (i + length ys) xs) ((i + length ys) - i) (omega arith)

-- The bytes after the new bytes are unchanged.
pub written_after : (xs : List ℕ) (i : ℕ) (ys : List ℕ) (k : ℕ) → i + length ys ≤ length xs → i + length ys ≤ k
    → drop k (written xs i ys) ≡ drop k xs
unfolding written
written_after xs i ys k fits after =
    let front : length (take i xs) ≡ i = length-take-le i xs (omega (arith, fits)) in
    let both : length (take i xs ++ ys) ≡ i + length ys = length-append (take i xs) ys ∙ ap (λ n. n + length ys) front in
    let split : (i + length ys) + (k - (i + length ys)) ≡ k = omega (arith, after) in
    ap (λ n. drop n (take i xs ++ (ys ++ drop (i + length ys) xs))) (sym split)
    ∙ sym (drop-drop (k - (i + length ys)) (i + length ys) (take i xs ++ (ys ++ drop (i + length ys) xs)))
    ∙ ap (λ l. drop (k - (i + length ys)) (drop (i + length ys) l)) (sym (append_assoc (take i xs) ys (drop (i + length ys) xs)))
    ∙ ap (drop (k - (i + length ys))) (drop_at (take i xs ++ ys) (drop (i + length ys) xs) (i + length ys) both)
    ∙ drop-drop (k - (i + length ys)) (i + length ys) xs
    ∙ ap (λ n. drop n xs) split

-- If bytes are replaced by themselves, nothing changes.
pub written_same : (xs : List ℕ) (i n : ℕ) → i + n ≤ length xs → written xs i (slice_range xs i (i + n)) ≡ xs
unfolding written
written_same xs i n fits =
    let count : (i + n) - i ≡ n = omega arith in
    let size : length (take n (drop i xs)) ≡ n = length-take-le n (drop i xs) (omega (arith, fits, length-drop i xs)) in
    rw (count, size)
    (ap (λ l. take i xs ++ (take n (drop i xs) ++ l)) (sym (drop-drop n i xs))
    ∙ ap (λ l. take i xs ++ l) (take-append-drop n (drop i xs)) ∙ take-append-drop i xs)

-- ---- .2mg

pub front_facts : (image : List ℕ) → has_front image ≡ true
    → (64 ≤ length image) × (52 ≤ front_begin image) × (0 < front_size image) × (front_begin image + front_size image ≤ length image)
unfolding has_front
front_facts image = go (nat_lt (length image) 64) refl
  where
    go : (short : Bool) → nat_lt (length image) 64 ≡ short
        → (if short then false else bytes_eq (take 4 image) (codes "2IMG") && nat_le 52 (front_begin image)
        && nat_lt 0 (front_size image) && nat_le (front_begin image + front_size image) (length image)) ≡ true
        → (64 ≤ length image) × (52 ≤ front_begin image) × (0 < front_size image) × (front_begin image + front_size image ≤ length image)
    go true is e = cc
    go false is e =
        let a = and_parts _ _ e in let b = and_parts _ _ a.0 in let d = and_parts _ _ b.0 in (
          ltb-false (length image) 64 is,
          leb-true 52 (front_begin image) d.1,
          ltb-true 0 (front_size image) b.1,
          leb-true (front_begin image + front_size image) (length image) a.1,
        )

module _ (image : List ℕ) (begin : ℕ) (volume : List ℕ) (behind : 52 ≤ begin) (inside : begin + length volume ≤ length image) where
  long_same : (place : ℕ) → place + 4 ≤ begin → long_in (written image begin volume) place ≡ long_in image place
  unfolding long_in
  long_same place before =
      let low = word_in-below image begin volume place inside (omega (arith, before)) in
      let high = word_in-below image begin volume (place + 2) inside (omega (arith, before)) in
      rw (low, high) refl

  letters_same : take 4 (written image begin volume) ≡ take 4 image
  unfolding written
  letters_same =
      let front : length (take begin image) ≡ begin = length-take-le begin image (omega (arith, inside)) in
      take-append-le 4 (take begin image) (volume ++ drop (begin + length volume) image) (omega (arith, front, behind))
      ∙ take-take 4 begin image (omega (arith, behind))

  size_same : front_size (written image begin volume) ≡ front_size image
  unfolding front_size
  size_same =
      let count = long_same 20 (omega (arith, behind)) in
      let size = long_same 28 (omega (arith, behind)) in
      rw (count, size) refl

  front_same : has_front (written image begin volume) ≡ has_front image
  unfolding has_front
  front_same =
      let place = long_same 24 (omega (arith, behind)) in
      let whole = length-written image begin volume inside in
      rw (whole, letters_same, place, size_same) refl

  front_stays : part_in covers.TwoImg (written image begin volume) ≡ part_in covers.TwoImg image
  front_stays =
      let place = long_same 24 (omega (arith, behind)) in
      rw (front_same, place, size_same) refl

-- ---- DiskCopy 4.2

pub copy_facts : (image : List ℕ) → has_disk_copy image ≡ true
    → (84 ≤ length image) × (84 + high_long image 64 ≤ length image)
unfolding has_disk_copy
copy_facts image is =
    let a = and_parts (nat_le 84 (length image)) _ is in
    let b = and_parts (slice_index image 82 == 1) _ a.1 in
    let d = and_parts (slice_index image 83 == 0) _ b.1 in
    let e = and_parts (nat_lt 0 (high_long image 64)) _ d.1 in
    let long = leb-true 84 (length image) a.0 in
    let inside = leb-true (84 + (high_long image 64 + high_long image 68)) (length image) e.1 in
    (long, omega (arith, inside))

module _ (image volume sum : List ℕ) (four : length sum ≡ 4) (inside : 84 + length volume ≤ length image) where
  made : List ℕ
  made = written (written image 84 volume) 72 sum

  inner : length (written image 84 volume) ≡ length image
  inner = length-written image 84 volume inside

  room : 72 + length sum ≤ length (written image 84 volume)
  room = omega (arith, four, inner, inside)

  pub sealed_size : length (written (written image 84 volume) 72 sum) ≡ length image
  sealed_size = length-written (written image 84 volume) 72 sum room ∙ inner

  byte_below : (k : ℕ) → k < 72 → get_or (written (written image 84 volume) 72 sum) k 0 ≡ get_or image k 0
  byte_below k before = get_written_below (written image 84 volume) 72 sum k room before
      ∙ get_written_below image 84 volume k inside (omega (arith, before))

  byte_above : (k : ℕ) → 76 ≤ k → k < 84 → get_or (written (written image 84 volume) 72 sum) k 0 ≡ get_or image k 0
  byte_above k after before = get_written_above (written image 84 volume) 72 sum k room (omega (arith, four, after))
      ∙ get_written_below image 84 volume k inside before

  pub long_stays : (place : ℕ) → place + 4 ≤ 72 → high_long (written (written image 84 volume) 72 sum) place ≡ high_long image place
  long_stays place before =
      let a = byte_below place (omega (arith, before)) in
      let b = byte_below (place + 1) (omega (arith, before)) in
      let c = byte_below (place + 2) (omega (arith, before)) in
      let d = byte_below (place + 3) (omega (arith, before)) in
      rw (a, b, c, d) refl

  pub copy_same : has_disk_copy (written (written image 84 volume) 72 sum) ≡ has_disk_copy image
  unfolding has_disk_copy
  copy_same =
      let a = byte_above 82 (lit≤ tt) (lit< tt) in
      let b = byte_above 83 (lit≤ tt) (lit< tt) in
      let size = long_stays 64 (lit≤ tt) in
      let tags = long_stays 68 (lit≤ tt) in
      rw (sealed_size, a, b, size, tags) refl

  copy_stays : part_in covers.DiskCopy (written (written image 84 volume) 72 sum) ≡ part_in covers.DiskCopy image
  copy_stays =
      let size = long_stays 64 (lit≤ tt) in
      rw (copy_same, size) refl

  -- The volume is at offset 84.
  pub copy_there : slice_range (written (written image 84 volume) 72 sum) 84 (84 + length volume) ≡ volume
  copy_there = ap (take ((84 + length volume) - 84))
      (written_after (written image 84 volume) 72 sum 84 room (omega (arith, four)))
      ∙ written_there image 84 volume inside

  -- The checksum is at offset 72.
  pub sum_there : slice_range (written (written image 84 volume) 72 sum) 72 76 ≡ sum
  sum_there = ap (λ n. slice_range (written (written image 84 volume) 72 sum) 72 (72 + n)) (sym four)
      ∙ written_there (written image 84 volume) 72 sum room

-- ---- all covers

two_img_part : (image : List ℕ) (part : Part) → part_in covers.TwoImg image ≡ Some part
    → (52 ≤ part.begin) × (part.begin + part.size ≤ length image)
two_img_part image part = go (has_front image) refl
  where
    go : (b : Bool) → has_front image ≡ b
        → (if b then Some (record { begin = front_begin image; size = front_size image }) else None) ≡ Some part
        → (52 ≤ part.begin) × (part.begin + part.size ≤ length image)
    go false is e = cc
    go true is e =
        let facts = front_facts image is in
        let begin : part.begin ≡ front_begin image = cc in
        let size : part.size ≡ front_size image = cc in
        (omega (arith, begin, facts.1), omega (arith, begin, size, facts.3))

pub disk_copy_part : (image : List ℕ) (part : Part) → part_in covers.DiskCopy image ≡ Some part
    → (part.begin ≡ 84) × (part.size ≡ high_long image 64) × (84 + part.size ≤ length image) × (has_disk_copy image ≡ true)
disk_copy_part image part = go (has_disk_copy image) refl
  where
    go : (b : Bool) → has_disk_copy image ≡ b
        → (if b then Some (record { begin = 84; size = high_long image 64 }) else None) ≡ Some part
        → (part.begin ≡ 84) × (part.size ≡ high_long image 64) × (84 + part.size ≤ length image) × (has_disk_copy image ≡ true)
    go false is e = cc
    go true is e =
        let facts = copy_facts image is in
        let begin : part.begin ≡ 84 = cc in
        let size : part.size ≡ high_long image 64 = cc in
        (begin, size, omega (arith, size, facts.1), is)

bare_part : (image : List ℕ) (part : Part) → part_in covers.Bare image ≡ Some part
    → (part.begin ≡ 0) × (part.begin + part.size ≤ length image)
bare_part image part e =
    let begin : part.begin ≡ 0 = cc in
    let size : part.size ≡ bare_size (length image) = cc in
    (begin, go (length image == 143488) refl begin size)
  where
    go : (b : Bool) → (length image == 143488) ≡ b → part.begin ≡ 0 → part.size ≡ bare_size (length image)
        → part.begin + part.size ≤ length image
    go true is begin size =
        let same = eqb-true (length image) 143488 is in
        let less : bare_size (length image) ≡ 143360 = rw is refl in
        omega (arith, begin, size, same, less)
    go false is begin size =
        let less : bare_size (length image) ≡ length image = rw is refl in
        omega (arith, begin, size, less)

-- The volume is in the image.
pub part_inside : (cover : Cover) (image : List ℕ) (part : Part) → part_in cover image ≡ Some part
    → part.begin + part.size ≤ length image
part_inside covers.Bare image part is = (bare_part image part is).1
part_inside covers.TwoImg image part is = (two_img_part image part is).1
part_inside covers.DiskCopy image part is =
    let facts = disk_copy_part image part is in omega (arith, facts.0, facts.2)

module _ (image : List ℕ) (part : Part) (volume : List ℕ) (same : length volume ≡ part.size) where
  -- The image keeps its length.
  pub replaced_size : (cover : Cover) → part_in cover image ≡ Some part → length (replaced_at cover part volume image) ≡ length image
  replaced_size covers.Bare is =
      let inside = part_inside covers.Bare image part is in
      length-written image part.begin volume (omega (arith, same, inside))
  replaced_size covers.TwoImg is =
      let inside = part_inside covers.TwoImg image part is in
      length-written image part.begin volume (omega (arith, same, inside))
  replaced_size covers.DiskCopy is =
      let facts = disk_copy_part image part is in
      rw (facts.0) (sealed_size image volume (high_bytes (checksum volume)) refl (omega (arith, same, facts.2)))

  -- The position stays.
  pub replaced_part : (cover : Cover) → part_in cover image ≡ Some part
      → part_in cover (replaced_at cover part volume image) ≡ Some part
  replaced_part covers.Bare is =
      let whole = replaced_size covers.Bare is in
      ap (λ n. Some (record { begin = 0; size = bare_size n })) whole ∙ is
  replaced_part covers.TwoImg is =
      let facts = two_img_part image part is in
      front_stays image part.begin volume facts.0 (omega (arith, same, facts.1)) ∙ is
  replaced_part covers.DiskCopy is =
      let facts = disk_copy_part image part is in
      ap (λ begin. part_in covers.DiskCopy (written (written image begin volume) 72 (high_bytes (checksum volume)))) facts.0
      ∙ copy_stays image volume (high_bytes (checksum volume)) refl (omega (arith, same, facts.2)) ∙ is

  -- The new volume is at the position.
  pub replaced_bytes : (cover : Cover) → part_in cover image ≡ Some part
      → bytes_at part (replaced_at cover part volume image) ≡ volume
  replaced_bytes covers.Bare is =
      let inside = part_inside covers.Bare image part is in
      rw (← same) (written_there image part.begin volume (omega (arith, same, inside)))
  replaced_bytes covers.TwoImg is =
      let inside = part_inside covers.TwoImg image part is in
      rw (← same) (written_there image part.begin volume (omega (arith, same, inside)))
  replaced_bytes covers.DiskCopy is =
      let facts = disk_copy_part image part is in
      rw (facts.0, ← same) (copy_there image volume (high_bytes (checksum volume)) refl (omega (arith, same, facts.2)))
