-- Laws of directories in which the block at which files begin is changed.
use Rattle.byteorder.specs.Endian.{little_bytes}
use Rattle.std.proofs.Common.{◌≡◌, ◌<◌, ◌≤◌, ◌⊎◌, ltb, false, true, ℕ, ◌+◌, ◌-◌, ◌/◌, List, [], ◌∷◌, ◌∙◌, ◌==◌, leb, ap, inl, inr, length, arith}
use Rattle.std.proofs.lemmas.Bool.{and_parts, eqb-true, ltb-false, or_parts}
use Rattle.std.proofs.lemmas.Bool.Decides.{nat_tests}
use Rattle.std.specs.List.{All, list_any}
use Rattle.pm_volume.specs.Copies.{has_second}
use Rattle.pm_volume.specs.Directory.{IsDirectory, IsVolume, block_count, directory_of, entries_from, file_count, files_begin, files_in}
use Rattle.pm_volume.specs.Entries.{AreInOrder}
use Rattle.pm_volume.specs.Files.{files_of}
use Rattle.pm_volume.specs.Stays.{ChangesOnly, FileStays, FilesStay, past_span, second_span}
use Rattle.pm_volume.specs.Made.{begun_at}
use Rattle.pm_volume.specs.Words.{with_word_in}
use Rattle.pm_volume.specs.declared.entry.Entry.{Entry}
use Rattle.pm_volume.proofs.CopyLaws.{FileStays-both}
use Rattle.pm_volume.proofs.HeaderLaws.{entry_in-behind}
use Rattle.pm_volume.proofs.ImageLaws.{IsVolume-with, directory-with}
use Rattle.pm_volume.proofs.StayLaws.{ChangesOnly-with_directory, FilesStay-with_directory}
use Rattle.pm_volume.proofs.OrderLaws.{IsSound-later}
use Rattle.pm_volume.proofs.SlotChanges.{entries_from-same}
use Rattle.pm_volume.proofs.WrittenLaws.{get_written_above, get_written_outside, length-directory, length-written, shifted, word_in-above, word_in-written}

-- Facts about a directory in which files begin at block `past`.
module _ (d : List ℕ) (past : ℕ) (whole : length d ≡ 2048) where
  room : 2 + length (little_bytes 2 past) ≤ length d
  room = omega (arith, whole)

  pub length-begun : length (with_word_in d 2 past) ≡ 2048
  length-begun = length-written d 2 (little_bytes 2 past) room ∙ whole

  files-begun : file_count d ≤ 77 → files_in (with_word_in d 2 past) ≡ files_in d
  files-begun few =
      let count : file_count (with_word_in d 2 past) ≡ file_count d = word_in-above d 2 (little_bytes 2 past) 16 room (omega arith) in
      ap (entries_from (with_word_in d 2 past) 1) count
      ∙ entries_from-same (with_word_in d 2 past) d (file_count d) 1 1
      (λ k below. entry_in-behind d 2 (little_bytes 2 past) room (1 + k) (omega arith) (omega (arith, whole)))

  begins-begun : past < 65536 → files_begin (with_word_in d 2 past) ≡ past
  begins-begun fits = word_in-written d 2 past (omega (arith, whole)) fits

  IsDirectory-begun : (blocks : ℕ) → (past ≡ 6) ⊎ (past ≡ 10) → past < 65536 → past ≤ block_count d → AreInOrder (block_count d) past (files_in d) →
      IsDirectory d blocks
      → IsDirectory (with_word_in d 2 past) blocks
  IsDirectory-begun blocks begins fits holds order old =
      let name = get_written_above d 2 (little_bytes 2 past) 6 room (omega arith) in
      let total = word_in-above d 2 (little_bytes 2 past) 14 room (omega arith) in
      let count = word_in-above d 2 (little_bytes 2 past) 16 room (omega arith) in
      record {
        named = omega (arith, name, old.named);
        short = omega (arith, name, old.short);
        begins = rw (begins-begun fits) begins;
        holds_directory = omega (arith, begins-begun fits, total, holds);
        within = omega (arith, total, old.within);
        few = omega (arith, count, old.few);
        in_order = rw (total, begins-begun fits, files-begun old.few) order;
      }

module _ (image : List ℕ) (v : IsVolume image) (past : ℕ) (begins : (past ≡ 6) ⊎ (past ≡ 10)) (fits : past < 65536)
    (holds : past ≤ block_count (directory_of image))
    (order : AreInOrder (block_count (directory_of image)) past (files_of image)) where
  size : length (with_word_in (directory_of image) 2 past) ≡ 2048
  size = length-begun (directory_of image) past (length-directory image v.long)

  own : directory_of (begun_at image past) ≡ with_word_in (directory_of image) 2 past
  own = directory-with image (with_word_in (directory_of image) 2 past) v.long size

  pub begins-image : files_begin (directory_of (begun_at image past)) ≡ past
  begins-image = ap files_begin own ∙ begins-begun (directory_of image) past (length-directory image v.long) fits

  pub IsVolume-begun : IsVolume (begun_at image past)
  IsVolume-begun =
      let d = directory_of image in
      IsVolume-with image (with_word_in d 2 past) v size
      (IsDirectory-begun d past (length-directory image v.long) (length image / 512) begins fits holds order v.has_directory)

  pub files-image : files_of (begun_at image past) ≡ files_of image
  files-image = ap files_in own ∙ files-begun (directory_of image) past (length-directory image v.long) v.has_directory.few

  pub FilesStay-begun : FilesStay image (begun_at image past)
  FilesStay-begun = FilesStay-with_directory image (with_word_in (directory_of image) 2 past) v size

  pub ChangesOnly-begun : ChangesOnly (past_span ∷ []) image (begun_at image past)
  ChangesOnly-begun =
      ChangesOnly-with_directory image (with_word_in (directory_of image) 2 past) (past_span ∷ []) v.long size
      (λ place out from to. get_written_outside (directory_of image) 2 (little_bytes 2 past) (place - 1024) (omega (arith, length-directory image v.long))
      (shifted 1024 2 4 place from out.0))

-- Facts about the image `new` after a second copy is added to or removed from the volume `old`.
pub record Recopied (old new : List ℕ) : Type 0 where
  pub volume : IsVolume new
  pub files : files_of new ≡ files_of old
  pub stay : FilesStay old new
  pub only : ChangesOnly (past_span ∷ second_span ∷ []) old new

-- If files are in order, and none of them begins before block 10, then they are in order from block 10 on.
pub order-free : (blocks from : ℕ) (es : List Entry) → AreInOrder blocks from es → list_any (λ (e : Entry). ltb e.first 10) es ≡ false → AreInOrder blocks 10 es
unfolding AreInOrder
order-free blocks from [] order free = tt
order-free blocks from (e ∷ es) order free =
    let first = or_parts (ltb e.first 10) (list_any (λ (x : Entry). ltb x.first 10) es) free in
    (IsSound-later from 10 e (ltb-false e.first 10 first.0) order.0, order.1, order.2)

pub both_stay : (old m new : List ℕ) (es : List Entry) → All (FileStays old m) es → All (FileStays m new) es → All (FileStays old new) es
both_stay old m new es left right = λ k e h. FileStays-both old m new _ (left k e h) (right k e h)

-- If a volume has a second copy, then its files begin at block 10.
pub second_said : (image : List ℕ) → IsVolume image → has_second image ≡ true → files_begin (directory_of image) ≡ 10
unfolding has_second
second_said image v said = eqb-true _ _ (and_parts (leb 5120 (length image)) (files_begin (directory_of image) == 10) said).1

second_ten : (image : List ℕ) → IsVolume image → files_begin (directory_of image) ≡ 10 → has_second image ≡ true
unfolding has_second
second_ten image v ten =
    let long : 5120 ≤ length image = omega (arith, ten, v.has_directory.holds_directory, v.has_directory.within, v.whole) in
    grind (arith, nat_tests, long, ten)

pub second_unsaid : (image : List ℕ) → IsVolume image → has_second image ≡ false → files_begin (directory_of image) ≡ 6
second_unsaid image v none = cases v.has_directory.begins
  where
    cases : (files_begin (directory_of image) ≡ 6) ⊎ (files_begin (directory_of image) ≡ 10) → files_begin (directory_of image) ≡ 6
    cases (inl six) = six
    cases (inr ten) = let said = second_ten image v ten in cc
