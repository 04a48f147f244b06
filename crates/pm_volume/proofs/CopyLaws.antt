-- Laws of images whose second copy of the directory was overwritten with the first.
use Rattle.std.proofs.Common.{◌≡◌, ◌==◌, ◌<◌, ◌≤◌, ◌⊎◌, ◌&&◌, true, false, leb, ℕ, ◌+◌, ◌-◌, ◌*◌, ◌/◌, List, [], ◌∷◌, ◌∙◌, ap, sym, refl, inl, inr, length}
use Rattle.std.proofs.Common.{get_or, arith}
use Rattle.std.proofs.lemmas.Bool.Decides.{nat_tests}
use Rattle.std.proofs.lemmas.List.{take_all}
use Rattle.std.proofs.lemmas.List.Elements.{All-head, All-tail, All-weaker}
use Rattle.std.specs.List.{All, AllZip}
use Rattle.pm_volume.specs.Copies.{HasCopies, CopiesStay, and_second, has_second, mirrored}
use Rattle.pm_volume.specs.Directory.{IsVolume, block_count, directory_of, files_begin, second_of}
use Rattle.pm_volume.specs.Files.{files_of}
use Rattle.pm_volume.specs.Stays.{ChangesOnly, IsOutside, FileStays, FilesStay, Span}
use Rattle.pm_volume.specs.Packing.{MovesFile}
use Rattle.pm_volume.specs.Words.{word_in, written}
use Rattle.pm_volume.specs.declared.copies.Copies.TheVariants.{Single, Same}
use Rattle.pm_volume.specs.declared.entry.Entry.{Entry}
use Rattle.pm_volume.proofs.DirectoryLaws.{past_directory}
use Rattle.pm_volume.proofs.StayLaws.{FileStays-from_outside, directory_byte, files_within}
use Rattle.pm_volume.proofs.OrderLaws.{IsWithin}
use Rattle.pm_volume.proofs.WrittenLaws.{get_written_above, get_written_below, get_written_in, length-directory, length-written, same_parts}

-- Facts about an image of at least ten blocks in which files begin at block 10.
module _ (m : List ℕ) (long : 5120 ≤ length m) (ten : files_begin (directory_of m) ≡ 10) where
  size : length (directory_of m) ≡ 2048
  size = length-directory m (omega (arith, long))

  said : has_second m ≡ true
  unfolding has_second
  said = grind (arith, nat_tests, long, ten)

  pub mirrored-ten : mirrored m ≡ written m 3072 (directory_of m)
  unfolding mirrored
  mirrored-ten = rw said refl

  length-ten : length (mirrored m) ≡ length m
  length-ten = ap length mirrored-ten ∙ length-written m 3072 (directory_of m) (omega (arith, size, long))

  -- If an offset is outside the second copy, then `mirrored` does not change its byte.
  outside-ten : (place : ℕ) → (place < 3072) ⊎ (5120 ≤ place) → get_or (mirrored m) place 0 ≡ get_or m place 0
  outside-ten place (inl below) =
      ap (λ (xs : List ℕ). get_or xs place 0) mirrored-ten ∙ get_written_below m 3072 (directory_of m) place (omega (arith, size, long)) below
  outside-ten place (inr above) =
      ap (λ (xs : List ℕ). get_or xs place 0) mirrored-ten ∙ get_written_above m 3072 (directory_of m) place (omega (arith, size, long))
      (omega (arith, size, above))

  directory-ten : directory_of (mirrored m) ≡ directory_of m
  directory-ten =
      same_parts (mirrored m) m 1024 1024 2048 (omega (arith, length-ten, long)) (omega (arith, long)) (λ k below. outside-ten (1024 + k) (inl (omega arith)))

  pub second-ten : second_of (mirrored m) ≡ directory_of m
  second-ten =
      same_parts (mirrored m) (directory_of m) 3072 0 2048 (omega (arith, length-ten, long)) (omega (arith, size)) (λ k below.
      let at : (3072 + k) - 3072 ≡ 0 + k = omega arith in
      ap (λ (xs : List ℕ). get_or xs (3072 + k) 0) mirrored-ten
      ∙ get_written_in m 3072 (directory_of m) (3072 + k) (omega (arith, size, long)) (omega arith) (omega (arith, size))
      ∙ ap (λ (i : ℕ). get_or (directory_of m) i 0) at)
      ∙ take_all 2048 (directory_of m) (omega (arith, size))

-- If files begin at block 6, then `mirrored` does not change the image.
pub mirrored-six : (m : List ℕ) → files_begin (directory_of m) ≡ 6 → mirrored m ≡ m
unfolding mirrored has_second
mirrored-six m six =
    let other : (files_begin (directory_of m) == 10) ≡ false = grind (arith, nat_tests, six) in
    rw (and_false m other) refl
  where
    and_false : (m : List ℕ) → (files_begin (directory_of m) == 10) ≡ false → (leb 5120 (length m) && (files_begin (directory_of m) == 10)) ≡ false
    and_false m other = grind (arith, nat_tests)

module _ (m : List ℕ) (v : IsVolume m) where
  past : 6 ≤ files_begin (directory_of m)
  past = past_directory (directory_of m) (length m / 512) v.has_directory

  room : 512 * files_begin (directory_of m) ≤ length m
  room = omega (arith, v.has_directory.holds_directory, v.has_directory.within, v.whole)

  ten_long : files_begin (directory_of m) ≡ 10 → 5120 ≤ length m
  ten_long ten = omega (arith, room, ten)

  -- The facts from here on hold if files begin at block 6, and also if they begin at block 10.
  pub length-mirrored : length (mirrored m) ≡ length m
  length-mirrored = cases v.has_directory.begins
    where
      cases : (files_begin (directory_of m) ≡ 6) ⊎ (files_begin (directory_of m) ≡ 10) → length (mirrored m) ≡ length m
      cases (inl six) = ap length (mirrored-six m six)
      cases (inr ten) = length-ten m (ten_long ten) ten

  pub directory-mirrored : directory_of (mirrored m) ≡ directory_of m
  directory-mirrored = cases v.has_directory.begins
    where
      cases : (files_begin (directory_of m) ≡ 6) ⊎ (files_begin (directory_of m) ≡ 10) → directory_of (mirrored m) ≡ directory_of m
      cases (inl six) = ap directory_of (mirrored-six m six)
      cases (inr ten) = directory-ten m (ten_long ten) ten

  -- If an offset is before the second copy, or in the blocks of files, then `mirrored` does not change its byte.
  pub mirrored_outside : (place : ℕ) → (place < 3072) ⊎ (512 * files_begin (directory_of m) ≤ place) → get_or (mirrored m) place 0 ≡ get_or m place 0
  mirrored_outside place side = cases v.has_directory.begins side
    where
      cases : (files_begin (directory_of m) ≡ 6) ⊎ (files_begin (directory_of m) ≡ 10) → (place < 3072) ⊎ (512 * files_begin (directory_of m) ≤ place)
          → get_or (mirrored m) place 0 ≡ get_or m place 0
      cases (inl six) out = ap (λ (xs : List ℕ). get_or xs place 0) (mirrored-six m six)
      cases (inr ten) (inl below) = outside-ten m (ten_long ten) ten place (inl below)
      cases (inr ten) (inr above) = outside-ten m (ten_long ten) ten place (inr (omega (arith, ten, above)))

  pub IsVolume-mirrored : IsVolume (mirrored m)
  IsVolume-mirrored = record {
    whole = rw length-mirrored v.whole;
    long = rw length-mirrored v.long;
    has_directory = rw (directory-mirrored, length-mirrored) v.has_directory;
  }

  pub files-mirrored : files_of (mirrored m) ≡ files_of m
  files-mirrored = rw directory-mirrored refl

  -- If a file begins after the copies of the directory, then `mirrored` does not change its bytes.
  pub FileStays-mirrored : (e : Entry) → files_begin (directory_of m) ≤ e.first → e.first ≤ e.end → 512 * e.end ≤ length m
      → (e.first < e.end → e.last_bytes ≤ 512) → FileStays m (mirrored m) e
  FileStays-mirrored e after ordered within one_block =
      FileStays-from_outside m (mirrored m) e length-mirrored within ordered one_block
      (λ place from to. mirrored_outside place (inr (omega (arith, after, from))))

  pub FilesStay-own : FilesStay m (mirrored m)
  FilesStay-own =
      All-weaker (IsWithin (files_begin (directory_of m)) (block_count (directory_of m))) (FileStays m (mirrored m))
      (λ e w. FileStays-mirrored e w.after w.ordered (omega (arith, w.within, v.has_directory.within, v.whole)) w.one_block) (files_of m) (files_within m v)

  pub HasCopies-same : files_begin (directory_of m) ≡ 10 → HasCopies (mirrored m) Same
  HasCopies-same ten = (rw directory-mirrored ten, second-ten m (ten_long ten) ten ∙ sym directory-mirrored)

  pub HasCopies-single : files_begin (directory_of m) ≡ 6 → HasCopies (mirrored m) Single
  HasCopies-single six = rw directory-mirrored six

pub FileStays-both : (old m new : List ℕ) (e : Entry) → FileStays old m e → FileStays m new e → FileStays old new e
FileStays-both old m new e left right = record { bytes = right.bytes ∙ left.bytes; blocks = right.blocks ∙ left.blocks }

-- Facts about a changed image `m` after its second copy is overwritten with its first.
module _ (spans : List Span) (old m : List ℕ) (u : IsVolume old) (v : IsVolume m) (same : files_begin (directory_of m) ≡ files_begin (directory_of old)) where
  pub CopiesStay-mirrored : CopiesStay old (mirrored m)
  CopiesStay-mirrored = record {
    single = λ six. HasCopies-single m v (same ∙ six);
    same = λ ten. HasCopies-same m v (same ∙ ten);
  }

  pub ChangesOnly-mirrored : ChangesOnly spans old m → ChangesOnly (and_second (directory_of old) spans) old (mirrored m)
  ChangesOnly-mirrored c = cases u.has_directory.begins
    where
      apart : (place : ℕ) → files_begin (directory_of m) ≡ 10 → (place < 3072) ⊎ (5120 ≤ place) → (place < 3072) ⊎ (512 * files_begin (directory_of m) ≤ place)
      apart place ten (inl below) = inl below
      apart place ten (inr above) = inr (omega (arith, ten, above))

      cases : (files_begin (directory_of old) ≡ 6) ⊎ (files_begin (directory_of old) ≡ 10) → ChangesOnly (and_second (directory_of old) spans) old (mirrored m)
      cases (inl six) =
          let other : (files_begin (directory_of old) == 10) ≡ false = grind (arith, nat_tests, six) in
          rw (other, mirrored-six m (same ∙ six)) c
      cases (inr ten) =
          let said : (files_begin (directory_of old) == 10) ≡ true = grind (arith, nat_tests, ten) in
          rw said (record {
            size = length-mirrored m v ∙ c.size;
            rest = λ place out. mirrored_outside m v place (apart place (same ∙ ten) out.0) ∙ c.rest place out.1;
          })

  pub FilesStay-mirrored : length m ≡ length old → FilesStay old m → FilesStay old (mirrored m)
  FilesStay-mirrored size stay = λ k e h.
      let w = files_within old u k e h in
      FileStays-both old m (mirrored m) _ (stay k e h)
      (FileStays-from_outside m (mirrored m) _ (length-mirrored m v) (omega (arith, w.within, u.has_directory.within, u.whole, size)) w.ordered w.one_block
      (λ place from to. mirrored_outside m v place (inr (omega (arith, w.after, from, same)))))

-- If a change does not write the word with the block at which files begin, then this block is the same after the
-- change.
pub begins-stay : (spans : List Span) (old m : List ℕ) → ChangesOnly spans old m → IsOutside 1026 spans → IsOutside 1027 spans
    → files_begin (directory_of m) ≡ files_begin (directory_of old)
unfolding word_in
begins-stay spans old m c low high =
    let at : (place : ℕ) → place < 2048 → get_or m (1024 + place) 0 ≡ get_or old (1024 + place) 0 →
    get_or (directory_of m) place 0 ≡ get_or (directory_of old) place 0 =
    λ place below e. directory_byte m place below ∙ e ∙ sym (directory_byte old place below) in
    rw (at 2 (omega arith) (c.rest 1026 low), at 3 (omega arith) (c.rest 1027 high)) refl

-- Facts about the image `new` after a change of the volume `old` whose last step overwrites the second copy with the
-- first: it is a volume, and its list of files is `list`.
pub record Changed (spans : List Span) (list : List Entry) (old new : List ℕ) : Type 0 where
  pub volume : IsVolume new
  pub files : files_of new ≡ list
  pub copies : CopiesStay old new
  pub stay : FilesStay old new
  pub only : ChangesOnly (and_second (directory_of old) spans) old new

pub Changed-mirrored : (spans : List Span) (list : List Entry) (old m : List ℕ) → IsVolume old → IsVolume m
    → files_begin (directory_of m) ≡ files_begin (directory_of old) → files_of m ≡ list → FilesStay old m → ChangesOnly spans old m
    → Changed spans list old (mirrored m)
Changed-mirrored spans list old m u v begins listed stay only = record {
  volume = IsVolume-mirrored m v;
  files = files-mirrored m v ∙ listed;
  copies = CopiesStay-mirrored spans old m u v begins;
  stay = FilesStay-mirrored spans old m u v begins only.size stay;
  only = ChangesOnly-mirrored spans old m u v begins only;
}

-- If files were moved, and the second copy is then overwritten with the first, then the files have the same bytes as
-- before the move.
pub moved-mirrored : (old m : List ℕ) (es fs : List Entry) → All (FileStays m (mirrored m)) fs → AllZip (MovesFile old m) es fs
    → AllZip (MovesFile old (mirrored m)) es fs
moved-mirrored old m [] [] stay zip = zip
moved-mirrored old m [] (f ∷ fs) stay zip = zip
moved-mirrored old m (e ∷ es) [] stay zip = zip
moved-mirrored old m (e ∷ es) (f ∷ fs) stay zip =
    let k = All-head (FileStays m (mirrored m)) f fs stay in (
      record { bytes = k.bytes ∙ zip.0.bytes; blocks = k.blocks ∙ zip.0.blocks },
      moved-mirrored old m es fs (All-tail (FileStays m (mirrored m)) f fs stay)
          zip.1,
    )
