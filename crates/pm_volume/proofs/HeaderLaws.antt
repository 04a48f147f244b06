-- Laws of directories whose header is changed.
use Rattle.byteorder.specs.Endian.{little_bytes}
use Rattle.std.proofs.Common.{◌≡◌, ◌<◌, ◌≤◌, ◌⊎◌, inl, ℕ, ◌+◌, ◌-◌, ◌*◌, ◌/◌, ◌%◌, List, [], ◌∙◌, ap, refl, length, replicate, get_or, arith}
use Rattle.std.proofs.lemmas.List.{get_or-replicate, length-replicate}
use Rattle.pm_volume.specs.Changes.{with_directory}
use Rattle.pm_volume.specs.Directory.{IsDirectory, IsVolume, block_count, directory_of, entries_from, entry_in, file_count, files_begin, files_in}
use Rattle.pm_volume.specs.Entries.{AreInOrder, entry_of}
use Rattle.pm_volume.specs.Headers.{blank_image, last_date_of, new_directory}
use Rattle.pm_volume.specs.Files.{files_of}
use Rattle.pm_volume.specs.Names.{name_field}
use Rattle.pm_volume.specs.Words.{with_word_in, word_in, written, zeros}
use Rattle.pm_volume.proofs.ImageLaws.{IsVolume-from_directory, IsVolume-with, directory-with}
use Rattle.pm_volume.proofs.NameLaws.{length-name_field}
use Rattle.pm_volume.proofs.SlotChanges.{entries_from-same}
use Rattle.pm_volume.proofs.WrittenLaws.{get_written_above, get_written_below, get_written_in, length-directory, length-written, same_parts, word_in-above}
use Rattle.pm_volume.proofs.WrittenLaws.{word_in-below, word_in-written}

module _ (d : List ℕ) (i : ℕ) (ys : List ℕ) (room : i + length ys ≤ length d) where
  -- An entry before the written bytes is unchanged. The next law states the same for an entry after them.
  pub entry_in-before : (n : ℕ) → 26 * n + 26 ≤ i → entry_in (written d i ys) n ≡ entry_in d n
  entry_in-before n before =
      let same = length-written d i ys room in
      let size : 26 * n + 26 - 26 * n ≡ 26 = omega arith in
      ap entry_of (rw size (same_parts (written d i ys) d (26 * n) (26 * n) 26 (omega arith) (omega arith)
      (λ k below. get_written_below d i ys (26 * n + k) room (omega arith))))

  pub entry_in-behind : (n : ℕ) → i + length ys ≤ 26 * n → 26 * n + 26 ≤ length d → entry_in (written d i ys) n ≡ entry_in d n
  entry_in-behind n behind within =
      let same = length-written d i ys room in
      let size : 26 * n + 26 - 26 * n ≡ 26 = omega arith in
      ap entry_of (rw size (same_parts (written d i ys) d (26 * n) (26 * n) 26 (omega arith) (omega arith)
      (λ k below. get_written_above d i ys (26 * n + k) room (omega arith))))

module _ (d : List ℕ) (date : ℕ) (whole : length d ≡ 2048) where
  room : 20 + length (little_bytes 2 date) ≤ length d
  room = omega arith

  pub length-dated : length (with_word_in d 20 date) ≡ 2048
  length-dated = length-written d 20 (little_bytes 2 date) room ∙ whole

  -- If the last date is changed, the list of files is unchanged.
  pub files-dated : file_count d ≤ 77 → files_in (with_word_in d 20 date) ≡ files_in d
  files-dated few =
      let count : file_count (with_word_in d 20 date) ≡ file_count d = word_in-below d 20 (little_bytes 2 date) 16 room (omega arith) in
      ap (entries_from (with_word_in d 20 date) 1) count
      ∙ entries_from-same (with_word_in d 20 date) d (file_count d) 1 1 (λ k below.
      entry_in-behind d 20 (little_bytes 2 date) room (1 + k) (omega arith) (omega arith))

  pub IsDirectory-dated : (blocks : ℕ) → IsDirectory d blocks → IsDirectory (with_word_in d 20 date) blocks
  IsDirectory-dated blocks old =
      let name = get_written_below d 20 (little_bytes 2 date) 6 room (omega arith) in
      let begins = word_in-below d 20 (little_bytes 2 date) 2 room (omega arith) in
      let total = word_in-below d 20 (little_bytes 2 date) 14 room (omega arith) in
      let count = word_in-below d 20 (little_bytes 2 date) 16 room (omega arith) in
      record {
        named = omega (arith, name, old.named);
        short = omega (arith, name, old.short);
        begins = rw begins old.begins;
        holds_directory = omega (arith, total, begins, old.holds_directory);
        within = omega (arith, total, old.within);
        few = omega (arith, count, old.few);
        in_order = rw (total, begins, files-dated old.few) old.in_order;
      }

pub length-zeros : (n : ℕ) → length (zeros n) ≡ n
unfolding zeros
length-zeros n = length-replicate {A = ℕ} n 0

pub zeros-from_replicate : (n m : ℕ) → n ≡ m → replicate n 0 ≡ zeros m
unfolding zeros
zeros-from_replicate n m same = ap (λ (k : ℕ). replicate k 0) same

word_in-zeros : (n place : ℕ) → place + 2 ≤ n → word_in (zeros n) place ≡ 0
unfolding word_in zeros
word_in-zeros n place below =
    let low = get_or-replicate {A = ℕ} n place 0 0 (omega arith) in
    let high = get_or-replicate {A = ℕ} n (place + 1) 0 0 (omega arith) in
    rw (low, high) refl

-- Facts about a directory without files.
module _ (past : ℕ) (name : List ℕ) (blocks date : ℕ) (short : length name ≤ 7) where
  field : List ℕ
  field = name_field 7 name

  length-field : length field ≡ 8
  unfolding field
  length-field = length-name_field 7 name short

  d1 : List ℕ
  d1 = with_word_in (zeros 2048) 2 past

  d2 : List ℕ
  d2 = written d1 6 field

  d3 : List ℕ
  d3 = with_word_in d2 14 blocks

  d4 : List ℕ
  d4 = with_word_in d3 20 date

  r1 : 2 + length (little_bytes 2 past) ≤ length (zeros 2048)
  r1 = omega (arith, length-zeros 2048)

  l1 : length d1 ≡ 2048
  unfolding d1
  l1 = length-written (zeros 2048) 2 (little_bytes 2 past) r1 ∙ length-zeros 2048

  r2 : 6 + length field ≤ length d1
  r2 = omega (arith, l1, length-field)

  l2 : length d2 ≡ 2048
  unfolding d2
  l2 = length-written d1 6 field r2 ∙ l1

  r3 : 14 + length (little_bytes 2 blocks) ≤ length d2
  r3 = omega (arith, l2)

  l3 : length d3 ≡ 2048
  unfolding d3
  l3 = length-written d2 14 (little_bytes 2 blocks) r3 ∙ l2

  r4 : 20 + length (little_bytes 2 date) ≤ length d3
  r4 = omega (arith, l3)

  l4 : length d4 ≡ 2048
  unfolding d4
  l4 = length-written d3 20 (little_bytes 2 date) r4 ∙ l3

  pub length-new_directory : length (new_directory past name blocks date) ≡ 2048
  unfolding new_directory d1 d2 d3 d4 field
  length-new_directory = l4

  name_read : get_or d4 6 0 ≡ length name
  unfolding d2 d3 d4 field name_field
  name_read =
      get_written_below d3 20 (little_bytes 2 date) 6 r4 (omega arith)
      ∙ get_written_below d2 14 (little_bytes 2 blocks) 6 r3 (omega arith)
      ∙ get_written_in d1 6 field 6 r2 (omega arith) (omega (arith, length-field))

  past_read : past < 65536 → word_in d4 2 ≡ past
  unfolding d1 d2 d3 d4
  past_read fits =
      word_in-below d3 20 (little_bytes 2 date) 2 r4 (omega arith)
      ∙ word_in-below d2 14 (little_bytes 2 blocks) 2 r3 (omega arith)
      ∙ word_in-below d1 6 field 2 r2 (omega arith)
      ∙ word_in-written (zeros 2048) 2 past (omega (arith, length-zeros 2048)) fits

  pub begins-new : past < 65536 → files_begin (new_directory past name blocks date) ≡ past
  unfolding new_directory d1 d2 d3 d4 field
  begins-new fits = past_read fits

  blocks_read : blocks < 65536 → word_in d4 14 ≡ blocks
  unfolding d3 d4
  blocks_read fits =
      word_in-below d3 20 (little_bytes 2 date) 14 r4 (omega arith)
      ∙ word_in-written d2 14 blocks (omega (arith, l2)) fits

  count_read : word_in d4 16 ≡ 0
  unfolding d1 d2 d3 d4
  count_read =
      word_in-below d3 20 (little_bytes 2 date) 16 r4 (omega arith)
      ∙ word_in-above d2 14 (little_bytes 2 blocks) 16 r3 (omega arith)
      ∙ word_in-above d1 6 field 16 r2 (omega (arith, length-field))
      ∙ word_in-above (zeros 2048) 2 (little_bytes 2 past) 16 r1 (omega arith)
      ∙ word_in-zeros 2048 16 (omega arith)

  pub files-new_directory : files_in (new_directory past name blocks date) ≡ []
  unfolding new_directory d1 d2 d3 d4 field entries_from
  files-new_directory = ap (entries_from d4 1) count_read

  pub IsDirectory-new : (total : ℕ) → (past ≡ 6) ⊎ (past ≡ 10) → 1 ≤ length name → past ≤ blocks → blocks < 65536 → blocks ≤ total
      → IsDirectory (new_directory past name blocks date) total
  unfolding new_directory d1 d2 d3 d4 field AreInOrder
  IsDirectory-new total begins named some fits within = record {
    named = omega (arith, name_read, named);
    short = omega (arith, name_read, short);
    begins = rw (past_read (omega arith)) begins;
    holds_directory = omega (arith, past_read (omega arith), blocks_read fits);
    within = omega (arith, blocks_read fits);
    few = omega (arith, count_read);
    in_order = rw files-new_directory tt;
  }

-- The image with another last date, and the image with a new directory. In both, the second copy is not yet overwritten
-- with the first.
abbrev pub dated_first : List ℕ → ℕ → List ℕ
dated_first image date = with_directory image (with_word_in (directory_of image) 20 date)

abbrev pub zeroed_first : List ℕ → List ℕ → List ℕ
zeroed_first image name =
    let directory = directory_of image in
    with_directory image (new_directory (files_begin directory) name (block_count directory) (last_date_of directory))

module _ (image : List ℕ) (v : IsVolume image) where
  -- If the last date of a volume is changed, then the result is a volume.
  pub IsVolume-dated : (date : ℕ) → IsVolume (dated_first image date)
  IsVolume-dated date =
      let d = directory_of image in
      let whole = length-directory image v.long in
      IsVolume-with image (with_word_in d 20 date) v (length-dated d date whole) (IsDirectory-dated d date whole (length image / 512) v.has_directory)

  pub files-dated_first : (date : ℕ) → files_of (dated_first image date) ≡ files_of image
  files-dated_first date =
      let d = directory_of image in
      let whole = length-directory image v.long in
      ap files_in (directory-with image (with_word_in d 20 date) v.long (length-dated d date whole)) ∙ files-dated d date whole v.has_directory.few

  -- Facts about a volume whose files were all removed.
  module _ (name : List ℕ) (some : 1 ≤ length name) (short : length name ≤ 7) where
    pub IsVolume-zeroed : block_count (directory_of image) < 65536 → IsVolume (zeroed_first image name)
    IsVolume-zeroed fits =
        let d = directory_of image in
        let h = v.has_directory in
        IsVolume-with image (new_directory (files_begin d) name (block_count d) (last_date_of d)) v
        (length-new_directory (files_begin d) name (block_count d) (last_date_of d) short)
        (IsDirectory-new (files_begin d) name (block_count d) (last_date_of d) short (length image / 512) h.begins some h.holds_directory fits h.within)

    pub files-zeroed : files_of (zeroed_first image name) ≡ []
    files-zeroed =
        let d = directory_of image in
        ap files_in
        (directory-with image (new_directory (files_begin d) name (block_count d) (last_date_of d)) v.long
        (length-new_directory (files_begin d) name (block_count d) (last_date_of d) short))
        ∙ files-new_directory (files_begin d) name (block_count d) (last_date_of d) short

-- Facts about a new volume.
module _ (name : List ℕ) (blocks : ℕ) (some : 1 ≤ length name) (short : length name ≤ 7) (room : 6 ≤ blocks) where
  long : 3072 ≤ length (zeros (512 * blocks))
  long = omega (arith, length-zeros (512 * blocks))

  pub IsVolume-blank : blocks < 65536 → IsVolume (blank_image name blocks)
  IsVolume-blank fits =
      let whole : length (zeros (512 * blocks)) % 512 ≡ 0 = omega (arith, length-zeros (512 * blocks)) in
      let count : length (zeros (512 * blocks)) / 512 ≡ blocks = omega (arith, length-zeros (512 * blocks)) in
      IsVolume-from_directory (zeros (512 * blocks)) (new_directory 6 name blocks 0) whole long (length-new_directory 6 name blocks 0 short)
      (IsDirectory-new 6 name blocks 0 short (length (zeros (512 * blocks)) / 512) (inl refl) some room fits (omega (arith, count)))

  pub files-blank : files_of (blank_image name blocks) ≡ []
  files-blank =
      ap files_in (directory-with (zeros (512 * blocks)) (new_directory 6 name blocks 0) long (length-new_directory 6 name blocks 0 short))
      ∙ files-new_directory 6 name blocks 0 short

  pub begins-blank : files_begin (directory_of (blank_image name blocks)) ≡ 6
  begins-blank =
      ap files_begin (directory-with (zeros (512 * blocks)) (new_directory 6 name blocks 0) long (length-new_directory 6 name blocks 0 short))
      ∙ begins-new 6 name blocks 0 short (omega arith)
