-- If a file is added to a volume, then the result is a volume.
use Rattle.std.proofs.Common.{◌≡◌, ◌<◌, ◌≤◌, ◌⊎◌, inl, inr, ℕ, ◌+◌, ◌-◌, ◌*◌, ◌/◌, List, ◌∙◌, ap, refl, length, replicate, get_or, arith}
use Rattle.std.proofs.lemmas.List.{length-replicate, take_all}
use Rattle.pm_volume.specs.Changes.{blocks_for, entry_slot, with_directory, with_file, with_slot}
use Rattle.pm_volume.specs.Words.{written}
use Rattle.pm_volume.specs.Directory.{IsDirectory, IsVolume, directory_of}
use Rattle.pm_volume.specs.declared.entry.Entry.{Entry}
use Rattle.pm_volume.proofs.WrittenLaws.{get_written_above, get_written_below, get_written_in, length-written, same_parts}

module _ (image : List ℕ) (n : ℕ) (e : Entry) (bytes d : List ℕ) (long : 3072 ≤ length image)
    (made : d ≡ with_slot (directory_of image) n (entry_slot e)) (size : length d ≡ 2048) (after : 6 ≤ e.first)
    (room : 512 * e.first + 512 * blocks_for (length bytes) ≤ length image) where
  zeros : List ℕ
  zeros = replicate (512 * blocks_for (length bytes) - length bytes) 0

  length-zeros : length zeros ≡ 512 * blocks_for (length bytes) - length bytes
  unfolding zeros
  length-zeros = length-replicate {A = ℕ} (512 * blocks_for (length bytes) - length bytes) 0

  listed : List ℕ
  listed = with_directory image d

  length-listed : length listed ≡ length image
  unfolding listed
  length-listed = length-written image 1024 d (omega arith)

  filed : List ℕ
  filed = written listed (512 * e.first) bytes

  length-filed : length filed ≡ length image
  unfolding filed
  length-filed = length-written listed (512 * e.first) bytes (omega (arith, length-listed, room)) ∙ length-listed

  same_image : with_file image n e bytes ≡ written filed (512 * e.first + length bytes) zeros
  unfolding with_file filed listed zeros
  same_image = rw (← made) refl

  pub length-with_file : length (with_file image n e bytes) ≡ length image
  length-with_file =
      ap length same_image
      ∙ length-written filed (512 * e.first + length bytes) zeros (omega (arith, length-filed, length-zeros, room))
      ∙ length-filed

  -- The directory of the new image is the directory `d` that was written.
  pub directory-with_file : directory_of (with_file image n e bytes) ≡ d
  unfolding filed listed
  directory-with_file =
      same_parts (with_file image n e bytes) d 1024 0 2048 (omega (arith, length-with_file)) (omega arith) (λ k below.
      let at : (1024 + k) - 1024 ≡ 0 + k = omega arith in
      ap (λ (xs : List ℕ). get_or xs (1024 + k) 0) same_image
      ∙ get_written_below filed (512 * e.first + length bytes) zeros (1024 + k) (omega (arith, length-filed, length-zeros, room)) (omega arith)
      ∙ get_written_below listed (512 * e.first) bytes (1024 + k) (omega (arith, length-listed, room)) (omega arith)
      ∙ get_written_in image 1024 d (1024 + k) (omega arith) (omega arith) (omega arith)
      ∙ ap (λ (i : ℕ). get_or d i 0) at)
      ∙ take_all 2048 d (omega arith)

  pub IsVolume-with_file : IsVolume image → IsDirectory d (length image / 512) → IsVolume (with_file image n e bytes)
  IsVolume-with_file v listing = record {
    whole = rw length-with_file v.whole;
    long = rw length-with_file v.long;
    has_directory = rw (directory-with_file, length-with_file) listing;
  }

  -- Byte `k` of the blocks of the new file is byte `k` of its contents.
  pub file_byte : (k : ℕ) → k < length bytes → get_or (with_file image n e bytes) (512 * e.first + k) 0 ≡ get_or bytes (0 + k) 0
  unfolding filed
  file_byte k below =
      let at : (512 * e.first + k) - 512 * e.first ≡ 0 + k = omega arith in
      ap (λ (xs : List ℕ). get_or xs (512 * e.first + k) 0) same_image
      ∙ get_written_below filed (512 * e.first + length bytes) zeros (512 * e.first + k) (omega (arith, length-filed, length-zeros, room)) (omega arith)
      ∙ get_written_in listed (512 * e.first) bytes (512 * e.first + k) (omega (arith, length-listed, room)) (omega arith) (omega arith)
      ∙ ap (λ (i : ℕ). get_or bytes i 0) at

  -- A byte outside the blocks of the new file is the byte of the image before the contents were written.
  pub outside_file : (place : ℕ) → (place < 512 * e.first) ⊎ (512 * e.first + 512 * blocks_for (length bytes) ≤ place)
      → get_or (with_file image n e bytes) place 0 ≡ get_or (with_directory image d) place 0
  unfolding filed listed
  outside_file place (inl below) =
      ap (λ (xs : List ℕ). get_or xs place 0) same_image
      ∙ get_written_below filed (512 * e.first + length bytes) zeros place (omega (arith, length-filed, length-zeros, room)) (omega arith)
      ∙ get_written_below listed (512 * e.first) bytes place (omega (arith, length-listed, room)) below
  outside_file place (inr above) =
      ap (λ (xs : List ℕ). get_or xs place 0) same_image
      ∙ get_written_above filed (512 * e.first + length bytes) zeros place (omega (arith, length-filed, length-zeros, room)) (omega (arith, length-zeros))
      ∙ get_written_above listed (512 * e.first) bytes place (omega (arith, length-listed, room)) (omega arith)
