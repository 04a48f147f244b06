-- Laws that state which refusal a command or an image has if several conditions hold: the first refusal in a fixed
-- order.
use Rattle.std.specs.Prelude.{◌≡◌, ◌≢◌, ◌<◌, ◌≤◌, ◌⊎◌, ◌+◌, ◌/◌, ◌%◌, ℕ, true, false, List, [], ◌∷◌, ◌++◌, length}
use Rattle.std.specs.Prelude.{Some, None, Result, Err, IsOk}
use Rattle.pm_volume.specs.Changes.{slot_named, is_named_beside}
use Rattle.pm_volume.specs.Directory.{block_count, directory_fault, directory_of, file_count, files_begin, files_in}
use Rattle.pm_volume.specs.Directory.{image_fault, is_header, is_second_good}
use Rattle.pm_volume.specs.Entries.{AreInOrder, entries_fault, is_sound_entry}
use Rattle.pm_volume.specs.Faults.{number_of}
use Rattle.pm_volume.specs.Files.{file_named, files_of}
use Rattle.pm_volume.specs.Names.{is_new_name}
use Rattle.pm_volume.specs.declared.entry.Entry.{Entry}
use Rattle.pm_volume.specs.declared.fault.VolumeFault.{VolumeFault}
use Rattle.pm_volume.specs.declared.fault.VolumeFault.TheVariants.{NotBlocks, TooShort, BadHeader, BadEntry}
use Rattle.pm_volume.specs.declared.fault.VolumeFault.TheVariants.{TooManyFiles, PastEnd, NoRoom, DirectoryFull}
use Rattle.pm_volume.specs.declared.fault.VolumeFault.TheVariants.{Duplicate, BadName, NoFile, FirstCopyBad, Occupied}
use Rattle.pm_filer.specs.Filed.{Filed, Put, Change, filed}
use Rattle.pm_filer.specs.Filed as order
use Rattle.pm_filer.specs.declared.fault.FilerFault.{FilerFault}
use Rattle.pm_filer.specs.declared.fault.FilerFault.TheVariants.{Volume}

-- Is true if `outcome` is the refusal with the fault `fault` of the volume.
abbrev pub IsRefused : VolumeFault → Result Filed FilerFault → Type 0
IsRefused fault outcome = outcome ≡ Err (Volume fault)

-- ---- changes

-- `outcome` is the outcome of a `Put`. Its refusals are checked in this order: the name is invalid; a file has the
-- name; the volume has at least 77 files; no range of free blocks is large enough.
pub record PutTellsFirst (image name : List ℕ) (outcome : Result Filed FilerFault) : Type 0 where
  pub bad_name : is_new_name 15 name ≡ false → IsRefused BadName outcome
  pub there : is_new_name 15 name ≡ true → (e : Entry) → file_named image name ≡ Some e → IsRefused Duplicate outcome
  pub full : is_new_name 15 name ≡ true → file_named image name ≡ None → 77 ≤ file_count (directory_of image)
      → IsRefused DirectoryFull outcome
  pub room : is_new_name 15 name ≡ true → file_named image name ≡ None → file_count (directory_of image) < 77
      → IsRefused NoRoom outcome ⊎ IsOk outcome

abbrev pub PutsTellFirst : Type 0
PutsTellFirst =
    (image name : List ℕ) (kind : ℕ) (bytes : List ℕ) → PutTellsFirst image name (filed image (Put name kind bytes))

-- `outcome` is the outcome of a `Change`. Its refusals are checked in this order: no file has the old name; the new
-- name is invalid; another file has the new name.
pub record ChangeTellsFirst (image old new : List ℕ) (outcome : Result Filed FilerFault) : Type 0 where
  pub no_file : slot_named (directory_of image) old ≡ None → IsRefused NoFile outcome
  pub bad_name : (slot : ℕ) → slot_named (directory_of image) old ≡ Some slot → is_new_name 15 new ≡ false
      → IsRefused BadName outcome
  pub there : (slot : ℕ) → slot_named (directory_of image) old ≡ Some slot → is_new_name 15 new ≡ true
      → is_named_beside (directory_of image) slot new ≡ true → IsRefused Duplicate outcome
  pub done : (slot : ℕ) → slot_named (directory_of image) old ≡ Some slot → is_new_name 15 new ≡ true
      → is_named_beside (directory_of image) slot new ≡ false → IsOk outcome

abbrev pub ChangesTellFirst : Type 0
ChangesTellFirst = (image old new : List ℕ) → ChangeTellsFirst image old new (filed image (Change old new))

-- `outcome` is the outcome of a `Duplicate`. Its refusals are checked in this order: the volume has fewer than 10
-- blocks; a file begins before block 10.
pub record DoublingTells (image : List ℕ) (outcome : Result Filed FilerFault) : Type 0 where
  pub small : block_count (directory_of image) < 10 → IsRefused BadHeader outcome
  pub occupied : 10 ≤ block_count (directory_of image) → (good : List Entry) (e : Entry) (rest : List Entry)
      → files_of image ≡ good ++ e ∷ rest → e.first < 10 → IsRefused Occupied outcome

abbrev pub DoublingTellsFirst : Type 0
DoublingTellsFirst = (image : List ℕ) → DoublingTells image (filed image order.Duplicate)

-- ---- directories and images

-- Returns the block after the last of the files, or `from` if the list is empty.
abbrev pub end_of : ℕ → List Entry → ℕ
end_of from [] = from
end_of from (e ∷ es) = end_of e.end es

-- States the fault of the entry `e`, which follows the valid entries `good`. The conditions are checked in this order:
-- the entry is not sound; the entry ends after the last block of the volume.
pub record EntryTellsFirst (blocks n from : ℕ) (good : List Entry) (e : Entry) (rest : List Entry) : Type 0 where
  pub unsound : is_sound_entry (end_of from good) e ≡ false
      → entries_fault blocks n from (good ++ e ∷ rest) ≡ Some (BadEntry (n + length good))
  pub past_end : is_sound_entry (end_of from good) e ≡ true → blocks < e.end
      → entries_fault blocks n from (good ++ e ∷ rest) ≡ Some PastEnd

abbrev pub EntriesTellFirst : Type 0
EntriesTellFirst =
    (blocks n from : ℕ) (good : List Entry) (e : Entry) (rest : List Entry) → AreInOrder blocks from good
    → EntryTellsFirst blocks n from good e rest

-- States the fault of a directory in an image of `blocks` blocks. The conditions are checked in this order: the header
-- is not sound; the directory states more blocks than the image has; it states more than 77 files; its entries have a
-- fault.
pub record DirectoryTellsFirst (directory : List ℕ) (blocks : ℕ) : Type 0 where
  pub header : is_header directory ≡ false → directory_fault directory blocks ≡ Some BadHeader
  pub past_end : is_header directory ≡ true → blocks < block_count directory
      → directory_fault directory blocks ≡ Some PastEnd
  pub many : is_header directory ≡ true → block_count directory ≤ blocks → 77 < file_count directory
      → directory_fault directory blocks ≡ Some TooManyFiles
  pub entries : is_header directory ≡ true → block_count directory ≤ blocks → file_count directory ≤ 77
      → directory_fault directory blocks
      ≡ entries_fault (block_count directory) 1 (files_begin directory) (files_in directory)

abbrev pub DirectoriesTellFirst : Type 0
DirectoriesTellFirst = (directory : List ℕ) (blocks : ℕ) → DirectoryTellsFirst directory blocks

-- The fault of an image, in the order of the checks: its length is not a multiple of 512; it has fewer than 6 blocks;
-- the first copy of its directory has a fault. If the second copy is valid, that fault is given as `FirstCopyBad` with
-- its number, otherwise as itself.
pub record ImageTellsFirst (image : List ℕ) : Type 0 where
  pub part : length image % 512 ≢ 0 → image_fault image ≡ Some NotBlocks
  pub short : length image % 512 ≡ 0 → length image < 3072 → image_fault image ≡ Some TooShort
  pub alone : length image % 512 ≡ 0 → 3072 ≤ length image → is_second_good image ≡ false
      → image_fault image ≡ directory_fault (directory_of image) (length image / 512)
  pub beside : length image % 512 ≡ 0 → 3072 ≤ length image → is_second_good image ≡ true → (fault : VolumeFault)
      → directory_fault (directory_of image) (length image / 512) ≡ Some fault
      → image_fault image ≡ Some (FirstCopyBad (number_of fault))
  pub sound : length image % 512 ≡ 0 → 3072 ≤ length image
      → directory_fault (directory_of image) (length image / 512) ≡ None → image_fault image ≡ None

abbrev pub ImagesTellFirst : Type 0
ImagesTellFirst = (image : List ℕ) → ImageTellsFirst image
