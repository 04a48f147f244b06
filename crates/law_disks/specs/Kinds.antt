-- Laws of a file that was copied from another volume, and of a file whose kind was set. In comments, a *volume of
-- bytes* is a volume whose elements are all below 256. A name *gives* the bytes of the first file with this name, or
-- nothing if no file has the name. Upper and lower case of a name are equal.
use Rattle.std.specs.Prelude.{◌≡◌, ◌%◌, ℕ, List, Some, Ok, if◌then◌else◌}
use Rattle.pm_volume.specs.Directory.{IsVolume}
use Rattle.pm_volume.specs.Files.{file_named}
use Rattle.pm_volume.specs.Names.{is_same_name}
use Rattle.pm_volume.specs.declared.entry.Entry.{Entry}
use Rattle.pm_filer.specs.Filed.{Copy, CopySlot, Filed, Kind, bytes_of_file, file_in_slot, filed}
use Rattle.pm_filer.specs.Laws.{IsVolumeOfBytes, file_given}

-- After a successful `Copy` from a volume of bytes `from` to another volume of bytes, the name `name` gives what it
-- gives on `from`. Every other name gives what it gave before.
abbrev pub CopyIsGot : Type 0
CopyIsGot =
    (image name from : List ℕ) (f : Filed) → IsVolumeOfBytes image → IsVolumeOfBytes from
    → filed image (Copy name from) ≡ Ok f
    → (other : List ℕ) → file_given f.image other
    ≡ (if is_same_name name other then file_given from name else file_given image other)

-- The entries `one` and `other` have the same kind and the same date.
pub record AreAlike (one other : Entry) : Type 0 where
  pub kind : one.kind ≡ other.kind
  pub date : one.date ≡ other.date

-- After a successful `Copy`, the first file with the name `name` has the kind and the date of the first file with this
-- name on the volume `from`.
abbrev pub CopyKeepsKind : Type 0
CopyKeepsKind =
    (image name from : List ℕ) (f : Filed) → IsVolumeOfBytes image → IsVolumeOfBytes from
    → filed image (Copy name from) ≡ Ok f
    → (there here : Entry) → file_named from name ≡ Some there → file_named f.image name ≡ Some here
    → AreAlike here there

-- After a successful `CopySlot` from a volume of bytes `from` to another volume of bytes, the name `name` gives the bytes
-- of the file in the slot `slot` of `from`. Every other name gives what it gave before.
abbrev pub CopySlotIsGot : Type 0
CopySlotIsGot =
    (image name from : List ℕ) (slot : ℕ) (f : Filed) → IsVolumeOfBytes image → IsVolumeOfBytes from
    → filed image (CopySlot slot name from) ≡ Ok f
    → (other : List ℕ) → file_given f.image other
    ≡ (if is_same_name name other then bytes_of_file from (file_in_slot from slot) else file_given image other)

-- After a successful `CopySlot`, the first file with the name `name` has the kind and the date of the file in the slot
-- `slot` of the volume `from`.
abbrev pub CopySlotKeepsKind : Type 0
CopySlotKeepsKind =
    (image name from : List ℕ) (slot : ℕ) (f : Filed) → IsVolumeOfBytes image → IsVolumeOfBytes from
    → filed image (CopySlot slot name from) ≡ Ok f
    → (there here : Entry) → file_in_slot from slot ≡ Some there → file_named f.image name ≡ Some here
    → AreAlike here there

-- After a successful `Kind`, the first file with the name `name` has the kind `kind`, modulo 16, and its entry is
-- otherwise unchanged.
abbrev pub KindIsSet : Type 0
KindIsSet =
    (image name : List ℕ) (kind : ℕ) (f : Filed) → IsVolume image → filed image (Kind name kind) ≡ Ok f
    → (e : Entry) → file_named image name ≡ Some e
    → file_named f.image name ≡ Some (record e { kind = kind % 16 })

-- After a successful `Kind`, every name gives the bytes that it gave before.
abbrev pub KindKeepsNames : Type 0
KindKeepsNames =
    (image name : List ℕ) (kind : ℕ) (f : Filed) → IsVolume image → filed image (Kind name kind) ≡ Ok f
    → (other : List ℕ) → file_given f.image other ≡ file_given image other
