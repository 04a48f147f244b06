-- Laws of commands: which file a name selects before and after a command, which blocks a new file gets, and which slots
-- files have.
use Rattle.std.specs.Prelude.{◌≡◌, ◌≢◌, ◌⊎◌, ◌<◌, ◌≤◌, ◌+◌, ℕ, length, true, false, List, Option, Some, Ok, Err}
use Rattle.std.specs.Prelude.{if◌then◌else◌, ◌∷◌, ◌++◌, None}
use Rattle.std.specs.List.{All}
use Rattle.pm_volume.specs.Changes.{blocks_for}
use Rattle.pm_volume.specs.Directory.{IsVolume, block_count, directory_of, files_begin, files_in}
use Rattle.pm_volume.specs.Files.{file_named, files_of}
use Rattle.pm_volume.specs.Names.{is_same_name}
use Rattle.pm_volume.specs.Space.{free_blocks, largest_gap}
use Rattle.pm_volume.specs.declared.entry.Entry.{Entry}
use Rattle.pm_volume.specs.declared.fault.VolumeFault.TheVariants.{NoRoom}
use Rattle.pm_filer.specs.declared.fault.FilerFault.TheVariants.{Volume}
use Rattle.pm_textfile.specs.Writing.{completed}
use Rattle.pm_filer.specs.Filed.{Bytes, Filed, Order, Put, Remove, Change, GetText, PutText, Krunch, Date, Duplicate}
use Rattle.pm_filer.specs.Filed.{Single, bytes_of_file, file_in_slot, filed}

-- The bytes of the first file with the name `name`, or `None`.
abbrev pub file_given : List ℕ → List ℕ → Option (List ℕ)
file_given image name = bytes_of_file image (file_named image name)

-- `image` is a volume, and each item of the list is a byte.
pub record IsVolumeOfBytes (image : List ℕ) : Type 0 where
  pub volume : IsVolume image
  pub bytes : All (λ b. b < 256) image

-- If a file is added, then its name selects its bytes. Every other name selects the same bytes as before. Case is
-- ignored.
abbrev pub PutIsGot : Type 0
PutIsGot =
    (image name : List ℕ) (kind : ℕ) (bytes : List ℕ) (f : Filed) → IsVolumeOfBytes image →
    filed image (Put name kind bytes) ≡ Ok f
    → (other : List ℕ) → file_given f.image other ≡
    (if is_same_name name other then Some bytes else file_given image other)

-- If a text is added, then its name selects this text, with a line feed at the end of its last line. Case is ignored.
abbrev pub TextIsGot : Type 0
TextIsGot =
    (image name text : List ℕ) (f : Filed) → IsVolumeOfBytes image → filed image (PutText name text) ≡ Ok f
    → (other : List ℕ) → is_same_name name other ≡ true
    → filed f.image (GetText other) ≡ Ok (record { image = f.image; answer = Bytes (completed text) })

-- If a text is added, then every other name selects the same bytes as before.
abbrev pub TextKeepsOthers : Type 0
TextKeepsOthers =
    (image name text : List ℕ) (f : Filed) → IsVolumeOfBytes image → filed image (PutText name text) ≡ Ok f
    → (other : List ℕ) → is_same_name name other ≡ false → file_given f.image other ≡ file_given image other

-- If a file is renamed, then the new name selects the bytes that the old name selected before. Case is ignored.
abbrev pub NewNameGives : Type 0
NewNameGives =
    (image old new : List ℕ) (f : Filed) → IsVolume image → filed image (Change old new) ≡ Ok f
    → (other : List ℕ) → is_same_name new other ≡ true → file_given f.image other ≡ file_given image old

-- If a file is renamed, then every name other than the old and the new name selects the same bytes as before.
abbrev pub ChangeKeepsOthers : Type 0
ChangeKeepsOthers =
    (image old new : List ℕ) (f : Filed) → IsVolume image → filed image (Change old new) ≡ Ok f
    → (other : List ℕ) → is_same_name new other ≡ false → is_same_name old other ≡ false
    → file_given f.image other ≡ file_given image other

-- If a file is removed, then every other name selects the same bytes as before.
abbrev pub RemovalKeepsOthers : Type 0
RemovalKeepsOthers =
    (image name : List ℕ) (f : Filed) → IsVolume image → filed image (Remove name) ≡ Ok f
    → (other : List ℕ) → is_same_name name other ≡ false → file_given f.image other ≡ file_given image other

-- The command moves the files together, sets a date, or creates or removes a second copy of the directory.
pub data KeepsNames : Order → Type 0 where
  krunch : KeepsNames Krunch
  date : (year month day : ℕ) → KeepsNames (Date year month day)
  duplicate : KeepsNames Duplicate
  single : KeepsNames Single

-- If a command is one of those of `KeepsNames`, then every name selects the same bytes as before.
abbrev pub NamesAreKept : Type 0
NamesAreKept =
    (image : List ℕ) (order : Order) (f : Filed) → IsVolumeOfBytes image → KeepsNames order → filed image order ≡ Ok f
    → (name : List ℕ) → file_given f.image name ≡ file_given image name

-- The blocks from `begin` up to, but not including, `end` are free. They are among the blocks for files, and each file
-- ends before them or begins after them.
pub record AreFree (directory : List ℕ) (begin end : ℕ) : Type 0 where
  pub after : files_begin directory ≤ begin
  pub within : end ≤ block_count directory
  pub apart : All (λ e. (e.end ≤ begin) ⊎ (end ≤ e.first)) (files_in directory)

-- The file of the entry `e` is in the lowest `count` consecutive blocks that were free in `directory`.
pub record IsLowest (directory : List ℕ) (count : ℕ) (e : Entry) : Type 0 where
  pub blocks : e.end ≡ e.first + count
  pub free : AreFree directory e.first e.end
  pub lowest : (begin : ℕ) → AreFree directory begin (begin + count) → e.first ≤ begin

-- If a file with at least one byte is added, then it is in the lowest free blocks that can contain it.
abbrev pub PutIsLowest : Type 0
PutIsLowest =
    (image name : List ℕ) (kind : ℕ) (bytes : List ℕ) (f : Filed) → IsVolumeOfBytes image
    → filed image (Put name kind bytes) ≡ Ok f → 1 ≤ length bytes
    → (e : Entry) → file_named f.image name ≡ Some e → IsLowest (directory_of image) (blocks_for (length bytes)) e

-- If a file with at least one byte is refused with `NoRoom`, then no free blocks can contain it.
abbrev pub PutFindsRoom : Type 0
PutFindsRoom =
    (image name : List ℕ) (kind : ℕ) (bytes : List ℕ) → filed image (Put name kind bytes) ≡ Err (Volume NoRoom)
    → 1 ≤ length bytes
    → (begin : ℕ) → AreFree (directory_of image) begin (begin + blocks_for (length bytes)) → ⊥

-- Moving the files together (Krunch) does not change the number of free blocks.
abbrev pub KrunchKeepsFree : Type 0
KrunchKeepsFree =
    (image : List ℕ) (f : Filed) → IsVolumeOfBytes image → filed image Krunch ≡ Ok f
    → free_blocks f.image ≡ free_blocks image

-- If no file consists of bad blocks, then all free blocks are one gap after the files are moved together.
abbrev pub KrunchLeavesOneGap : Type 0
KrunchLeavesOneGap =
    (image : List ℕ) (f : Filed) → IsVolumeOfBytes image → filed image Krunch ≡ Ok f
    → All (λ (e : Entry). e.kind ≢ 1) (files_of image) → largest_gap f.image ≡ free_blocks f.image

-- The slot of a file is one more than the number of files before it in the list of files.
abbrev pub SlotsCountFiles : Type 0
SlotsCountFiles =
    (image : List ℕ) (before after : List Entry) (e : Entry) → files_of image ≡ before ++ e ∷ after
    → file_in_slot image (length before + 1) ≡ Some e

-- Slot 0, and each slot after that of the last file, has no file.
abbrev pub SlotsEnd : Type 0
SlotsEnd =
    (image : List ℕ) → (file_in_slot image 0 ≡ None)
    × ((slot : ℕ) → length (files_of image) < slot → file_in_slot image slot ≡ None)
