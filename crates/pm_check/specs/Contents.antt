-- The contents of the files of a salvaged volume, stated without the steps that create the volume.
use Rattle.std.specs.Prelude.{ℕ, ◌%◌, ◌&&◌, Bool, nat_le, List, [], map, unwrap_or, if◌then◌else◌}
use Rattle.std.specs.List.{filter}
use Rattle.std.specs.List.Sorted.{IsPermutation}
use Rattle.pm_volume.specs.Directory.{directory_of, entries_from, second_of}
use Rattle.pm_volume.specs.Entries.{is_sound_entry}
use Rattle.pm_volume.specs.Files.{file_bytes, files_of}
use Rattle.pm_volume.specs.declared.entry.Entry.{Entry}
use Rattle.pm_volume.specs.declared.fields.TheConstants.{PAST_DIRECTORY, PAST_SECOND}
use Rattle.pm_check.specs.Saving.{image_blocks}
use Rattle.pm_check.specs.declared.believing.Taken.{Taken}

-- The contents of a file, without its name and its position on the volume.
pub record Content : Type 0 where
  pub kind : ℕ
  pub bytes : List ℕ
  pub date : ℕ

-- The contents of the file of the entry `e` in `image`. The kind of an entry that was read from a directory is below 16
-- already.
unfoldable pub content_in : List ℕ → Entry → Content
content_in image e = record { kind = e.kind % 16; bytes = unwrap_or (file_bytes image e) []; date = e.date }

-- The contents of all files of `volume`.
abbrev pub contents_of : List ℕ → List Content
contents_of volume = map (content_in volume) (files_of volume)

-- Is true if the entry `e` could be the first file of a volume of `blocks` blocks whose files begin at block `lowest`.
abbrev pub could_stand : ℕ → ℕ → Entry → Bool
could_stand lowest blocks e = is_sound_entry lowest e && nat_le e.end blocks

-- The entries in the 77 slots of the directory `d` that could be the first file of a volume of `blocks` blocks whose
-- files begin at block `lowest`.
unfoldable pub believed : List ℕ → ℕ → ℕ → List Entry
believed d lowest blocks = filter (could_stand lowest blocks) (entries_from d 1 77)

-- The entries of the second copy of the directory of `image` that could be the first file if `second` is true.
-- Otherwise the same for the first copy.
unfoldable pub believed_of : List ℕ → Bool → List Entry
believed_of image second =
    if second then believed (second_of image) PAST_SECOND (image_blocks image)
    else believed (directory_of image) PAST_DIRECTORY (image_blocks image)

-- The files of `volume` have, in some order, the contents of the files of `entries` in `image`. No file is missing, and
-- `volume` has no other file.
unfoldable pub HasFilesOf : List ℕ → List Entry → List ℕ → Type 0
HasFilesOf image entries volume = IsPermutation (map (content_in image) entries) (contents_of volume)

-- The entry of the copied file `t`.
abbrev pub entry_taken : Taken → Entry
entry_taken t = t.entry

abbrev pub entries_taken : List Taken → List Entry
entries_taken taken = map entry_taken taken

-- The contents of the files of `taken` in `image`.
abbrev pub contents_taken : List ℕ → List Taken → List Content
contents_taken image taken = map (content_in image) (entries_taken taken)
