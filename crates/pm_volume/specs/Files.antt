-- The files of an image: their entries and their bytes.
use Rattle.std.specs.Prelude.{Bool, nat_le, ℕ, ◌+◌, ◌-◌, ◌*◌, List, [], length, slice_range, Option, Some, None}
use Rattle.std.specs.Prelude.{if◌then◌else◌}
use Rattle.std.specs.List.{find}
use Rattle.std.specs.Option.{unwrap_or}
use Rattle.pm_volume.specs.Directory.{directory_of, files_in}
use Rattle.pm_volume.specs.Names.{characters_of, is_same_name}
use Rattle.pm_volume.specs.declared.entry.Entry.{Entry}
use Rattle.pm_bytes.specs.declared.blocks.TheConstants.{BLOCK}

-- The entries of the files of `image`, in the order of their slots.
abbrev pub files_of : List ℕ → List Entry
files_of image = files_in (directory_of image)

-- Is true if the entry `e` has the name `name`. Case is ignored.
abbrev pub is_named : List ℕ → Entry → Bool
is_named name e = is_same_name (characters_of e.name) name

-- The entry of the first file with the name `name`, or `None`.
abbrev pub file_named : List ℕ → List ℕ → Option Entry
file_named image name = find (is_named name) (files_of image)

-- The bytes of the file of entry `e`: its blocks, but only the first `last_bytes` bytes of the last block. A file
-- without blocks has no bytes. The result is `None` if the bytes are not all in `image`.
unfoldable pub file_bytes : List ℕ → Entry → Option (List ℕ)
file_bytes image e =
    let end = BLOCK * (e.end - 1) + e.last_bytes in
    if nat_le e.end e.first then Some []
    else (if nat_le end (length image) then Some (slice_range image (BLOCK * e.first) end) else None)

-- The bytes of the file of the entry `e` in `image`, or no bytes if they are not all in `image`. If `image` is a volume
-- and `e` is the entry of one of its files, they are all in `image`.
abbrev pub bytes_of : List ℕ → Entry → List ℕ
bytes_of image e = unwrap_or (file_bytes image e) []
