-- Moving the files of a volume together. The free blocks are then one gap, if the volume has no bad blocks. Bad blocks
-- are not moved.
use Rattle.std.specs.Prelude.{◌≡◌, ◌==◌, ℕ, zero, suc, ◌+◌, ◌-◌, ◌*◌, List, [], ◌∷◌, if◌then◌else◌}
use Rattle.std.specs.List.{AllZip}
use Rattle.pm_volume.specs.Changes.{with_directory}
use Rattle.pm_volume.specs.Copies.{and_second, mirrored}
use Rattle.pm_volume.specs.Directory.{directory_of, entry_in, file_count, files_begin}
use Rattle.pm_volume.specs.Files.{file_bytes, files_of}
use Rattle.pm_volume.specs.Stays.{ChangesOnly, Span, blocks_of, blocks_span, places_span}
use Rattle.pm_volume.specs.Words.{with_word_in, written}
use Rattle.pm_volume.specs.declared.entry.Entry.{Entry}
use Rattle.pm_volume.specs.declared.fields.TheConstants.{ENTRY_END, SLOT}
use Rattle.pm_bytes.specs.declared.blocks.TheConstants.{BLOCK}
use Rattle.pm_volume.specs.declared.kinds.TheConstants.{BAD_BLOCKS}

-- The entry of the file of `e` after its blocks are moved to block `to`.
abbrev pub moved_entry : Entry → ℕ → Entry
moved_entry e to = record e { first = to; end = to + (e.end - e.first) }

-- The new first block of the file of entry `e`, if the file before it ends before block `from`. Bad blocks are not
-- moved.
abbrev pub new_place : ℕ → Entry → ℕ
new_place from e = if e.kind == BAD_BLOCKS then e.first else from

-- The entries of files after they are moved together. Each file is moved to the end of the file before it, and the
-- first file to block `from`. Bad blocks are not moved.
unfoldable pub packed : ℕ → List Entry → List Entry
packed from [] = []
packed from (e ∷ es) =
    let f = moved_entry e (new_place from e) in
    f ∷ packed f.end es

-- The bytes that change if files are moved together, where the list has their new entries and the first is in slot `n`.
-- They are the two block numbers of each entry, and the new blocks of each file.
unfoldable pub packed_spans : ℕ → List Entry → List Span
packed_spans n [] = []
packed_spans n (f ∷ fs) = places_span n ∷ blocks_span f ∷ packed_spans (n + 1) fs

-- The file of entry `e` in the image `old` has the same bytes as the file of entry `f` in the image `new`. This
-- includes the bytes of its last block after the end of the file.
pub record MovesFile (old new : List ℕ) (e f : Entry) : Type 0 where
  pub bytes : file_bytes new f ≡ file_bytes old e
  pub blocks : blocks_of new f ≡ blocks_of old e

-- The image `new` is the volume `old` after its files were moved together. All other bytes are unchanged, except for a
-- second copy of the directory.
pub record Krunches (old new : List ℕ) : Type 0 where
  pub files : files_of new ≡ packed (files_begin (directory_of old)) (files_of old)
  pub moved : AllZip (MovesFile old new) (files_of old) (files_of new)
  pub rest : ChangesOnly (and_second (directory_of old) (packed_spans 1 (files_of new))) old new

-- The definitions above describe the result of moving files together. Those below describe how the files are moved, one
-- after the other.

-- The directory with the block numbers `first` and `end` in slot `n`.
unfoldable pub with_places : List ℕ → ℕ → ℕ → ℕ → List ℕ
with_places directory n first end = with_word_in (with_word_in directory (SLOT * n) first) (SLOT * n + ENTRY_END) end

-- The image in which the file in slot `n`, with entry `e`, is moved to block `to`.
unfoldable pub with_moved : List ℕ → ℕ → Entry → ℕ → List ℕ
with_moved image n e to =
    with_directory (written image (BLOCK * to) (blocks_of image e))
    (with_places (directory_of image) n to (to + (e.end - e.first)))

-- The image after the files of a given number of slots, from slot `n` on, are moved together. The files before slot `n`
-- end before block `from`.
unfoldable pub packed_image : List ℕ → ℕ → ℕ → ℕ → List ℕ
packed_image image n from zero = image
packed_image image n from (suc left) =
    let e = entry_in (directory_of image) n in
    let to = new_place from e in
    packed_image (with_moved image n e to) (n + 1) (to + (e.end - e.first)) left

-- The image after all files are moved together. If it has a second copy of the directory, this copy equals the first.
abbrev pub krunched_image : List ℕ → List ℕ
krunched_image image =
    mirrored (packed_image image 1 (files_begin (directory_of image)) (file_count (directory_of image)))
