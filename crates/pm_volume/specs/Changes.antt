-- How a change of a volume changes its image.
use Rattle.std.specs.Prelude.{◌≡◌, ◌==◌, ◌<◌, ◌&&◌, Bool, not, nat_le, is_some, ℕ, ◌+◌, ◌-◌, ◌*◌, ◌%◌, List, []}
use Rattle.std.specs.Prelude.{◌∷◌, ◌++◌, length, replicate, slice_index, slice_range, slice_set, Option, Some, None}
use Rattle.std.specs.Prelude.{Result, Ok, Err, if◌then◌else◌}
use Rattle.std.specs.List.{find, insert, list_any, position_from, remove}
use Rattle.std.specs.Option.{ok_or}
pub use Rattle.pm_bytes.specs.Blocks.{blocks_for}
use Rattle.pm_volume.specs.Copies.{and_second, mirrored}
use Rattle.pm_volume.specs.Directory.{block_count, directory_of, entries_from, entry_in, file_count, files_begin}
use Rattle.pm_volume.specs.Directory.{files_in}
use Rattle.pm_volume.specs.Files.{file_named, files_of, is_named}
use Rattle.pm_volume.specs.Stays.{Span, blocks_span, count_span, slots_span}
use Rattle.pm_volume.specs.Names.{is_new_name, name_field}
use Rattle.pm_volume.specs.Words.{with_word_in, written}
use Rattle.pm_volume.specs.declared.entry.Entry.{Entry}
use Rattle.pm_volume.specs.declared.fault.VolumeFault.{VolumeFault}
use Rattle.pm_volume.specs.declared.fault.VolumeFault.TheVariants.{BadName, DirectoryFull, Duplicate, NoFile, NoRoom}
use Rattle.pm_volume.specs.declared.gap.Gap.{Gap}
use Rattle.pm_volume.specs.declared.fields.TheConstants.{DIRECTORY, ENTRY_DATE, ENTRY_END, ENTRY_FIRST, ENTRY_KIND}
use Rattle.pm_volume.specs.declared.fields.TheConstants.{ENTRY_LAST_BYTES, ENTRY_NAME, HEADER_FILES, LONGEST_NAME}
use Rattle.pm_volume.specs.declared.fields.TheConstants.{MOST_FILES, SLOT}
use Rattle.pm_bytes.specs.declared.blocks.TheConstants.{BLOCK}

-- The image with the directory `directory` in blocks 2 to 5.
abbrev pub with_directory : List ℕ → List ℕ → List ℕ
with_directory image directory = written image DIRECTORY directory

-- The bytes of the slots of `directory` from `n` up to, but not including, `m`.
abbrev pub slots : List ℕ → ℕ → ℕ → List ℕ
slots directory n m = slice_range directory (SLOT * n) (SLOT * m)

-- The directory whose header states the number of files `count`.
abbrev pub with_file_count : List ℕ → ℕ → List ℕ
with_file_count directory count = with_word_in directory HEADER_FILES count

-- The 26 zero bytes of a slot without an entry.
unfoldable pub no_slot : List ℕ
no_slot = replicate SLOT 0

-- The directory with `slot` inserted as slot `n`. The slots from `n` on move up by one.
unfoldable pub with_slot : List ℕ → ℕ → List ℕ → List ℕ
with_slot directory n slot =
    let count = file_count directory in
    with_file_count (written directory (SLOT * n) (slot ++ slots directory n (count + 1))) (count + 1)

-- The directory with slot `n` removed. The slots after it move down by one, and the slot that becomes free is zero.
unfoldable pub without_slot : List ℕ → ℕ → List ℕ
without_slot directory n =
    let count = file_count directory in
    with_file_count (written directory (SLOT * n) (slots directory (n + 1) (count + 1) ++ no_slot)) (count - 1)

-- The 26 bytes of a slot with the entry `e`.
unfoldable pub entry_slot : Entry → List ℕ
entry_slot e =
    let begun = with_word_in
    (with_word_in (with_word_in no_slot ENTRY_FIRST e.first) ENTRY_END e.end) ENTRY_KIND e.kind in
    with_word_in (with_word_in (written begun ENTRY_NAME e.name) ENTRY_LAST_BYTES e.last_bytes) ENTRY_DATE e.date

-- The fields of the entry `e` fit into a slot.
pub record FitsSlot (e : Entry) : Type 0 where
  pub name : length e.name ≡ 16
  pub kind : e.kind < 16
  pub first : e.first < 65536
  pub end : e.end < 65536
  pub last_bytes : e.last_bytes < 65536
  pub date : e.date < 65536

-- The gaps of a volume of `blocks` blocks: one before each entry, and one after the last entry. `place` of a gap is the
-- slot for a file that is added in it. The first entry of the list is in slot `n`, and the files before it end before
-- block `from`.
unfoldable pub gaps : ℕ → ℕ → ℕ → List Entry → List Gap
gaps blocks n from [] = record { place = n; begin = from; end = blocks } ∷ []
gaps blocks n from (e ∷ es) = record { place = n; begin = from; end = e.first } ∷ gaps blocks (n + 1) e.end es

-- Is true if a file of `need` blocks may be put into the gap `g` of a directory with `count` files. A file without
-- blocks is only put into the gap after all files.
abbrev pub serves : ℕ → ℕ → Gap → Bool
serves need count g = if need == 0 then g.place == count + 1 else nat_le need (g.end - g.begin)

-- The lowest gap of `directory` for a new file of `need` blocks, or `None`.
abbrev pub gap_for : List ℕ → ℕ → Option Gap
gap_for directory need =
    find (serves need (file_count directory))
    (gaps (block_count directory) 1 (files_begin directory) (files_in directory))

-- The gap for a new file with the name `name` and `need` blocks, or the fault for which it cannot be added.
unfoldable pub place_for : List ℕ → List ℕ → ℕ → Result Gap VolumeFault
place_for image name need =
    if not (is_new_name LONGEST_NAME name) then Err BadName
    else (if is_some (file_named image name) then Err Duplicate
    else (if nat_le MOST_FILES (file_count (directory_of image)) then Err DirectoryFull
    else ok_or (gap_for (directory_of image) need) NoRoom))

-- The entry of a new file in the gap `g`, with `size` bytes.
abbrev pub new_entry : Gap → List ℕ → ℕ → ℕ → ℕ → Entry
new_entry g name kind size date =
    let need = blocks_for size in
    record {
      name = name_field LONGEST_NAME name;
      kind = kind % 16;
      first = g.begin;
      end = g.begin + need;
      last_bytes = BLOCK - (BLOCK * need - size);
      date = date;
    }

-- The image with a new file: the entry `e` in slot `n`, the bytes `bytes` in its blocks, and zeros up to the end of its
-- last block.
unfoldable pub with_file : List ℕ → ℕ → Entry → List ℕ → List ℕ
with_file image n e bytes =
    let begin = BLOCK * e.first in
    let listed = with_directory image (with_slot (directory_of image) n (entry_slot e)) in
    written (written listed begin bytes) (begin + length bytes)
    (replicate (BLOCK * blocks_for (length bytes) - length bytes) 0)

-- The image `new` is `old` with a new file. Its entry `e` is in the lowest gap that is large enough, and its bytes are
-- in the blocks of the entry. The list of files has the entry at the position of the gap.
pub record AddsFile (old new name : List ℕ) (kind : ℕ) (bytes : List ℕ) (date : ℕ) (e : Entry) : Type 0 where
  pub gap : Gap
  pub placed : place_for old name (blocks_for (length bytes)) ≡ Ok gap
  pub entry : e ≡ new_entry gap name kind (length bytes) date
  pub image : new ≡ mirrored (with_file old gap.place e bytes)
  pub files : files_of new ≡ insert (files_of old) (gap.place - 1) e

-- The bytes that change if a file with the entry `e` is added in the gap `g`: the number of files, the slots from that
-- of the new file to the last, the blocks of the new file, and the second copy of the directory.
abbrev pub added_spans : List ℕ → Gap → Entry → List Span
added_spans directory g e =
    and_second directory (count_span ∷ slots_span g.place (file_count directory + 2) ∷ blocks_span e ∷ [])

-- The image without the file in slot `n`. The blocks of the file keep their bytes.
abbrev pub without_file : List ℕ → ℕ → List ℕ
without_file image n = with_directory image (without_slot (directory_of image) n)

-- The slot of the first file with the name `name`, or `None`.
abbrev pub slot_named : List ℕ → List ℕ → Option ℕ
slot_named directory name = position_from (is_named name) 1 (files_in directory)

-- `n` if slot `n` of `directory` contains a file, and `None` otherwise.
abbrev pub slot_numbered : List ℕ → ℕ → Option ℕ
slot_numbered directory n = if nat_le 1 n && nat_le n (file_count directory) then Some n else None

-- The image `new` is `old` without the file in the slot `chosen`.
pub record RemovesFile (old new : List ℕ) (chosen : Option ℕ) : Type 0 where
  pub slot : ℕ
  pub found : chosen ≡ Some slot
  pub image : new ≡ mirrored (without_file old slot)
  pub files : files_of new ≡ remove (files_of old) (slot - 1)

-- The bytes that change if the file in slot `n` is removed: the number of files, the slots from `n` to that of the last
-- file, and the second copy of the directory.
abbrev pub removed_spans : List ℕ → ℕ → List Span
removed_spans directory n = and_second directory (count_span ∷ slots_span n (file_count directory + 1) ∷ [])

-- The entries of the files in all slots except `slot`.
abbrev pub files_beside : List ℕ → ℕ → List Entry
files_beside directory slot =
    entries_from directory 1 (slot - 1) ++ entries_from directory (slot + 1) (file_count directory - slot)

-- Is true if a file in a slot other than `slot` has the name `name`.
abbrev pub is_named_beside : List ℕ → ℕ → List ℕ → Bool
is_named_beside directory slot name = list_any (is_named name) (files_beside directory slot)

-- The slot of the file to be renamed to `new`, or the fault for which it cannot be renamed.
unfoldable pub slot_to_rename : List ℕ → Option ℕ → List ℕ → Result ℕ VolumeFault
slot_to_rename directory None new = Err NoFile
slot_to_rename directory (Some slot) new =
    if not (is_new_name LONGEST_NAME new) then Err BadName
    else (if is_named_beside directory slot new then Err Duplicate else Ok slot)

-- The image in which the file in slot `n` has the name `name`. Only the 16 bytes of the name field change.
abbrev pub with_name : List ℕ → ℕ → List ℕ → List ℕ
with_name image n name =
    with_directory image (written (directory_of image) (SLOT * n + ENTRY_NAME) (name_field LONGEST_NAME name))

-- The image `new` is `old` with the name `to` for the file in the slot `chosen`.
pub record RenamesFile (old new : List ℕ) (chosen : Option ℕ) (to : List ℕ) : Type 0 where
  pub slot : ℕ
  pub found : slot_to_rename (directory_of old) chosen to ≡ Ok slot
  pub image : new ≡ mirrored (with_name old slot to)
  pub files : files_of new
      ≡ slice_set (files_of old) (slot - 1)
      (record (entry_in (directory_of old) slot) { name = name_field LONGEST_NAME to })

-- The byte `byte` with its low four bits replaced by those of `kind`.
abbrev pub kind_byte : ℕ → ℕ → ℕ
kind_byte byte kind = byte - byte % 16 + kind % 16

-- The image in which the file in slot `n` has the kind `kind`. Only the low four bits of its kind word change.
abbrev pub with_kind : List ℕ → ℕ → ℕ → List ℕ
with_kind image n kind =
    let directory = directory_of image in
    let place = SLOT * n + ENTRY_KIND in
    with_directory image (written directory place (kind_byte (slice_index directory place) kind ∷ []))

-- The image `new` is `old` with the kind `kind` for the file in the slot `chosen`.
pub record SetsKind (old new : List ℕ) (chosen : Option ℕ) (kind : ℕ) : Type 0 where
  pub slot : ℕ
  pub found : chosen ≡ Some slot
  pub image : new ≡ mirrored (with_kind old slot kind)
  pub files : files_of new
      ≡ slice_set (files_of old) (slot - 1) (record (entry_in (directory_of old) slot) { kind = kind % 16 })
