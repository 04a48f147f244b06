-- What remains unchanged in an image when the volume in it is changed.
use Rattle.std.specs.Prelude.{◌≡◌, ◌<◌, ◌≤◌, ◌⊎◌, ℕ, ◌+◌, ◌*◌, List, [], ◌∷◌, length, slice_index, slice_range}
use Rattle.std.specs.List.{All}
use Rattle.pm_volume.specs.Files.{file_bytes, files_of}
use Rattle.pm_volume.specs.declared.entry.Entry.{Entry}
use Rattle.pm_volume.specs.declared.fields.TheConstants.{DIRECTORY, DIRECTORY_END, ENTRY_KIND, ENTRY_LAST_BYTES}
use Rattle.pm_volume.specs.declared.fields.TheConstants.{ENTRY_NAME, HEADER_DATE, HEADER_FILES, HEADER_FILES_BEGIN}
use Rattle.pm_volume.specs.declared.fields.TheConstants.{SECOND, SECOND_END, SLOT}
use Rattle.pm_bytes.specs.declared.blocks.TheConstants.{BLOCK}

-- The bytes of all blocks of the file of entry `e` in `image`.
abbrev pub blocks_of : List ℕ → Entry → List ℕ
blocks_of image e = slice_range image (BLOCK * e.first) (BLOCK * e.end)

-- The file of entry `e` has the same bytes in the images `old` and `new`. This includes the bytes of its last block
-- after the end of the file.
pub record FileStays (old new : List ℕ) (e : Entry) : Type 0 where
  pub bytes : file_bytes new e ≡ file_bytes old e
  pub blocks : blocks_of new e ≡ blocks_of old e

-- Each file of the image `old` has the same bytes in the same blocks of the image `new`.
abbrev pub FilesStay : List ℕ → List ℕ → Type 0
FilesStay old new = All (FileStays old new) (files_of old)

-- The bytes of an image from offset `begin` up to, but not including, offset `end`.
pub record Span : Type 0 where
  pub begin : ℕ
  pub end : ℕ

-- The offset `place` is outside all spans of the list.
abbrev pub IsOutside : ℕ → List Span → Type 0
IsOutside place [] = Unit {0}
IsOutside place (s ∷ ss) = ((place < s.begin) ⊎ (s.end ≤ place)) × IsOutside place ss

-- The images `old` and `new` have the same length, and differ at most in the bytes of `spans`.
pub record ChangesOnly (spans : List Span) (old new : List ℕ) : Type 0 where
  pub size : length new ≡ length old
  pub rest : (place : ℕ) → IsOutside place spans → slice_index new place ≡ slice_index old place

-- The bytes of the header's word with the block at which files begin.
abbrev pub past_span : Span
past_span = record { begin = DIRECTORY + HEADER_FILES_BEGIN; end = DIRECTORY + HEADER_FILES_BEGIN + 2 }

-- The bytes of the header's word with the number of files.
abbrev pub count_span : Span
count_span = record { begin = DIRECTORY + HEADER_FILES; end = DIRECTORY + HEADER_FILES + 2 }

-- The bytes of the header's word with the last date.
abbrev pub date_span : Span
date_span = record { begin = DIRECTORY + HEADER_DATE; end = DIRECTORY + HEADER_DATE + 2 }

-- The bytes of the whole directory.
abbrev pub directory_span : Span
directory_span = record { begin = DIRECTORY; end = DIRECTORY_END }

-- The bytes of the second copy of the directory.
abbrev pub second_span : Span
second_span = record { begin = SECOND; end = SECOND_END }

-- The bytes of the directory slots from `n` up to, but not including, `m`.
abbrev pub slots_span : ℕ → ℕ → Span
slots_span n m = record { begin = DIRECTORY + SLOT * n; end = DIRECTORY + SLOT * m }

-- The bytes of the name in directory slot `n`.
abbrev pub name_span : ℕ → Span
name_span n = record { begin = DIRECTORY + (SLOT * n + ENTRY_NAME); end = DIRECTORY + (SLOT * n + ENTRY_LAST_BYTES) }

-- The low byte of the kind word in directory slot `n`.
abbrev pub kind_span : ℕ → Span
kind_span n = record { begin = DIRECTORY + (SLOT * n + ENTRY_KIND); end = DIRECTORY + (SLOT * n + ENTRY_KIND + 1) }

-- The bytes of the two block numbers in directory slot `n`.
abbrev pub places_span : ℕ → Span
places_span n = record { begin = DIRECTORY + SLOT * n; end = DIRECTORY + (SLOT * n + ENTRY_KIND) }

-- The bytes of the blocks of the file of entry `e`.
abbrev pub blocks_span : Entry → Span
blocks_span e = record { begin = BLOCK * e.first; end = BLOCK * e.end }
