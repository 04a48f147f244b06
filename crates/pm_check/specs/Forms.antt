-- Other formats of images: at which offset each format has the directory header, and which bytes are a valid header.
use Rattle.std.specs.Prelude.{ℕ, ◌+◌, ◌*◌, ◌/◌, ◌%◌, ◌==◌, ◌&&◌, ◌||◌, Bool, true, false, nat_le, nat_lt, List, Option}
use Rattle.std.specs.Prelude.{Some, None, [], ◌∷◌, ◌++◌, codes, length, slice_index, slice_range, take, if◌then◌else◌}
use Rattle.std.specs.Str.{bytes_eq}
use Rattle.pm_bytes.specs.Words.{word_in}
use Rattle.pm_volume.specs.declared.fields.TheConstants.{DIRECTORY, HEADER_BLOCKS, HEADER_FILES, HEADER_FILES_BEGIN}
use Rattle.pm_volume.specs.declared.fields.TheConstants.{LONGEST_VOLUME_NAME, MOST_FILES, PAST_DIRECTORY, PAST_SECOND}
use Rattle.pm_volume.specs.declared.fields.TheConstants.{SLOT}
use Rattle.pm_bytes.specs.declared.blocks.TheConstants.{BLOCK}
use Rattle.pm_check.specs.declared.note.Form.{Form}
use Rattle.pm_check.specs.declared.note.Form.TheVariants.{Dos, Swapped, FrontBlocks, FrontDos, FrontSwapped}
use Rattle.pm_check.specs.declared.note.Note.{Note}
use Rattle.pm_check.specs.declared.note.Note.TheVariants as notes

-- The list with `note` if the condition is true, and otherwise the empty list.
abbrev pub note_if : Bool → Note → List Note
note_if true note = note ∷ []
note_if false note = []

-- ---- a header

-- The word `word` with its two bytes exchanged.
abbrev pub exchanged : ℕ → ℕ
exchanged word = word % 256 * 256 + word / 256

-- The word of `header` at offset `place`. If `swapped` is true, the two bytes of each word of the image are exchanged.
unfoldable pub heading_word : Bool → List ℕ → ℕ → ℕ
heading_word swapped header place = if swapped then exchanged (word_in header place) else word_in header place

-- The length of the volume's name: byte 6 of `header`, or byte 7 if `swapped` is true.
abbrev pub heading_length : Bool → List ℕ → ℕ
heading_length swapped header = if swapped then slice_index header 7 else slice_index header 6

-- Is true if `header` is a valid directory header of a volume in an image of `blocks` blocks:
-- - The name has 1 to 7 characters.
-- - Files begin at block 6 or 10.
-- - The volume has at least as many blocks as this number, and at most `blocks`.
-- - The number of files is at most 77.
unfoldable pub is_heading : Bool → List ℕ → ℕ → Bool
is_heading swapped header blocks =
    nat_le 1 (heading_length swapped header) && nat_le (heading_length swapped header) LONGEST_VOLUME_NAME
    && ((heading_word swapped header HEADER_FILES_BEGIN == PAST_DIRECTORY)
    || (heading_word swapped header HEADER_FILES_BEGIN == PAST_SECOND))
    && nat_le (heading_word swapped header HEADER_FILES_BEGIN) (heading_word swapped header HEADER_BLOCKS)
    && nat_le (heading_word swapped header HEADER_BLOCKS) blocks
    && nat_le (heading_word swapped header HEADER_FILES) MOST_FILES

-- Is true if `image` has a valid directory header at offset `place` (`is_heading`).
unfoldable pub has_heading : List ℕ → ℕ → ℕ → Bool → Bool
has_heading image place blocks swapped =
    if nat_lt (length image) (place + SLOT) then false
    else is_heading swapped (slice_range image place (place + SLOT)) blocks

-- ---- formats of the `size` bytes of an image from offset `begin`

-- Is true if the `size` bytes from offset `begin` on may be blocks in order: block 2 begins with a valid header.
abbrev pub is_in_blocks : List ℕ → ℕ → ℕ → Bool
is_in_blocks image begin size = has_heading image (begin + DIRECTORY) (size / BLOCK) false

-- Is true if the `size` bytes from offset `begin` on may be blocks with the two bytes of each word exchanged.
abbrev pub is_swapped : List ℕ → ℕ → ℕ → Bool
is_swapped image begin size = has_heading image (begin + DIRECTORY) (size / BLOCK) true

-- Is true if the `size` bytes from offset `begin` on may be a disk of 280 blocks in DOS sector order. The sector at
-- offset 2,816 of such a disk is the first half of block 2.
abbrev pub is_in_sectors : List ℕ → ℕ → ℕ → Bool
is_in_sectors image begin size = (size == 143360) && has_heading image (begin + 2816) 280 false

-- The number in the four bytes of `image` at offset `place`, low byte first.
unfoldable pub long_in : List ℕ → ℕ → ℕ
long_in image place = word_in image place + 65536 * word_in image (place + 2)

-- The offset at which the blocks begin, as the header of a .2mg file states it at offset 24. The next definition is
-- their number of bytes: the number at offset 28, or, if it is 0, 512 times the number at offset 20.
abbrev pub front_begin : List ℕ → ℕ
front_begin image = long_in image 24

unfoldable pub front_size : List ℕ → ℕ
front_size image = if long_in image 28 == 0 then BLOCK * long_in image 20 else long_in image 28

-- Is true if `image` has at least 64 bytes and begins with the header of a .2mg file: it begins with 2IMG, and the
-- blocks that the header describes are after byte 51 and in `image`.
unfoldable pub has_front : List ℕ → Bool
has_front image =
    if nat_lt (length image) 64 then false
    else bytes_eq (take 4 image) (codes "2IMG") && nat_le 52 (front_begin image) && nat_lt 0 (front_size image)
    && nat_le (front_begin image + front_size image) (length image)

-- A note for each format that the blocks after the header of a .2mg file may have.
unfoldable pub front_notes : List ℕ → List Note
front_notes image =
    note_if (is_in_blocks image (front_begin image) (front_size image)) (notes.Form FrontBlocks)
    ++ (note_if (is_in_sectors image (front_begin image) (front_size image)) (notes.Form FrontDos)
    ++ note_if (is_swapped image (front_begin image) (front_size image)) (notes.Form FrontSwapped))

-- A note for each other format that `image` may have.
unfoldable pub form_notes : List ℕ → List Note
form_notes image =
    note_if (is_in_sectors image 0 (length image)) (notes.Form Dos)
    ++ (note_if (is_swapped image 0 (length image)) (notes.Form Swapped)
    ++ (if has_front image then front_notes image else []))

-- ---- the format that is reported if an image is refused

-- The first format that matches the blocks after the header of a .2mg file.
unfoldable pub front_form : List ℕ → Option Form
front_form image =
    if is_in_blocks image (front_begin image) (front_size image) then Some FrontBlocks
    else (if is_in_sectors image (front_begin image) (front_size image) then Some FrontDos
    else (if is_swapped image (front_begin image) (front_size image) then Some FrontSwapped else None))

-- The first format that matches `image`.
unfoldable pub form_seen : List ℕ → Option Form
form_seen image =
    if is_in_sectors image 0 (length image) then Some Dos
    else (if is_swapped image 0 (length image) then Some Swapped
    else (if has_front image then front_form image else None))
