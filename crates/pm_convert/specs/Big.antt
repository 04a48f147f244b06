-- The order `big`: which bytes of an image are exchanged.
use Rattle.std.specs.Prelude.{◌≡◌, ◌<◌, ◌≤◌, ℕ, ◌+◌, ◌-◌, ◌*◌, ◌/◌, ◌%◌, ◌==◌, ◌&&◌, ◌||◌, Bool, nat_le, nat_lt, List}
use Rattle.std.specs.Prelude.{length, map}
use Rattle.std.specs.Prelude.{slice_index, if◌then◌else◌, true, false}
use Rattle.std.specs.List.{filter, list_any, range_with_len}
use Rattle.pm_check.specs.Orders.{place_in_word}
use Rattle.pm_volume.specs.Directory.{directory_of, entries_from, file_count, files_begin}
use Rattle.pm_volume.specs.declared.entry.Entry.{Entry}
use Rattle.pm_volume.specs.declared.fields.TheConstants.{MOST_FILES, PAST_SECOND}
use Rattle.pm_volume.specs.declared.kinds.TheConstants.{CODE}

-- Is true if the byte at offset `place` of a directory is in a word whose bytes are exchanged. The words of the header
-- are at 0 to 4 and 14 to 20, those of another slot at 0 to 4, 22 and 24. A slot has 26 bytes.
abbrev pub is_directory_word : ℕ → Bool
is_directory_word place =
    if nat_le 2028 place then false
    else (if nat_lt (place % 26) 6 then true
    else (if nat_lt place 26 then nat_le 14 place && nat_lt place 22 else nat_le 22 (place % 26)))

-- Is true if the byte at offset `place` of the block with a dictionary is in a word whose bytes are exchanged: the
-- first block and the length of each segment, its kind, its text block and its numbers.
abbrev pub is_dictionary_word : ℕ → Bool
is_dictionary_word place = nat_lt place 64 || (nat_le 192 place && nat_lt place 288)

-- Is true if the byte at offset `place` of an image is in a word whose bytes are exchanged, of the directory at offset
-- `begin`.
abbrev pub is_in_directory : ℕ → ℕ → Bool
is_in_directory begin place =
    nat_le begin place && (nat_lt place (begin + 2048) && is_directory_word (place - begin))

-- Is true if the byte at offset `place` of an image of `size` bytes is in a word whose bytes are exchanged. The image
-- has a directory in block 2, and a second copy in block 6 if `second` is true. Each of `blocks` that is whole has a
-- dictionary.
abbrev pub is_exchanged : Bool → List ℕ → ℕ → ℕ → Bool
is_exchanged second blocks size place =
    is_in_directory 1024 place || ((second && is_in_directory 3072 place)
    || (is_dictionary_word (place % 512) && (nat_lt place (size / 512 * 512)
    && list_any (λ known. known == place / 512) blocks)))

-- The offset that the byte at offset `place` of the converted image had before the conversion. The image has `size`
-- bytes. A single last byte is unchanged.
abbrev pub big_place : Bool → List ℕ → ℕ → ℕ → ℕ
big_place second blocks size place =
    if nat_lt place (size / 2 * 2) && is_exchanged second blocks size place then place_in_word place else place

-- The first `count` bytes of `image` with exchanged bytes, and the whole of it.
unfoldable pub exchanged_front : Bool → List ℕ → List ℕ → ℕ → List ℕ
exchanged_front second blocks image count =
    map (λ place. slice_index image (big_place second blocks (length image) place)) (range_with_len 0 count)

unfoldable pub exchanged_with : Bool → List ℕ → List ℕ → List ℕ
exchanged_with second blocks image = exchanged_front second blocks image (length image)

-- The number of files that `directory` states, or 77 if it states more.
abbrev pub listed : List ℕ → ℕ
listed directory = if nat_lt MOST_FILES (file_count directory) then MOST_FILES else file_count directory

-- The first block of each code file in a list of files.
abbrev pub code_firsts : List Entry → List ℕ
code_firsts files = map (λ e. e.first) (filter (λ e. e.kind == CODE) files)

-- The first block of each code file of `directory`, whose words have the low byte first.
abbrev pub code_blocks : List ℕ → List ℕ
code_blocks directory = code_firsts (entries_from directory 1 (listed directory))

-- `image` with exchanged bytes in the words of its directories and dictionaries. The files are those of `directory`,
-- whose words have the low byte first.
abbrev pub big_with : List ℕ → List ℕ → List ℕ
big_with directory image = exchanged_with (files_begin directory == PAST_SECOND) (code_blocks directory) image

-- The offset that the byte at offset `place` of a converted directory had before the conversion.
abbrev pub directory_place : ℕ → ℕ
directory_place place = if is_directory_word place then place_in_word place else place

-- The first `count` bytes of a directory with exchanged bytes in its words, and the whole of it.
unfoldable pub directory_front : List ℕ → ℕ → List ℕ
directory_front directory count =
    map (λ place. slice_index directory (directory_place place)) (range_with_len 0 count)

unfoldable pub turned_directory : List ℕ → List ℕ
turned_directory directory = directory_front directory 2048

-- The conversion of an image from the order `big` to blocks in order. Only the converted directory has the low byte
-- first.
unfoldable pub from_big : List ℕ → List ℕ
from_big image = big_with (turned_directory (directory_of image)) image

-- The conversion of an image from blocks in order to the order `big`.
unfoldable pub to_big : List ℕ → List ℕ
to_big image = big_with (directory_of image) image

-- ---- laws

-- No code file of `directory` begins in blocks 2 to 5, where the directory is.
abbrev pub IsClear : List ℕ → Type 0
IsClear directory =
    (block : ℕ) → 2 ≤ block → block < 6 → list_any (λ known. known == block) (code_blocks directory) ≡ false
