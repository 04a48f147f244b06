-- Blocks that look like a text file. A text file has two blocks of header, which only an editor uses, and then pages of
-- two blocks. A page has whole lines, and then zeros.
use Rattle.std.specs.Prelude.{◌==◌, ◌+◌, ◌*◌, ◌&&◌, ◌||◌, Bool, false, not, nat_le, ℕ, zero, suc}
use Rattle.std.specs.Prelude.{List, [], ◌∷◌, length, if◌then◌else◌}
use Rattle.std.specs.List.{list_all}
use Rattle.pm_textfile.specs.Reading.{text_of_file}
use Rattle.pm_undelete.specs.Blocks.{blocks_of}
use Rattle.pm_undelete.specs.Codes.{is_printable}

-- Is true for a character of a text: a printable character, or the line feed at the end of a line.
abbrev pub is_letter : ℕ → Bool
is_letter byte = (byte == 10) || is_printable byte

-- Is true if the bytes are a header and pages, and their text has only such characters.
abbrev pub is_text : List ℕ → Bool
is_text bytes = nat_le 1024 (length bytes) && list_all is_letter (text_of_file bytes)

-- Is true if there are bytes, and the first of them is not 0.
abbrev pub is_begun : List ℕ → Bool
is_begun [] = false
is_begun (byte ∷ bytes) = not (byte == 0)

-- Is true if block `n` of the volume `image` has only zeros.
abbrev pub is_zero_block : List ℕ → ℕ → Bool
is_zero_block image n = list_all (λ b. b == 0) (blocks_of image n (n + 1))

-- Is true if the two blocks after blocks `n` and `n + 1` look like a page: their first byte is not 0, and their text
-- has only characters of a text.
abbrev pub is_page : List ℕ → ℕ → Bool
is_page image n = is_begun (blocks_of image (n + 2) (n + 4)) && is_text (blocks_of image n (n + 4))

-- The number of pages that follow blocks `n` and `n + 1`. `left` is the number of blocks from block `n` up to the end
-- of the free area. A page whose second block has only zeros is the last one: another text file may begin there.
unfoldable pub pages : List ℕ → ℕ → ℕ → ℕ
pages image n zero = 0
pages image n (suc zero) = 0
pages image n (suc (suc left)) =
    if nat_le 2 left && is_page image n
    then (if is_zero_block image (n + 3) then 1 else 1 + pages image (n + 2) left) else 0

-- The number of blocks of a text file with this number of pages. It is 0 without pages.
abbrev pub size_of_pages : ℕ → ℕ
size_of_pages zero = 0
size_of_pages (suc more) = 2 + 2 * suc more

-- The number of blocks of the text file that seems to begin at block `n`: its second block has only zeros, and pages
-- follow. It is 0 if the blocks do not look like a text file.
abbrev pub text_size : List ℕ → ℕ → ℕ → ℕ
text_size image n left =
    if nat_le 4 left && is_zero_block image (n + 1) then size_of_pages (pages image n left) else 0
