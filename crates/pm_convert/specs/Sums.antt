-- The checksum of DiskCopy 4.2, and numbers whose high byte is first.
use Rattle.std.specs.Prelude.{ℕ, ◌+◌, ◌*◌, ◌/◌, ◌%◌, List, [], ◌∷◌, slice_index}

-- The number in the four bytes of `image` at offset `place`, high byte first.
abbrev pub high_long : List ℕ → ℕ → ℕ
high_long image place =
    16777216 * slice_index image place + (65536 * slice_index image (place + 1)
    + (256 * slice_index image (place + 2) + slice_index image (place + 3)))

-- The low four bytes of `number`, high byte first.
abbrev pub high_bytes : ℕ → List ℕ
high_bytes number = number / 16777216 % 256 ∷ number / 65536 % 256 ∷ number / 256 % 256 ∷ number % 256 ∷ []

-- The number `sum` of 32 bits, rotated right by one bit.
abbrev pub rotated : ℕ → ℕ
rotated sum = sum / 2 + sum % 2 * 2147483648

-- The checksum `sum` after the word `word`: the word is added, and the low 32 bits are rotated right by one bit.
abbrev pub with_word : ℕ → ℕ → ℕ
with_word sum word = rotated ((sum + word) % 4294967296)

-- The checksum that begins with `sum`, after the words of a list of bytes. The high byte of each word is first. A
-- single last byte is the high byte of a word.
unfoldable pub sum_from : ℕ → List ℕ → ℕ
sum_from sum [] = sum
sum_from sum (high ∷ []) = with_word sum (256 * high)
sum_from sum (high ∷ low ∷ rest) = sum_from (with_word sum (256 * high + low)) rest

-- The checksum of a list of bytes.
abbrev pub checksum : List ℕ → ℕ
checksum bytes = sum_from 0 bytes
