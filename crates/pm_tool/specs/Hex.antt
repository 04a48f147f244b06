-- Bytes as text: pairs of hexadecimal digits in upper or lower case, with white space before, between and after them.
use Rattle.std.specs.Prelude.{ℕ, ◌+◌, ◌*◌, ◌==◌, ◌||◌, ◌&&◌, Bool, List, []}
use Rattle.std.specs.Prelude.{◌∷◌, Option, Some, None, if◌then◌else◌, nat_lt}
use Rattle.std.specs.Char.{digit_value}

-- Is true if `c` is a tab, a line feed, a carriage return or a space.
abbrev pub is_space : ℕ → Bool
is_space c = c == 9 || c == 10 || c == 13 || c == 32

abbrev pub is_hex_digit : ℕ → Bool
is_hex_digit c = nat_lt (digit_value c) 16

-- Returns the byte with the hexadecimal digits `c` and `d`, or None if one of them is no hexadecimal digit.
abbrev pub pair_value : ℕ → ℕ → Option ℕ
pair_value c d = if is_hex_digit c && is_hex_digit d then Some (16 * digit_value c + digit_value d) else None

-- Returns the first byte followed by the other bytes, or None if one of the arguments is None.
abbrev pub byte_and_bytes : Option ℕ → Option (List ℕ) → Option (List ℕ)
byte_and_bytes (Some byte) (Some bytes) = Some (byte ∷ bytes)
byte_and_bytes (Some byte) None = None
byte_and_bytes None bytes = None

-- Returns the bytes that a text denotes. Returns None if a digit has no second digit directly after it, or if the text
-- has a character that is neither a hexadecimal digit nor white space.
unfoldable pub hex_spelled : List ℕ → Option (List ℕ)
hex_spelled [] = Some []
hex_spelled (c ∷ []) = if is_space c then Some [] else None
hex_spelled (c ∷ d ∷ text) =
    if is_space c then hex_spelled (d ∷ text) else byte_and_bytes (pair_value c d) (hex_spelled text)
