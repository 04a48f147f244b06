-- Files of kind .2mg. They have a header, the blocks of an image, and the bytes after the blocks. The header states
-- where the blocks begin, how many bytes they have, and their order.
use Rattle.std.specs.Prelude.{◌≡◌, ◌≤◌, ◌<◌, ℕ, ◌+◌, ◌*◌, ◌/◌, ◌%◌, ◌==◌, ◌&&◌, Bool, nat_le, nat_lt, codes}
use Rattle.std.specs.Prelude.{List, [], ◌∷◌, ◌++◌}
use Rattle.std.specs.Prelude.{Option, None, Some, drop, length, option_map, replicate, slice_range, take, if◌then◌else◌}
use Rattle.std.specs.Str.{bytes_eq}
use Rattle.pm_bytes.specs.Words.{written}
use Rattle.pm_check.specs.Forms.{front_begin, front_size, long_in}
use Rattle.pm_check.specs.Orders.{turned}
use Rattle.pm_check.specs.declared.headed.Span.{Span}
use Rattle.pm_check.specs.declared.order.Order.{Order}
use Rattle.pm_check.specs.declared.order.Order.TheVariants as orders

-- The order for which a header has the number `number` at offset 12: 0 is DOS sector order, and 1 is blocks in order.
abbrev pub order_of : ℕ → Option Order
order_of number = if number == 0 then Some orders.Dos else (if number == 1 then Some orders.Blocks else None)

-- Is true if `header`, of 32 bytes, begins a header that fits a file of `count` bytes. It begins with 2IMG, and the
-- blocks that it describes are after byte 51 and in the file.
unfoldable pub fits : List ℕ → ℕ → Bool
fits header count =
    bytes_eq (take 4 header) (codes "2IMG") && (nat_le 52 (front_begin header) && (nat_lt 0 (front_size header)
    && nat_le (front_begin header + front_size header) count))

-- The position of the blocks that `header` states, or `None` if the order is unknown.
abbrev pub span_in : List ℕ → Option Span
span_in header = option_map (λ order. record { begin = front_begin header; size = front_size header; order = order })
    (order_of (long_in header 12))

-- The position of the blocks that `header` states, if `header` fits a file of `count` bytes.
abbrev pub span_fitting : List ℕ → ℕ → Option Span
span_fitting header count = if fits header count then span_in header else None

-- The position of the blocks that the header of `file` states, or `None` if `file` has no fitting header.
unfoldable pub span_of : List ℕ → Option Span
span_of file = if nat_lt (length file) 64 then None else span_fitting (take 32 file) (length file)

-- The blocks of `span` are after byte 51 of a file of `count` bytes, and in this file.
abbrev pub Lies : ℕ → Span → Type 0
Lies count span = (52 ≤ span.begin) × (span.begin + span.size ≤ count)

-- The volume at the given position of `file`, with its blocks in order. Without a position it has no bytes.
abbrev pub volume_at : Option Span → List ℕ → List ℕ
volume_at None file = []
volume_at (Some span) file = turned span.order (slice_range file span.begin (span.begin + span.size))

unfoldable pub volume_in : List ℕ → List ℕ
volume_in file = volume_at (span_of file) file

-- The low four bytes of `number`, low byte first.
abbrev pub long_bytes : ℕ → List ℕ
long_bytes number = number % 256 ∷ number / 256 % 256 ∷ number / 65536 % 256 ∷ number / 16777216 % 256 ∷ []

-- The header of a new file for a volume of `size` bytes. It has these parts:
-- - 2IMG, and PMCH for the program
-- - its own size of 64 bytes, version 1, blocks in order, no flags
-- - the number of blocks, their offset, and their number of bytes
-- - zeros
unfoldable pub plain_header : ℕ → List ℕ
plain_header size =
    (50 ∷ 73 ∷ 77 ∷ 71 ∷ 80 ∷ 77 ∷ 67 ∷ 72 ∷ 64 ∷ 0 ∷ 1 ∷ 0 ∷ 1 ∷ 0 ∷ 0 ∷ 0 ∷ 0 ∷ 0 ∷ 0 ∷ 0 ∷ [])
    ++ (long_bytes (size / 512) ++ (long_bytes 64 ++ (long_bytes size ++ replicate 32 0)))

unfoldable pub new_file : List ℕ → List ℕ
new_file volume = plain_header (length volume) ++ volume

-- The file that contains `volume` and replaces `old`. If the blocks of `old` have as many bytes as `volume`, all bytes
-- around them are unchanged. Otherwise the header is new.
abbrev pub filed_at : Option Span → List ℕ → List ℕ → List ℕ
filed_at None old volume = new_file volume
filed_at (Some span) old volume =
    if span.size == length volume then written old span.begin (turned span.order volume) else new_file volume

unfoldable pub filed : List ℕ → List ℕ → List ℕ
filed old volume = filed_at (span_of old) old volume

-- ---- laws

-- A .2mg file for examples. Its header states the order, the number of blocks, their offset and their number of bytes,
-- each a number below 256. `rest` has the bytes after the header.
abbrev pub example : ℕ → ℕ → ℕ → ℕ → List ℕ → List ℕ
example order blocks begin size rest =
    50 ∷ 73 ∷ 77 ∷ 71 ∷ 1 ∷ 2 ∷ 3 ∷ 4 ∷ 64 ∷ 0 ∷ 1 ∷ 0 ∷ order ∷ 0 ∷ 0 ∷ 0 ∷ 5 ∷ 6 ∷ 7 ∷ 8 ∷ blocks ∷ 0 ∷ 0 ∷ 0
    ∷ begin ∷ 0 ∷ 0 ∷ 0 ∷ size ∷ 0 ∷ 0 ∷ 0 ∷ 9 ∷ 9 ∷ 9 ∷ 9 ∷ 9 ∷ 9 ∷ 9 ∷ 9 ∷ 9 ∷ 9 ∷ 9 ∷ 9 ∷ 9 ∷ 9 ∷ 9 ∷ 9
    ∷ 9 ∷ 9 ∷ 9 ∷ 9 ∷ 9 ∷ 9 ∷ 9 ∷ 9 ∷ 9 ∷ 9 ∷ 9 ∷ 9 ∷ 9 ∷ 9 ∷ 9 ∷ 9 ∷ rest

-- If a volume is written to a file, it can be read back. If the blocks of the old file have as many bytes, then the
-- file keeps its length and all bytes before and after the blocks. The examples are headers of both orders, a header
-- that states the number of blocks, four headers that do not fit, and a file with other blocks.
pub record WorkedHeaders : Type 0 where
  pub back : (old volume : List ℕ) → length volume < 4294967296 → volume_in (filed old volume) ≡ volume
  pub size : (old volume : List ℕ) (span : Span) → span_of old ≡ Some span → span.size ≡ length volume
      → length (filed old volume) ≡ length old
  pub front : (old volume : List ℕ) (span : Span) → span_of old ≡ Some span → span.size ≡ length volume
      → take span.begin (filed old volume) ≡ take span.begin old
  pub tail : (old volume : List ℕ) (span : Span) → span_of old ≡ Some span → span.size ≡ length volume
      → drop (span.begin + span.size) (filed old volume) ≡ drop (span.begin + span.size) old
  pub dos : span_of (example 0 0 64 4 (1 ∷ 2 ∷ 3 ∷ 4 ∷ 5 ∷ []))
      ≡ Some (record { begin = 64; size = 4; order = orders.Dos })
  pub blocks : span_of (example 1 7 66 3 (1 ∷ 2 ∷ 3 ∷ 4 ∷ 5 ∷ []))
      ≡ Some (record { begin = 66; size = 3; order = orders.Blocks })
  pub counted : span_of (example 1 1 65 0 (replicate 513 0))
      ≡ Some (record { begin = 65; size = 512; order = orders.Blocks })
  pub other_order : span_of (example 2 0 64 4 (1 ∷ 2 ∷ 3 ∷ 4 ∷ 5 ∷ [])) ≡ None
  pub too_early : span_of (example 1 0 51 4 (1 ∷ 2 ∷ 3 ∷ 4 ∷ 5 ∷ [])) ≡ None
  pub too_long : span_of (example 1 0 64 6 (1 ∷ 2 ∷ 3 ∷ 4 ∷ 5 ∷ [])) ≡ None
  pub empty : span_of (example 1 0 64 0 (1 ∷ 2 ∷ 3 ∷ 4 ∷ 5 ∷ [])) ≡ None
  pub changed : filed (example 1 7 66 3 (1 ∷ 2 ∷ 3 ∷ 4 ∷ 5 ∷ 6 ∷ [])) (33 ∷ 44 ∷ 55 ∷ [])
      ≡ example 1 7 66 3 (1 ∷ 2 ∷ 33 ∷ 44 ∷ 55 ∷ 6 ∷ [])
