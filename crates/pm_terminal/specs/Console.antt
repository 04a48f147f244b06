-- The bytes of the console with `--text`.
use Rattle.std.specs.Prelude.{ℕ, ◌==◌, if◌then◌else◌}

-- Returns the byte that a program reads if the input has `byte`: the key Return (13) for a line feed (10).
unfoldable pub typed_byte : ℕ → ℕ
typed_byte byte = if byte == 10 then 13 else byte

-- Returns the byte that is written with `--text` if a program writes `byte`: a line feed (10) for a carriage return
-- (13).
unfoldable pub shown_byte : ℕ → ℕ
shown_byte byte = if byte == 13 then 10 else byte
