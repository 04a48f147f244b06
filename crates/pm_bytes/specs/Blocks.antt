-- Blocks of 512 bytes, the units in which disks and files are divided.
use Rattle.std.specs.Prelude.{ℕ, ◌+◌, ◌/◌}

-- The number of blocks that `size` bytes need: `size / 512`, rounded up.
abbrev pub blocks_for : ℕ → ℕ
blocks_for size = (size + 511) / 512
