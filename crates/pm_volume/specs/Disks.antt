-- The blocks of a disk, whose image is a list of bytes.
use Rattle.std.specs.Prelude.{◌≤◌, nat_le, ℕ, ◌+◌, ◌*◌, List, length, slice_range, Option, Some, None, if◌then◌else◌}
use Rattle.pm_bytes.specs.declared.blocks.TheConstants.{BLOCK}

-- The 512 bytes of block `n` of `image`, or `None` if the block is after the end of the image.
unfoldable pub block_of : List ℕ → ℕ → Option (List ℕ)
block_of image n =
    if nat_le (BLOCK * n + BLOCK) (length image) then Some (slice_range image (BLOCK * n) (BLOCK * n + BLOCK)) else None

-- The `count` bytes from offset `place` on are within `image`.
abbrev pub IsInImage : List ℕ → ℕ → ℕ → Type 0
IsInImage image place count = place + count ≤ length image
