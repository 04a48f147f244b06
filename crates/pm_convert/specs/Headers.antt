-- The headers of new images.
use Rattle.std.specs.Prelude.{ℕ, List, [], ◌∷◌, ◌++◌, replicate}
use Rattle.pm_convert.specs.Sums.{high_bytes}

-- The header of DiskCopy 4.2 for a volume of `size` bytes with the checksum `sum`. It has these parts:
-- - an empty name, in 64 bytes
-- - the length of the volume, and that of the tags, which is 0
-- - the checksum of the volume, and that of the tags, which is 0
-- - the format of the disk, 1, and the format of its sides, 34
-- - the mark 1 0 of a header
unfoldable pub disk_copy_header : ℕ → ℕ → List ℕ
disk_copy_header size sum =
    replicate 64 0 ++ (high_bytes size ++ (replicate 4 0 ++ (high_bytes sum ++ (0 ∷ 0 ∷ 0 ∷ 0 ∷ 1 ∷ 34 ∷ 1 ∷ 0 ∷ []))))
