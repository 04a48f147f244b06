-- Where the volume is in an image: after nothing, after the header of a .2mg file, or after that of DiskCopy 4.2.
use Rattle.std.specs.Prelude.{◌≤◌, ℕ, ◌+◌, ◌==◌, ◌&&◌, Bool, nat_le, nat_lt, List, slice_index, slice_range, length}
use Rattle.std.specs.Prelude.{Option, None, Some, if◌then◌else◌}
use Rattle.pm_check.specs.Forms.{front_begin, front_size, has_front}
use Rattle.pm_convert.specs.Sums.{high_long}
use Rattle.pm_convert.specs.declared.cover.Part.{Part}
use Rattle.pm_convert.specs.declared.format.Cover.{Cover}
use Rattle.pm_convert.specs.declared.format.Cover.TheVariants as covers

-- Is true if `image` begins with a valid header of DiskCopy 4.2. The header has 84 bytes, and the last two are 1 and 0.
-- The volume has at least one byte, and the volume and the tags after it are in `image`.
unfoldable pub has_disk_copy : List ℕ → Bool
has_disk_copy image =
    nat_le 84 (length image) && ((slice_index image 82 == 1) && ((slice_index image 83 == 0)
    && (nat_lt 0 (high_long image 64) && nat_le (84 + (high_long image 64 + high_long image 68)) (length image))))

-- The length of the volume in an image of `size` bytes without a header. In an image of 143,488 bytes the last 128 are
-- not part of the volume.
abbrev pub bare_size : ℕ → ℕ
bare_size size = if size == 143488 then 143360 else size

-- The position of the volume in `image` after this cover, or `None` if `image` has no such cover. `Bare` needs no
-- header, so that each image has this cover.
abbrev pub part_in : Cover → List ℕ → Option Part
part_in covers.Bare image = Some (record { begin = 0; size = bare_size (length image) })
part_in covers.TwoImg image =
    if has_front image then Some (record { begin = front_begin image; size = front_size image }) else None
part_in covers.DiskCopy image =
    if has_disk_copy image then Some (record { begin = 84; size = high_long image 64 }) else None

-- The volume is in an image of `size` bytes.
abbrev pub Lies : ℕ → Part → Type 0
Lies size part = part.begin + part.size ≤ size

-- The bytes of the volume at a position of `image`.
abbrev pub bytes_at : Part → List ℕ → List ℕ
bytes_at part image = slice_range image part.begin (part.begin + part.size)

-- The cover that `image` has: the first one of `DiskCopy` and `TwoImg` whose header is valid, or `Bare`.
abbrev pub cover_of : List ℕ → Cover
cover_of image = if has_disk_copy image then covers.DiskCopy else (if has_front image then covers.TwoImg
    else covers.Bare)
