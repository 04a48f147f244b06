-- What an image contains: its volume, and the formats in which the volume opens.
use Rattle.std.specs.Prelude.{ℕ, ◌+◌, ◌==◌, ◌&&◌, not, Bool, false, List, slice_range, Option, None, Some}
use Rattle.std.specs.Prelude.{if◌then◌else◌}
use Rattle.std.specs.List.{filter}
use Rattle.std.specs.Option.{is_none}
use Rattle.pm_volume.specs.Directory.{image_fault}
use Rattle.pm_convert.specs.Covers.{bytes_at, cover_of, has_disk_copy, part_in}
use Rattle.pm_convert.specs.Formats.{formats_with}
use Rattle.pm_convert.specs.Sums.{checksum, high_long}
use Rattle.pm_convert.specs.Turning.{fits, in_blocks}
use Rattle.pm_convert.specs.declared.cover.Part.{Part}
use Rattle.pm_convert.specs.declared.format.ByteOrder.{ByteOrder}
use Rattle.pm_convert.specs.declared.format.Format.{Format}

-- The volume at a position of `image`, in this order, with its blocks in order. `None` if there is no position, or a
-- volume of this length cannot be in this order.
abbrev pub blocks_at : ByteOrder → Option Part → List ℕ → Option (List ℕ)
blocks_at order None image = None
blocks_at order (Some part) image = if fits order part.size then Some (in_blocks order (bytes_at part image)) else None

-- The volume in `image`, which has this format, with its blocks in order.
abbrev pub blocks_in : Format → List ℕ → Option (List ℕ)
blocks_in format image = blocks_at format.order (part_in format.cover image) image

-- Is true if the image `blocks` opens as a volume: it has no fault.
abbrev pub is_volume : List ℕ → Bool
is_volume blocks = is_none (image_fault blocks)

-- Is true if there are blocks, and they open as a volume.
abbrev pub are_volume : Option (List ℕ) → Bool
are_volume None = false
are_volume (Some blocks) = is_volume blocks

-- Is true if `image` opens as a volume in this format.
abbrev pub opens : List ℕ → Format → Bool
opens image format = are_volume (blocks_in format image)

-- The formats in which `image` opens as a volume. If `image` has a valid header, only the four formats with this header
-- are tried. Otherwise only the four formats without a header are tried.
abbrev pub formats_of : List ℕ → List Format
formats_of image = filter (opens image) (formats_with (cover_of image))

-- Is true if `image` has a valid header of DiskCopy 4.2, and the checksum in it is not that of the volume.
abbrev pub is_sum_wrong : List ℕ → Bool
is_sum_wrong image =
    has_disk_copy image && not (high_long image 72 == checksum (slice_range image 84 (84 + high_long image 64)))
