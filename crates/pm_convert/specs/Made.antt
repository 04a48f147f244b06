-- New images, and images with other blocks.
use Rattle.std.specs.Prelude.{ℕ, ◌==◌, ◌&&◌, List, [], ◌∷◌, ◌++◌, length, Option, None, Some, if◌then◌else◌}
use Rattle.pm_bytes.specs.Words.{written}
use Rattle.pm_check.specs.Headed.{new_file}
use Rattle.pm_convert.specs.Covers.{part_in}
use Rattle.pm_convert.specs.Headers.{disk_copy_header}
use Rattle.pm_convert.specs.Sums.{checksum, high_bytes}
use Rattle.pm_convert.specs.Turning.{fits, in_order}
use Rattle.pm_convert.specs.declared.cover.Part.{Part}
use Rattle.pm_convert.specs.declared.format.ByteOrder.{ByteOrder}
use Rattle.pm_convert.specs.declared.format.ByteOrder.TheVariants as orders
use Rattle.pm_convert.specs.declared.format.Cover.{Cover}
use Rattle.pm_convert.specs.declared.format.Cover.TheVariants as covers
use Rattle.pm_convert.specs.declared.format.Format.{Format}

-- `image` with the checksum of `volume` at offset 72, if the cover is DiskCopy 4.2.
abbrev pub sealed : Cover → List ℕ → List ℕ → List ℕ
sealed covers.Bare volume image = image
sealed covers.TwoImg volume image = image
sealed covers.DiskCopy volume image = written image 72 (high_bytes (checksum volume))

-- `image` with `volume` at a position, and with its checksum.
abbrev pub replaced_at : Cover → Part → List ℕ → List ℕ → List ℕ
replaced_at cover part volume image = sealed cover volume (written image part.begin volume)

-- `image`, which has this format and a volume at this position, with `blocks` instead of its own blocks. `None` if
-- there is no position, a volume of this length cannot be in this order, or the lengths differ.
abbrev pub with_blocks_at : Format → Option Part → List ℕ → List ℕ → Option (List ℕ)
with_blocks_at format None image blocks = None
with_blocks_at format (Some part) image blocks =
    if (length blocks == part.size) && fits format.order part.size
    then Some (replaced_at format.cover part (in_order format.order blocks) image)
    else None

-- `image`, which has this format, with `blocks` instead of its own blocks.
abbrev pub with_blocks : Format → List ℕ → List ℕ → Option (List ℕ)
with_blocks format image blocks = with_blocks_at format (part_in format.cover image) image blocks

-- The number of this order in the header of a .2mg file: 0 for DOS order, and 1 for the other orders.
abbrev pub order_number : ByteOrder → ℕ
order_number orders.Blocks = 1
order_number orders.Dos = 0
order_number orders.Swapped = 1
order_number orders.Big = 1

-- A new .2mg file for `volume`, as pm_check writes it, but with the number of this order at offset 12.
abbrev pub two_img : ByteOrder → List ℕ → List ℕ
two_img order volume = written (new_file volume) 12 (order_number order ∷ [])

-- A new file of DiskCopy 4.2 for `volume`.
abbrev pub disk_copy : List ℕ → List ℕ
disk_copy volume = disk_copy_header (length volume) (checksum volume) ++ volume

-- A new image with this cover for `volume`, which is in this order.
abbrev pub covered : Cover → ByteOrder → List ℕ → List ℕ
covered covers.Bare order volume = volume
covered covers.TwoImg order volume = two_img order volume
covered covers.DiskCopy order volume = disk_copy volume

-- A new image of this format for the volume `blocks`. `None` if a volume of this length cannot be in this order.
abbrev pub new_image : Format → List ℕ → Option (List ℕ)
new_image format blocks =
    if fits format.order (length blocks)
    then Some (covered format.cover format.order (in_order format.order blocks))
    else None
