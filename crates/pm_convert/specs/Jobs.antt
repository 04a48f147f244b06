-- Conversions of images, and what is reported about an image.
use Rattle.std.specs.Prelude.{ℕ, List, [], ◌∷◌, ◌++◌, Option, None, Some, Result, Ok, Err, Vec, if◌then◌else◌}
use Rattle.std.specs.declared.alloc.Global.{Global}
use Rattle.pm_filer.specs.Listing.{printable_name, space_line}
use Rattle.pm_volume.specs.Space.{volume_name}
use Rattle.pm_convert.specs.Formats.{name_of}
use Rattle.pm_convert.specs.Found.{blocks_in, formats_of, is_volume}
use Rattle.pm_convert.specs.Made.{new_image, with_blocks}
use Rattle.pm_convert.specs.declared.format.Format.{Format}
use Rattle.pm_convert.specs.declared.job.ConvertFault.{ConvertFault}
use Rattle.pm_convert.specs.declared.job.ConvertFault.TheVariants as faults

-- The number of a fault.
abbrev pub number_of : ConvertFault → ℕ
number_of faults.NoFormat = 1
number_of faults.Several = 2
number_of faults.OtherFormat = 3
number_of faults.OtherLength = 4

-- The bytes of an image, or why there is none.
abbrev pub items_of : Result (Vec ℕ Global) ConvertFault → Result (List ℕ) ConvertFault
items_of (Ok image) = Ok image.items
items_of (Err fault) = Err fault

-- The only one of some formats.
abbrev pub only : List Format → Result Format ConvertFault
only [] = Err faults.NoFormat
only (format ∷ []) = Ok format
only (format ∷ other ∷ more) = Err faults.Several

-- The format of `image`: the given one, or the only one in which it opens as a volume.
abbrev pub chosen : Option Format → List ℕ → Result Format ConvertFault
chosen None image = only (formats_of image)
chosen (Some format) image = Ok format

-- A new image, unless the blocks do not fit its format.
abbrev pub made_or : Option (List ℕ) → Result (List ℕ) ConvertFault
made_or None = Err faults.OtherLength
made_or (Some image) = Ok image

-- A new image of the format `to` with these blocks, if there are blocks.
abbrev pub made_of : Format → Option (List ℕ) → Result (List ℕ) ConvertFault
made_of to None = Err faults.OtherFormat
made_of to (Some blocks) = made_or (new_image to blocks)

abbrev pub converted_by : Format → List ℕ → Result Format ConvertFault → Result (List ℕ) ConvertFault
converted_by to image (Err fault) = Err fault
converted_by to image (Ok format) = made_of to (blocks_in format image)

-- The volume in `image`, as a new image of the format `to`.
abbrev pub converted : Option Format → Format → List ℕ → Result (List ℕ) ConvertFault
converted format to image = converted_by to image (chosen format image)

-- `image` with `blocks` as its volume, if `image` has a volume in this format.
abbrev pub put_back : Format → List ℕ → List ℕ → Option (List ℕ) → Result (List ℕ) ConvertFault
put_back format image blocks None = Err faults.OtherFormat
put_back format image blocks (Some old) = made_or (with_blocks format image blocks)

abbrev pub converted_back_by : List ℕ → List ℕ → Result Format ConvertFault → Result (List ℕ) ConvertFault
converted_back_by image blocks (Err fault) = Err fault
converted_back_by image blocks (Ok format) = put_back format image blocks (blocks_in format image)

-- `image` with `blocks` instead of its own blocks, in its format.
abbrev pub converted_back : Option Format → List ℕ → List ℕ → Result (List ℕ) ConvertFault
converted_back format image blocks = converted_back_by image blocks (chosen format image)

-- ---- what is reported

-- The line of a format in which the volume `blocks` opens: the format, the name of the volume, and the last line of the
-- list of its files.
abbrev pub format_line : Format → List ℕ → List ℕ
format_line format blocks =
    name_of format ++ (32 ∷ (printable_name (volume_name blocks) ++ (58 ∷ 32 ∷ space_line blocks)))

-- The line of a format, if the blocks open as a volume.
abbrev pub line_for : Format → Option (List ℕ) → List ℕ
line_for format None = []
line_for format (Some blocks) = if is_volume blocks then format_line format blocks else []

abbrev pub lines_for : List ℕ → List Format → List ℕ
lines_for image [] = []
lines_for image (format ∷ formats) = line_for format (blocks_in format image) ++ lines_for image formats

-- A line for each format in which `image` opens as a volume.
abbrev pub formats_text : List ℕ → List ℕ
formats_text image = lines_for image (formats_of image)
