-- Images in formats that are not supported, but recognized.
use Rattle.std.specs.Prelude.{ℕ, ◌/◌, ◌==◌, ◌&&◌, Bool, List, slice_index, Option, None, Some, codes, if◌then◌else◌}
use Rattle.pm_convert.specs.Covers.{cover_of, part_in}
use Rattle.pm_convert.specs.declared.cover.Part.{Part}
use Rattle.pm_convert.specs.declared.foreign.Foreign.{Foreign}
use Rattle.pm_convert.specs.declared.foreign.Foreign.TheVariants as foreigners

-- What an image of this format is, and what to do with it.
abbrev pub foreign_text : Foreign → List ℕ
foreign_text foreigners.Gzip = codes "it is compressed; decompress it with gunzip"
foreign_text foreigners.Woz = codes "it looks like .woz, the bits of a disk; convert it to sectors with another tool"
foreign_text foreigners.Nib =
    codes "it has the length of .nib, the nibbles of a disk; convert it to sectors with another tool"
foreign_text foreigners.Hfs = codes "it looks like a Macintosh disk (HFS)"
foreign_text foreigners.ProDos = codes "it looks like a ProDOS disk"
foreign_text foreigners.Dos33 = codes "it looks like a DOS 3.3 disk"

-- The length of a volume at a position, or 0 without a position.
abbrev pub size_at : Option Part → ℕ
size_at None = 0
size_at (Some part) = part.size

-- The length of the volume in `image`, after the cover that `image` has.
abbrev pub volume_size : List ℕ → ℕ
volume_size image = size_at (part_in (cover_of image) image)

-- Is true if block 2 begins with the letters BD.
abbrev pub is_hfs : List ℕ → Bool
is_hfs image = (slice_index image 1024 == 66) && (slice_index image 1025 == 68)

-- Is true if block 2 begins with two zeros, and has 15 in the high four bits of byte 4.
abbrev pub is_prodos : List ℕ → Bool
is_prodos image =
    (slice_index image 1024 == 0) && ((slice_index image 1025 == 0) && (slice_index image 1028 / 16 == 15))

-- Is true if byte 1 of track 17 is 17, the track of the catalog, and byte 3 is 3, the release. A track has 4,096 bytes.
abbrev pub is_dos33 : List ℕ → Bool
is_dos33 image = (slice_index image 69633 == 17) && (slice_index image 69635 == 3)

-- The format that `image` is recognized as: by its first bytes, by the length of its volume, or by its directory.
abbrev pub recognized : List ℕ → Option Foreign
recognized image =
    if (slice_index image 0 == 31) && (slice_index image 1 == 139) then Some foreigners.Gzip
    else (if (slice_index image 0 == 87) && ((slice_index image 1 == 79) && (slice_index image 2 == 90))
    then Some foreigners.Woz
    else (if volume_size image == 232960 then Some foreigners.Nib
    else (if is_hfs image then Some foreigners.Hfs
    else (if is_prodos image then Some foreigners.ProDos
    else (if is_dos33 image then Some foreigners.Dos33 else None)))))
