-- The second copy of a directory: whether it exists, and how changes and repairs use it.
use Rattle.std.specs.Prelude.{◌≡◌, ◌≢◌, ◌==◌, ◌&&◌, Bool, nat_le, ℕ, List, ◌∷◌, length, Option, Some, None, Result, Ok}
use Rattle.std.specs.Prelude.{Err, if◌then◌else◌}
use Rattle.pm_volume.specs.Directory.{directory_of, files_begin, image_fault, second_of}
use Rattle.pm_volume.specs.Stays.{Span, second_span}
use Rattle.pm_volume.specs.Words.{written}
use Rattle.pm_volume.specs.declared.copies.Copies.{Copies}
use Rattle.pm_volume.specs.declared.copies.Copies.TheVariants.{Single, Same, Differs}
use Rattle.pm_volume.specs.declared.fault.VolumeFault.{VolumeFault}
use Rattle.pm_volume.specs.declared.fault.VolumeFault.TheVariants.{FirstCopyBad}
use Rattle.pm_volume.specs.declared.fields.TheConstants.{DIRECTORY, PAST_DIRECTORY, PAST_SECOND, SECOND, SECOND_END}

-- Is true if `image` has a second copy of its directory: files begin at block 10, and the image has at least 10 blocks.
unfoldable pub has_second : List ℕ → Bool
has_second image = nat_le SECOND_END (length image) && (files_begin (directory_of image) == PAST_SECOND)

-- States how many copies of its directory `image` has: one, two equal copies, or two copies that differ.
abbrev pub HasCopies : List ℕ → Copies → Type 0
HasCopies image Single = files_begin (directory_of image) ≡ PAST_DIRECTORY
HasCopies image Same = (files_begin (directory_of image) ≡ PAST_SECOND) × (second_of image ≡ directory_of image)
HasCopies image Differs = (files_begin (directory_of image) ≡ PAST_SECOND) × (second_of image ≢ directory_of image)

-- The images `old` and `new` have the same number of copies of the directory. If `new` has two, they are equal.
pub record CopiesStay (old new : List ℕ) : Type 0 where
  pub single : files_begin (directory_of old) ≡ PAST_DIRECTORY → HasCopies new Single
  pub same : files_begin (directory_of old) ≡ PAST_SECOND → HasCopies new Same

-- The image in which blocks 2 to 5 are copied to blocks 6 to 9, if `image` has a second copy of its directory.
unfoldable pub mirrored : List ℕ → List ℕ
mirrored image = if has_second image then written image SECOND (directory_of image) else image

-- The list `spans`, with the span of the second copy added if the header of `directory` states that files begin at
-- block 10.
abbrev pub and_second : List ℕ → List Span → List Span
and_second directory spans = if files_begin directory == PAST_SECOND then second_span ∷ spans else spans

-- The image in which the second copy of the directory is copied over the first.
unfoldable pub restored : List ℕ → List ℕ
restored image = written image DIRECTORY (second_of image)

-- The image after a repair, or the fault if a repair is impossible. The last argument is the fault of `image`, or
-- `None`.
abbrev pub repaired_from : List ℕ → Option VolumeFault → Result (List ℕ) VolumeFault
repaired_from image None = Ok image
repaired_from image (Some (FirstCopyBad number)) = Ok (restored image)
repaired_from image (Some fault) = Err fault

-- The result of a repair of `image`. A volume is unchanged. If only the first copy is damaged, the second is copied
-- over it. Otherwise, the result is the fault of `image`.
unfoldable pub repaired : List ℕ → Result (List ℕ) VolumeFault
repaired image = repaired_from image (image_fault image)
