-- Statements of the laws that the second copy of the directory saves the files of a volume.
use Rattle.std.specs.Prelude.{◌≡◌, ◌⊎◌, ℕ, ◌%◌, true, List, length, Some, None, Ok}
use Rattle.std.specs.List.{All}
use Rattle.pm_volume.specs.Copies.{HasCopies, repaired}
use Rattle.pm_volume.specs.Directory.{IsVolume, image_fault, files_in, is_second_good, second_of}
use Rattle.pm_volume.specs.Files.{files_of}
use Rattle.pm_volume.specs.Stays.{FileStays}
use Rattle.pm_volume.specs.Words.{written}
use Rattle.pm_volume.specs.declared.copies.Copies.TheVariants.{Same}
use Rattle.pm_volume.specs.declared.fault.VolumeFault.TheVariants.{FirstCopyBad}
use Rattle.pm_volume.specs.declared.fields.TheConstants.{DIRECTORY, DIRECTORY_SIZE}
use Rattle.pm_bytes.specs.declared.blocks.TheConstants.{BLOCK}

-- Only the first copy of the directory of `image` is damaged. After a repair, the image is a volume with the files of
-- the second copy, and each of these files has its old bytes.
pub record IsSaved (image : List ℕ) : Type 0 where
  pub number : ℕ
  pub fault : image_fault image ≡ Some (FirstCopyBad number)
  pub new : List ℕ
  pub repaired : repaired image ≡ Ok new
  pub volume : IsVolume new
  pub files : files_of new ≡ files_in (second_of image)
  pub stay : All (FileStays image new) (files_of new)

-- If an image has whole blocks and a valid second copy, then its first copy has no fault, or the second copy saves its
-- files (`IsSaved`). This holds for any bytes in the first copy.
abbrev pub SecondCopySaves : Type 0
SecondCopySaves =
    (image : List ℕ) → length image % BLOCK ≡ 0 → is_second_good image ≡ true → (image_fault image ≡ None) ⊎
    IsSaved image

-- If a volume has two equal copies and any bytes overwrite the first copy, then the new image has no fault, or a repair
-- restores the old image.
abbrev pub DamageIsUndone : Type 0
DamageIsUndone =
    (image bytes : List ℕ) → IsVolume image → HasCopies image Same → length bytes ≡ DIRECTORY_SIZE
    → (image_fault (written image DIRECTORY bytes) ≡ None) ⊎ (repaired (written image DIRECTORY bytes) ≡ Ok image)

-- If an image is a volume, a repair does not change it.
abbrev pub GoodImagesStay : Type 0
GoodImagesStay = (image : List ℕ) → IsVolume image → repaired image ≡ Ok image
