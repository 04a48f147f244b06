-- Laws of a volume after `Zero`, and of the largest gap of a volume.
use Rattle.std.specs.Prelude.{◌≡◌, ◌≤◌, ◌+◌, ℕ, List, [], Ok}
use Rattle.pm_volume.specs.Directory.{IsVolume, block_count, directory_of, files_begin}
use Rattle.pm_volume.specs.Files.{files_of}
use Rattle.pm_volume.specs.Headers.{last_date_of}
use Rattle.pm_volume.specs.Space.{largest_gap}
use Rattle.pm_filer.specs.Filed.{Filed, Zero, filed}
use Rattle.pm_filer.specs.Laws.{AreFree, IsVolumeOfBytes}

-- The volume `new` has no files. Its date, its number of blocks and the block where files begin are those of `old`.
pub record IsEmptied (old new : List ℕ) : Type 0 where
  pub empty : files_of new ≡ []
  pub date : last_date_of (directory_of new) ≡ last_date_of (directory_of old)
  pub blocks : block_count (directory_of new) ≡ block_count (directory_of old)
  pub begin : files_begin (directory_of new) ≡ files_begin (directory_of old)

abbrev pub ZeroKeepsTheVolume : Type 0
ZeroKeepsTheVolume =
    (image name : List ℕ) (f : Filed) → IsVolumeOfBytes image → filed image (Zero name) ≡ Ok f → IsEmptied image f.image

-- Some range of `size` blocks is free, and no range of more blocks is free.
pub record IsLargestGap (directory : List ℕ) (size : ℕ) : Type 0 where
  pub begin : ℕ
  pub free : AreFree directory begin (begin + size)
  pub largest : (other count : ℕ) → AreFree directory other (other + count) → count ≤ size

abbrev pub LargestIsAGap : Type 0
LargestIsAGap = (image : List ℕ) → IsVolume image → IsLargestGap (directory_of image) (largest_gap image)
