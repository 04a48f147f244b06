-- Laws of images in which the directory is replaced.
use Rattle.std.proofs.Common.{◌≡◌, ◌≤◌, ℕ, ◌+◌, ◌-◌, ◌/◌, ◌%◌, List, ◌∙◌, ap, length, get_or, arith}
use Rattle.std.proofs.lemmas.List.{take_all}
use Rattle.pm_volume.specs.Changes.{with_directory}
use Rattle.pm_volume.specs.Directory.{IsDirectory, IsVolume, directory_of}
use Rattle.pm_volume.proofs.WrittenLaws.{get_written_in, length-written, same_parts}

-- If the directory of an image is replaced by `d`, then the directory of the result is `d`.
pub directory-with : (image d : List ℕ) → 3072 ≤ length image → length d ≡ 2048 → directory_of (with_directory image d) ≡ d
directory-with image d long size =
    let same = length-written image 1024 d (omega arith) in
    same_parts (with_directory image d) d 1024 0 2048 (omega arith) (omega arith) (λ k below.
    let at : (1024 + k) - 1024 ≡ 0 + k = omega arith in
    get_written_in image 1024 d (1024 + k) (omega arith) (omega arith) (omega arith) ∙ ap (λ (i : ℕ). get_or d i 0) at)
    ∙ take_all 2048 d (omega arith)

-- If an image of whole blocks gets a valid directory, then the result is a volume.
pub IsVolume-from_directory : (image d : List ℕ) → length image % 512 ≡ 0 → 3072 ≤ length image → length d ≡ 2048
    → IsDirectory d (length image / 512) → IsVolume (with_directory image d)
IsVolume-from_directory image d whole long size listing =
    let same = length-written image 1024 d (omega arith) in
    record {
      whole = rw same whole;
      long = rw same long;
      has_directory = rw (directory-with image d long size, same) listing;
    }

-- If a volume gets another valid directory, then the result is a volume.
pub IsVolume-with : (image d : List ℕ) → IsVolume image → length d ≡ 2048 → IsDirectory d (length image / 512) → IsVolume (with_directory image d)
IsVolume-with image d v size listing = IsVolume-from_directory image d v.whole v.long size listing
