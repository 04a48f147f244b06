-- New .2mg files, and the position of a volume after a header of DiskCopy 4.2.
use Rattle.std.proofs.Common.{◌≡◌, ◌+◌, ℕ, Bool, true, false, List, [], None, Some, refl, length, length-append}
use Rattle.std.specs.Prelude.{if◌then◌else◌}
use Rattle.pm_check.specs.Headed.{filed, new_file, plain_header, span_of}
use Rattle.pm_convert.specs.Covers.{has_disk_copy, part_in}
use Rattle.pm_convert.specs.Sums.{high_long}
use Rattle.pm_convert.specs.declared.cover.Part.{Part}
use Rattle.pm_convert.specs.declared.format.Cover.{Cover}
use Rattle.pm_convert.specs.declared.format.Cover.TheVariants as covers

-- A volume that replaces an empty file gets a new header.
pub filed_new : (volume : List ℕ) → filed [] volume ≡ new_file volume
unfolding filed span_of
filed_new volume = refl

-- A new file begins with a header of 64 bytes.
pub new_file_size : (volume : List ℕ) → length (new_file volume) ≡ 64 + length volume
unfolding new_file plain_header
new_file_size volume = length-append (plain_header (length volume)) volume

pub ruleset new_steps = (filed_new, new_file_size)

-- After a header of DiskCopy 4.2 the volume begins at offset 84.
pub disk_copy_begin : (cover : Cover) (image : List ℕ) (part : Part) → part_in cover image ≡ Some part
    → cover ≡ covers.DiskCopy → part.begin ≡ 84
disk_copy_begin covers.Bare image part found is = cc
disk_copy_begin covers.TwoImg image part found is = cc
disk_copy_begin covers.DiskCopy image part found is = go (has_disk_copy image) found
  where
    go : (b : Bool) → (if b then Some (record { begin = 84; size = high_long image 64 }) else None) ≡ Some part → part.begin ≡ 84
    go true e = cc
    go false e = cc
