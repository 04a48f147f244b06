-- Each change of a volume, stated as a function of its image (for the system segment).
use Rattle.std.proofs.Common.{◌≡◌, ℕ, List, length, Ok, Err, None, refl}
use Rattle.pm_volume.specs.Changes.{AddsFile, RemovesFile, blocks_for, place_for, slot_named}
use Rattle.pm_volume.specs.Directory.{directory_of}
use Rattle.pm_volume.specs.Made.{added, file_removed}
use Rattle.pm_volume.specs.declared.entry.Entry.{Entry}
use Rattle.pm_volume.specs.declared.fault.VolumeFault.{VolumeFault}
use Rattle.pm_volume.specs.declared.fault.VolumeFault.TheVariants.{NoFile}

pub made-added : (old new name : List ℕ) (kind : ℕ) (bytes : List ℕ) (date : ℕ) (e : Entry)
    → AddsFile old new name kind bytes date e → added old name kind bytes date ≡ Ok new
unfolding added
made-added old new name kind bytes date e a = rw (a.placed, a.image, a.entry) refl

pub made-removed : (old new name : List ℕ) → RemovesFile old new (slot_named (directory_of old) name)
    → file_removed old name ≡ Ok new
unfolding file_removed
made-removed old new name a = rw (a.found, a.image) refl

pub made-unadded : (image name : List ℕ) (kind : ℕ) (bytes : List ℕ) (date : ℕ) (fault : VolumeFault)
    → place_for image name (blocks_for (length bytes)) ≡ Err fault → added image name kind bytes date ≡ Err fault
unfolding added
made-unadded image name kind bytes date fault e = rw e refl

pub made-unremoved : (image name : List ℕ) → slot_named (directory_of image) name ≡ None
    → file_removed image name ≡ Err NoFile
unfolding file_removed
made-unremoved image name e = rw e refl

pub ruleset made = (made-added, made-unadded, made-unremoved)
