-- Each change of a volume, stated as a function of its image (for commands).
use Rattle.std.proofs.Common.{◌≡◌, ℕ, List, length, Ok, Err, None, true, false, refl}
use Rattle.pm_volume.specs.Changes.{AddsFile, RemovesFile, RenamesFile, SetsKind, blocks_for, place_for, slot_named, slot_numbered}
use Rattle.pm_volume.specs.Changes.{slot_to_rename}
use Rattle.pm_volume.specs.Directory.{directory_of}
use Rattle.pm_volume.specs.Made.{added, file_removed, kind_set, renamed, slot_kind_set, slot_removed, slot_renamed, zeroed}
use Rattle.pm_volume.specs.Headers.{zeroed_image}
use Rattle.pm_volume.specs.Names.{is_new_name}
use Rattle.pm_volume.specs.declared.entry.Entry.{Entry}
use Rattle.pm_volume.specs.declared.fault.VolumeFault.{VolumeFault}
use Rattle.pm_volume.specs.declared.fault.VolumeFault.TheVariants.{BadName, NoFile}

pub made-added : (old new name : List ℕ) (kind : ℕ) (bytes : List ℕ) (date : ℕ) (e : Entry) → AddsFile old new name kind bytes date e →
    added old name kind bytes date ≡ Ok new
unfolding added
made-added old new name kind bytes date e a = rw (a.placed, a.image, a.entry) refl

pub made-removed : (old new name : List ℕ) → RemovesFile old new (slot_named (directory_of old) name) → file_removed old name ≡ Ok new
unfolding file_removed
made-removed old new name a = rw (a.found, a.image) refl

pub made-slot_removed : (old new : List ℕ) (slot : ℕ) → RemovesFile old new (slot_numbered (directory_of old) slot) → slot_removed old slot ≡ Ok new
unfolding slot_removed
made-slot_removed old new slot a = rw (a.found, a.image) refl

pub made-unadded : (image name : List ℕ) (kind : ℕ) (bytes : List ℕ) (date : ℕ) (fault : VolumeFault) →
    place_for image name (blocks_for (length bytes)) ≡ Err fault → added image name kind bytes date ≡ Err fault
unfolding added
made-unadded image name kind bytes date fault e = rw e refl

pub made-unremoved : (image name : List ℕ) → slot_named (directory_of image) name ≡ None → file_removed image name ≡ Err NoFile
unfolding file_removed
made-unremoved image name e = rw e refl

pub made-slot_unremoved : (image : List ℕ) (slot : ℕ) → slot_numbered (directory_of image) slot ≡ None → slot_removed image slot ≡ Err NoFile
unfolding slot_removed
made-slot_unremoved image slot e = rw e refl

pub made-renamed : (old new from to : List ℕ) → RenamesFile old new (slot_named (directory_of old) from) to → renamed old from to ≡ Ok new
unfolding renamed
made-renamed old new from to a = rw (a.found, a.image) refl

pub made-slot_renamed : (old new : List ℕ) (slot : ℕ) (to : List ℕ) → RenamesFile old new (slot_numbered (directory_of old) slot) to →
    slot_renamed old slot to ≡ Ok new
unfolding slot_renamed
made-slot_renamed old new slot to a = rw (a.found, a.image) refl

pub made-unrenamed : (image from to : List ℕ) (fault : VolumeFault) →
    slot_to_rename (directory_of image) (slot_named (directory_of image) from) to ≡ Err fault → renamed image from to ≡ Err fault
unfolding renamed
made-unrenamed image from to fault e = rw e refl

pub made-slot_unrenamed : (image : List ℕ) (slot : ℕ) (to : List ℕ) (fault : VolumeFault) →
    slot_to_rename (directory_of image) (slot_numbered (directory_of image) slot) to ≡ Err fault → slot_renamed image slot to ≡ Err fault
unfolding slot_renamed
made-slot_unrenamed image slot to fault e = rw e refl

pub made-kind_set : (old new name : List ℕ) (kind : ℕ) → SetsKind old new (slot_named (directory_of old) name) kind → kind_set old name kind ≡ Ok new
unfolding kind_set
made-kind_set old new name kind a = rw (a.found, a.image) refl

pub made-kind_unset : (image name : List ℕ) (kind : ℕ) → slot_named (directory_of image) name ≡ None → kind_set image name kind ≡ Err NoFile
unfolding kind_set
made-kind_unset image name kind e = rw e refl

pub made-slot_kind_set : (old new : List ℕ) (slot kind : ℕ) → SetsKind old new (slot_numbered (directory_of old) slot) kind →
    slot_kind_set old slot kind ≡ Ok new
unfolding slot_kind_set
made-slot_kind_set old new slot kind a = rw (a.found, a.image) refl

pub made-slot_kind_unset : (image : List ℕ) (slot kind : ℕ) → slot_numbered (directory_of image) slot ≡ None → slot_kind_set image slot kind ≡ Err NoFile
unfolding slot_kind_set
made-slot_kind_unset image slot kind e = rw e refl

pub made-zeroed : (old new name : List ℕ) → is_new_name 7 name ≡ true → new ≡ zeroed_image old name → zeroed old name ≡ Ok new
unfolding zeroed
made-zeroed old new name good e = rw (good, e) refl

pub made-unzeroed : (image name : List ℕ) → is_new_name 7 name ≡ false → zeroed image name ≡ Err BadName
unfolding zeroed
made-unzeroed image name bad = rw bad refl

pub ruleset made = (
  made-zeroed,
  made-unzeroed,
  made-added,
  made-unadded,
  made-unremoved,
  made-slot_unremoved,
  made-kind_set,
  made-kind_unset,
  made-slot_kind_set,
  made-slot_kind_unset,
)
