-- If a file is replaced, then all other files are unchanged.
use Rattle.std.proofs.Common.{◌∙◌, ◌-◌, ℕ, suc, List, Result, Ok, Err, subst, IfSome}
use Rattle.std.specs.Prelude.{OnOk}
use Rattle.std.proofs.lemmas.List.Elements.{All-append, All-drop, All-take}
use Rattle.std.specs.List.{All, remove}
use Rattle.pm_volume.specs.Changes.{RemovesFile, slot_named}
use Rattle.pm_volume.specs.Directory.{directory_of}
use Rattle.pm_volume.specs.Files.{files_of}
use Rattle.pm_volume.specs.Stays.{FileStays, FilesStay}
use Rattle.pm_volume.specs.declared.entry.Entry.{Entry}

All-remove : (P : Entry → Type 0) (xs : List Entry) (i : ℕ) → All P xs → All P (remove xs i)
All-remove P xs i h = All-append P _ _ (All-take P i xs h) (All-drop P (suc i) xs h)

stay_twice : (old mid new : List ℕ) (xs : List Entry) → All (FileStays old mid) xs → All (FileStays mid new) xs
    → All (FileStays old new) xs
stay_twice old mid new xs first second = λ k d low. record {
  bytes = (second k d low).bytes ∙ (first k d low).bytes;
  blocks = (second k d low).blocks ∙ (first k d low).blocks;
}

pub stay_beside : (old mid new name : List ℕ) → RemovesFile old mid (slot_named (directory_of old) name)
    → FilesStay old mid → FilesStay mid new
    → IfSome (slot_named (directory_of old) name) (λ slot. All (FileStays old new) (remove (files_of old) (slot - 1)))
stay_beside old mid new name removed first second =
    rw removed.found (stay_twice old mid new (remove (files_of old) (removed.slot - 1))
    (All-remove (FileStays old mid) (files_of old) (removed.slot - 1) first)
    (subst (λ files. All (FileStays mid new) files) removed.files second))

-- If `A` implies `B`, and `A` holds if the result is `Ok`, then `B` holds if the result is `Ok`.
pub where_ok : {X Y : Type 0} {A B : Type 0} (r : Result X Y) → (A → B) → OnOk r A → OnOk r B
where_ok (Ok x) f a = f a
where_ok (Err e) f a = tt
