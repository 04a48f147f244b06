-- Laws of how `RemoveSlot` and `ChangeSlot` change the list of files. The slot of a file is one more than the number of
-- files before it in the list.
use Rattle.std.specs.Prelude.{◌≡◌, ◌+◌, ℕ, true, false, List, ◌∷◌, ◌++◌, length, None, Result, Ok, IsOk}
use Rattle.std.specs.List.{All, list_any}
use Rattle.pm_volume.specs.Directory.{IsVolume}
use Rattle.pm_volume.specs.Files.{file_bytes, files_of, is_named}
use Rattle.pm_volume.specs.Names.{is_new_name, name_field}
use Rattle.pm_volume.specs.declared.entry.Entry.{Entry}
use Rattle.pm_volume.specs.declared.fault.VolumeFault.TheVariants.{BadName, Duplicate, NoFile}
use Rattle.pm_filer.specs.Filed.{Done, Filed, Remove, Change, RemoveSlot, ChangeSlot, file_in_slot, filed}
use Rattle.pm_filer.specs.declared.fault.FilerFault.{FilerFault}
use Rattle.law_disks.specs.Refusals.{IsRefused}

-- Is true if the entries `files` have the same bytes in the images `old` and `new`.
abbrev pub HaveBytesOf : List ℕ → List ℕ → List Entry → Type 0
HaveBytesOf old new files = All (λ (e : Entry). file_bytes new e ≡ file_bytes old e) files

-- A command on the image `old` succeeds with the answer `Done`. The list of files is then `list`, and the entries
-- `stay` have the same bytes as before.
pub record LeavesFiles (old : List ℕ) (outcome : Result Filed FilerFault) (list stay : List Entry) : Type 0 where
  pub new : List ℕ
  pub done : outcome ≡ Ok (record { image = new; answer = Done })
  pub files : files_of new ≡ list
  pub bytes : HaveBytesOf old new stay

-- `RemoveSlot` with the slot of a file of a volume succeeds. The list of files is then the old list without this file.
-- All other files have the same order and the same bytes as before, for any names.
abbrev pub RemovalTakesOne : Type 0
RemovalTakesOne =
    (image : List ℕ) (before after : List Entry) (e : Entry) → IsVolume image → files_of image ≡ before ++ e ∷ after
    → LeavesFiles image (filed image (RemoveSlot (length before + 1))) (before ++ after) (before ++ after)

-- `ChangeSlot` with the slot of a file of a volume succeeds if the new name is valid and no other file has it. The file
-- then has the new name at the same position of the list. Nothing else in the list changes. All files have the bytes
-- that they had before.
abbrev pub ChangeNamesOne : Type 0
ChangeNamesOne =
    (image : List ℕ) (before after : List Entry) (e : Entry) (new : List ℕ) → IsVolume image
    → files_of image ≡ before ++ e ∷ after → is_new_name 15 new ≡ true
    → list_any (is_named new) (before ++ after) ≡ false
    → LeavesFiles image (filed image (ChangeSlot (length before + 1) new))
    (before ++ record e { name = name_field 15 new } ∷ after) (before ++ e ∷ after)

-- `outcome` is the outcome of a `ChangeSlot`. Its refusals are checked in this order: the new name is invalid; another
-- file has the new name.
pub record SlotChangeTellsFirst (before after : List Entry) (new : List ℕ) (outcome : Result Filed FilerFault) : Type 0
  where
    pub bad_name : is_new_name 15 new ≡ false → IsRefused BadName outcome
    pub there : is_new_name 15 new ≡ true → list_any (is_named new) (before ++ after) ≡ true
        → IsRefused Duplicate outcome
    pub done : is_new_name 15 new ≡ true → list_any (is_named new) (before ++ after) ≡ false → IsOk outcome

abbrev pub SlotChangesTellFirst : Type 0
SlotChangesTellFirst =
    (image : List ℕ) (before after : List Entry) (e : Entry) (new : List ℕ) → files_of image ≡ before ++ e ∷ after
    → SlotChangeTellsFirst before after new (filed image (ChangeSlot (length before + 1) new))

-- `RemoveSlot`, and `ChangeSlot` with any new name, are refused with `NoFile` if the slot has no file.
abbrev pub EmptySlotsAreRefused : Type 0
EmptySlotsAreRefused =
    (image : List ℕ) (slot : ℕ) → file_in_slot image slot ≡ None
    → IsRefused NoFile (filed image (RemoveSlot slot))
    × ((new : List ℕ) → IsRefused NoFile (filed image (ChangeSlot slot new)))

-- `Remove` and `Change` of a name give the same result as `RemoveSlot` and `ChangeSlot` of the slot of the first file
-- that has the name.
abbrev pub NamesAreSlots : Type 0
NamesAreSlots =
    (image : List ℕ) (before after : List Entry) (e : Entry) (name : List ℕ) → files_of image ≡ before ++ e ∷ after
    → list_any (is_named name) before ≡ false → is_named name e ≡ true
    → (filed image (Remove name) ≡ filed image (RemoveSlot (length before + 1)))
    × ((new : List ℕ) → filed image (Change name new) ≡ filed image (ChangeSlot (length before + 1) new))
