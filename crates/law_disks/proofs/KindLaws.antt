-- Lemmas for a file that was copied from another volume, and for a file whose kind was set.
use Rattle.std.proofs.Common.{◌≡◌, ◌<◌, ◌≤◌, ℕ, zero, suc, ◌+◌, ◌-◌, ◌*◌, ◌%◌, Bool, true, false, cond, List, [], ◌∷◌, ◌++◌, ◌∙◌}
use Rattle.std.proofs.Common.{ap, sym, refl, subst, inl, inr, length, arith, Option, Some, None, Result, Ok, Err}
use Rattle.std.proofs.Math.Seq.{set-append_seam}
use Rattle.std.specs.Prelude.{slice_get, slice_set, if◌then◌else◌}
use Rattle.std.specs.List.{All, find, position_from}
use Rattle.std.proofs.lemmas.Bool.{cases_Bool}
use Rattle.std.proofs.lemmas.List.Elements.{All-head, All-tail}
use Rattle.pm_volume.specs.Changes.{new_entry, slot_named, with_kind}
use Rattle.pm_volume.specs.Copies.{mirrored}
use Rattle.pm_volume.specs.Directory.{IsVolume, directory_of, entries_from, entry_in, file_count, image_fault}
use Rattle.pm_volume.specs.Files.{file_bytes, file_named, files_of, is_named}
use Rattle.pm_volume.specs.Made.{added, kind_set, kind_set_at}
use Rattle.pm_volume.specs.Names.{is_same_name}
use Rattle.pm_volume.specs.Stays.{FileStays}
use Rattle.pm_volume.specs.declared.entry.Entry.{Entry}
use Rattle.pm_volume.specs.declared.fault.VolumeFault.{VolumeFault}
use Rattle.pm_volume.proofs.SecondLaws.{Changed-kinded}
use Rattle.pm_volume.proofs.RenameLaws.{files-split}
use Rattle.pm_volume.proofs.SlotChanges.{length-entries_from}
use Rattle.pm_filer.specs.Filed.{bytes_of_file, copied, copied_bytes, copied_from, file_in_slot, filed}
use Rattle.pm_filer.specs.Laws.{IsVolumeOfBytes, file_given}
use Rattle.law_disks.specs.Kinds.{AreAlike, CopyIsGot, CopyKeepsKind, CopySlotIsGot, CopySlotKeepsKind, KindIsSet, KindKeepsNames}
use Rattle.law_disks.proofs.FoundFiles.{found_stays, position-within}
use Rattle.law_disks.proofs.GivenLaws.{added_found, added_given, changed-ok}
use Rattle.law_disks.proofs.SalvagedFiles.{IsOfBytes, Small, entry-bytes, small-bytes, small-range}

some_of : {A : Type 0} (x y : A) → Some x ≡ Some y → x ≡ y
some_of x y h = cc

-- ---- a copy

record IsCopied (image name from : List ℕ) (entry : Option Entry) (new : List ℕ) : Type 0 where
  e : Entry
  found : entry ≡ Some e
  bytes : List ℕ
  had : file_bytes from e ≡ Some bytes
  made : added image name e.kind bytes e.date ≡ Ok new

with_bytes : (image name from : List ℕ) (e : Entry) (had : Option (List ℕ)) (new : List ℕ) → file_bytes from e ≡ had
    → copied_bytes image name e had ≡ Ok new → IsCopied image name from (Some e) new
with_bytes image name from e (Some bytes) new is h = record { e = e; found = refl; bytes = bytes; had = is; made = h }
with_bytes image name from e None new is h = cc

with_entry : (image name from : List ℕ) (entry : Option Entry) (new : List ℕ) → copied image name from entry ≡ Ok new
    → IsCopied image name from entry new
with_entry image name from (Some e) new h = with_bytes image name from e (file_bytes from e) new refl h
with_entry image name from None new h = cc

IsCopied-from_ok : (image name from : List ℕ) (entry : Option Entry) (fault : Option VolumeFault) (new : List ℕ)
    → copied_from image name from entry fault ≡ Ok new → IsCopied image name from entry new
IsCopied-from_ok image name from entry None new h = with_entry image name from entry new h
IsCopied-from_ok image name from entry (Some fault) new h = cc

-- If the elements of a directory are bytes, then an entry found in it has only byte values.
found-bytes : (directory : List ℕ) → Small directory → (p : Entry → Bool) (n left : ℕ) (e : Entry)
    → find p (entries_from directory n left) ≡ Some e → IsOfBytes e
unfolding entries_from
found-bytes directory small p n zero e is = cc
found-bytes directory small p n (suc left) e is = elim (cases_Bool (p (entry_in directory n))) [
  | inl here ↦
      let same : entry_in directory n ≡ e = some_of (entry_in directory n) e (rw here at is) in
      subst IsOfBytes same (entry-bytes _ (small-range directory (26 * n) (26 * n + 26) small))
  | inr on ↦ found-bytes directory small p (n + 1) left e (rw on at is)
]

-- If the elements of a directory are bytes, then the entry in each of its slots has only byte values.
slot-bytes : (directory : List ℕ) → Small directory → (n left i : ℕ) (e : Entry)
    → slice_get (entries_from directory n left) i ≡ Some e → IsOfBytes e
unfolding entries_from
slot-bytes directory small n zero zero e is = cc
slot-bytes directory small n zero (suc i) e is = cc
slot-bytes directory small n (suc left) zero e is =
    let same : entry_in directory n ≡ e = some_of (entry_in directory n) e is in
    subst IsOfBytes same (entry-bytes _ (small-range directory (26 * n) (26 * n + 26) small))
slot-bytes directory small n (suc left) (suc i) e is = slot-bytes directory small (n + 1) left i e is

-- The directory of a volume of bytes has only byte values.
small-directory : (from : List ℕ) → IsVolumeOfBytes from → Small (directory_of from)
small-directory from there = small-range from 1024 3072 (small-bytes from there.bytes)

named-bytes : (from name : List ℕ) (e : Entry) → IsVolumeOfBytes from → file_named from name ≡ Some e → IsOfBytes e
named-bytes from name e there found =
    found-bytes (directory_of from) (small-directory from there) (is_named name) 1 (file_count (directory_of from)) e found

in_slot-bytes : (from : List ℕ) (slot : ℕ) (e : Entry) → IsVolumeOfBytes from → file_in_slot from slot ≡ Some e
    → IsOfBytes e
in_slot-bytes from zero e there found = cc
in_slot-bytes from (suc before) e there found =
    slot-bytes (directory_of from) (small-directory from there) 1 (file_count (directory_of from)) before e found

-- A file that was copied from an entry with byte values is given by its name, and has the kind and the date of the
-- entry.
module _ (image name from : List ℕ) (entry : Option Entry) (new : List ℕ) (b : IsVolumeOfBytes image)
    (c : IsCopied image name from entry new) (of_bytes : IsOfBytes c.e) where
  given_copied : (other : List ℕ) → file_given new other
      ≡ (if is_same_name name other then bytes_of_file from entry else file_given image other)
  given_copied other =
      let has : bytes_of_file from entry ≡ Some c.bytes = ap (bytes_of_file from) c.found ∙ c.had in
      added_given image name c.e.kind c.bytes c.e.date new b of_bytes.date c.made other
      ∙ sym (ap (λ given. cond (is_same_name name other) given (file_given image other)) has)

  alike_copied : (old copy : Entry) → entry ≡ Some old → file_named new name ≡ Some copy → AreAlike copy old
  alike_copied old copy found told =
      let made = added_found image name c.e.kind c.bytes c.e.date new b of_bytes.date c.made in
      let same = some_of (new_entry made.0 name c.e.kind (length c.bytes) c.e.date) copy (sym made.1 ∙ told) in
      let own = some_of c.e old (sym c.found ∙ found) in
      let kind : c.e.kind % 16 ≡ c.e.kind = omega (arith, of_bytes.kind) in record {
        kind = sym (ap (λ (e : Entry). e.kind) same) ∙ kind ∙ ap (λ (e : Entry). e.kind) own;
        date = sym (ap (λ (e : Entry). e.date) same) ∙ ap (λ (e : Entry). e.date) own;
      }

pub copy_is_got : CopyIsGot
unfolding filed
copy_is_got image name from f b there done other =
    let c = IsCopied-from_ok image name from (file_named from name) (image_fault from) f.image (changed-ok _ f done) in
    given_copied image name from (file_named from name) f.image b c (named-bytes from name c.e there c.found) other

pub copy_keeps_kind : CopyKeepsKind
unfolding filed
copy_keeps_kind image name from f b there done old new found told =
    let c = IsCopied-from_ok image name from (file_named from name) (image_fault from) f.image (changed-ok _ f done) in
    alike_copied image name from (file_named from name) f.image b c (named-bytes from name c.e there c.found)
    old new found told

pub slot_copy_is_got : CopySlotIsGot
unfolding filed
slot_copy_is_got image name from slot f b there done other =
    let entry = file_in_slot from slot in
    let c = IsCopied-from_ok image name from entry (image_fault from) f.image (changed-ok _ f done) in
    given_copied image name from entry f.image b c (in_slot-bytes from slot c.e there c.found) other

pub slot_copy_keeps_kind : CopySlotKeepsKind
unfolding filed
slot_copy_keeps_kind image name from slot f b there done old new found told =
    let entry = file_in_slot from slot in
    let c = IsCopied-from_ok image name from entry (image_fault from) f.image (changed-ok _ f done) in
    alike_copied image name from entry f.image b c (in_slot-bytes from slot c.e there c.found) old new found told

-- ---- another kind

kinded-ok : (image : List ℕ) (kind : ℕ) (chosen : Option ℕ) (new : List ℕ) → kind_set_at image kind chosen ≡ Ok new
    → (slot : ℕ) × (chosen ≡ Some slot) × (mirrored (with_kind image slot kind) ≡ new)
kinded-ok image kind (Some slot) new h = (slot, refl, cc)
kinded-ok image kind None new h = cc

-- If the kind of the first file with a name is set, then this file is still the first file with the name.
found_kinded : (p : Entry → Bool) (n : ℕ) (front : List Entry) (e x : Entry) (back : List Entry)
    → position_from p n (front ++ e ∷ back) ≡ Some (n + length front) → p x ≡ p e
    → (find p (front ++ x ∷ back) ≡ Some x) × (find p (front ++ e ∷ back) ≡ Some e)
found_kinded p n [] e x back at alike = elim (cases_Bool (p e)) [
  | inl here ↦ let other : p x ≡ true = alike ∙ here in (rw other refl, rw here refl)
  | inr on ↦ let late = position-within p (n + 1) back (n + 0) (rw on at at) in absurd (omega (arith, late.0))
]
found_kinded p n (h ∷ front) e x back at alike = elim (cases_Bool (p h)) [
  | inl here ↦ let early = some_of n (n + suc (length front)) (rw here at at) in absurd (omega (arith, early))
  | inr on ↦
      let next : position_from p (n + 1) (front ++ e ∷ back) ≡ Some (n + 1 + length front) =
      (rw on at at) ∙ ap Some (omega arith) in
      let rest = found_kinded p (n + 1) front e x back next alike in (rw on rest.0, rw on rest.1)
]

bytes_kinded : (image : List ℕ) (e : Entry) (kind : ℕ) → file_bytes image (record e { kind = kind }) ≡ file_bytes image e
unfolding file_bytes
bytes_kinded image e kind = refl

-- If only the kind of a file changes, then every name gives the bytes that it gave before.
given_kinded : (name old new : List ℕ) (front : List Entry) (e : Entry) (kind : ℕ) (back : List Entry)
    → All (FileStays old new) (front ++ e ∷ back)
    → bytes_of_file new (find (is_named name) (front ++ (record e { kind = kind }) ∷ back))
    ≡ bytes_of_file old (find (is_named name) (front ++ e ∷ back))
given_kinded name old new [] e kind back stay = elim (cases_Bool (is_named name e)) [
  | inl here ↦ rw here (bytes_kinded new e kind ∙ (All-head (FileStays old new) e back stay).bytes)
  | inr on ↦ rw on (found_stays (is_named name) old new back (All-tail (FileStays old new) e back stay))
]
given_kinded name old new (h ∷ front) e kind back stay = elim (cases_Bool (is_named name h)) [
  | inl here ↦ rw here (All-head (FileStays old new) h (front ++ e ∷ back) stay).bytes
  | inr on ↦ rw on (given_kinded name old new front e kind back (All-tail (FileStays old new) h (front ++ e ∷ back) stay))
]

module _ (image name : List ℕ) (kind slot : ℕ) (v : IsVolume image) (chosen : slot_named (directory_of image) name ≡ Some slot)
  where
    d : List ℕ
    d = directory_of image

    front : List Entry
    front = entries_from d 1 (slot - 1)

    file : Entry
    file = entry_in d slot

    back : List Entry
    back = entries_from d (slot + 1) (file_count d - slot)

    kinded : Entry
    kinded = record file { kind = kind % 16 }

    within : (1 ≤ slot) × (slot < 1 + length (files_of image))
    within = position-within (is_named name) 1 (files_of image) slot chosen

    last : slot ≤ file_count d
    unfolding d
    last = omega (arith, within.1, length-entries_from d (file_count d) 1)

    parts : files_of image ≡ front ++ file ∷ back
    unfolding front file back d
    parts = files-split d slot within.0 last

    length-front : length front ≡ slot - 1
    unfolding front
    length-front = length-entries_from d (slot - 1) 1

    after : List ℕ
    after = mirrored (with_kind image slot kind)

    files : files_of after ≡ front ++ kinded ∷ back
    unfolding after kinded file d
    files =
        (Changed-kinded image v kind slot within.0 last).files
        ∙ ap (λ (es : List Entry). slice_set es (slot - 1) kinded) parts
        ∙ ap (λ (i : ℕ). slice_set (front ++ file ∷ back) i kinded) (sym length-front)
        ∙ set-append_seam front file back kinded

    place : position_from (is_named name) 1 (front ++ file ∷ back) ≡ Some (1 + length front)
    unfolding d
    place = ap (position_from (is_named name) 1) (sym parts) ∙ chosen
        ∙ ap Some (let n = length-front in let from = within.0 in omega (arith, n, from))

    pub kinded_found : (e : Entry) → file_named image name ≡ Some e
        → file_named (mirrored (with_kind image slot kind)) name ≡ Some (record e { kind = kind % 16 })
    unfolding after kinded file
    kinded_found e found =
        let both = found_kinded (is_named name) 1 front file kinded back place refl in
        let own : file ≡ e = some_of file e (sym (ap (find (is_named name)) parts ∙ both.1) ∙ found) in
        ap (find (is_named name)) files ∙ both.0 ∙ ap (λ (e : Entry). Some (record e { kind = kind % 16 })) own

    pub kinded_given : (other : List ℕ)
        → file_given (mirrored (with_kind image slot kind)) other ≡ file_given image other
    unfolding after kinded file d
    kinded_given other =
        let stay = subst (All (FileStays image after)) parts (Changed-kinded image v kind slot within.0 last).stay in
        ap (λ (es : List Entry). bytes_of_file after (find (is_named other) es)) files
        ∙ given_kinded other image after front file (kind % 16) back stay
        ∙ sym (ap (λ (es : List Entry). bytes_of_file image (find (is_named other) es)) parts)

pub kind_is_set : KindIsSet
unfolding filed kind_set
kind_is_set image name kind f v done e found =
    let parts = kinded-ok image kind (slot_named (directory_of image) name) f.image (changed-ok _ f done) in
    subst (λ new. file_named new name ≡ Some (record e { kind = kind % 16 })) parts.2
    (kinded_found image name kind parts.0 v parts.1 e found)

pub kind_keeps_names : KindKeepsNames
unfolding filed kind_set
kind_keeps_names image name kind f v done other =
    let parts = kinded-ok image kind (slot_named (directory_of image) name) f.image (changed-ok _ f done) in
    subst (λ new. file_given new other ≡ file_given image other) parts.2 (kinded_given image name kind parts.0 v parts.1 other)
