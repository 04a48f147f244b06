-- Lemmas for the bytes that names give after a `Change`. A name *gives* the bytes of the first file with this name.
use Rattle.std.proofs.Common.{◌≡◌, ◌<◌, ◌≤◌, ℕ, ◌+◌, ◌-◌, Bool, true, false, cond, not, List, [], ◌∷◌, ◌++◌, ◌∙◌, ap, sym, refl, inl, inr, length, slice_set}
use Rattle.std.proofs.Common.{Option, Some, None, Result, Ok, Err, arith, subst}
use Rattle.std.proofs.lemmas.Bool.{cases_Bool}
use Rattle.std.proofs.Math.Seq.{set-append_seam}
use Rattle.std.specs.List.{find, list_any, position_from}
use Rattle.pm_volume.specs.Changes.{is_named_beside, slot_named, slot_to_rename, with_name}
use Rattle.pm_volume.specs.Copies.{mirrored}
use Rattle.pm_volume.specs.Directory.{IsVolume, directory_of, entries_from, entry_in, file_count}
use Rattle.pm_volume.specs.Files.{file_bytes, files_of, is_named}
use Rattle.pm_volume.specs.Made.{renamed, renamed_at}
use Rattle.pm_volume.specs.Names.{is_new_name, is_same_name, name_field}
use Rattle.pm_volume.specs.declared.entry.Entry.{Entry}
use Rattle.pm_volume.specs.declared.fault.VolumeFault.{VolumeFault}
use Rattle.pm_volume.specs.declared.fault.VolumeFault.TheVariants.{BadName}
use Rattle.pm_volume.proofs.NameLaws.{length-new_name}
use Rattle.pm_volume.proofs.RenameLaws.{files-split}
use Rattle.pm_volume.proofs.SecondLaws.{Changed-named}
use Rattle.pm_volume.proofs.SlotChanges.{length-entries_from}
use Rattle.pm_filer.specs.Filed.{bytes_of_file, filed}
use Rattle.pm_filer.specs.Laws.{ChangeKeepsOthers, NewNameGives, file_given}
use Rattle.law_disks.proofs.FoundFiles.{found_stays, position-within}
use Rattle.law_disks.proofs.GivenLaws.{changed-ok, missed}
use Rattle.law_disks.proofs.SameNames.{named-new, same-from_upper, same-right, upper-from_same}

-- If the first file that satisfies `p` is at the position `slot`, then `find` returns this file.
found_at : (p : Entry → Bool) (n slot : ℕ) (xs : List Entry) (e : Entry) (ys : List Entry) → position_from p n (xs ++ e ∷ ys) ≡ Some slot → slot ≡ n + length xs
    → (p e ≡ true) × (find p (xs ++ e ∷ ys) ≡ Some e)
found_at p n slot [] e ys found at = elim (cases_Bool (p e)) [
  | inl here ↦ rw here (refl, refl)
  | inr on ↦
      let rest : position_from p (n + 1) ys ≡ Some slot = rw on at found in
      absurd (omega (arith, (position-within p (n + 1) ys slot rest).0))
]
found_at p n slot (x ∷ xs) e ys found at = elim (cases_Bool (p x)) [
  | inl here ↦
      let first : Some n ≡ Some slot = rw here at found in
      let same : n ≡ slot = cc in
      absurd (omega arith)
  | inr on ↦
      let rest : position_from p (n + 1) (xs ++ e ∷ ys) ≡ Some slot = rw on at found in
      let told = found_at p (n + 1) slot xs e ys rest (omega arith) in
      rw on told
]

-- If only one file satisfies `p`, then `find` returns it.
found_only : (p : Entry → Bool) (xs : List Entry) (e : Entry) (ys : List Entry) → p e ≡ true → list_any p (xs ++ ys) ≡ false → find p (xs ++ e ∷ ys) ≡ Some e
found_only p [] e ys here none = rw here refl
found_only p (x ∷ xs) e ys here none = elim (cases_Bool (p x)) [
  | inl found ↦ let some : true ≡ false = rw found at none in cc
  | inr on ↦ let rest : list_any p (xs ++ ys) ≡ false = rw on at none in rw on (found_only p xs e ys here rest)
]

-- If a file and its replacement both fail the test `p`, then `find` returns the same file after the replacement.
found_past : (p : Entry → Bool) (xs : List Entry) (e e' : Entry) (ys : List Entry) → p e ≡ false → p e' ≡ false → find p (xs ++ e' ∷ ys) ≡ find p (xs ++ e ∷ ys)
found_past p [] e e' ys stops stops' = rw (stops, stops') refl
found_past p (x ∷ xs) e e' ys stops stops' = elim (cases_Bool (p x)) [
  | inl found ↦ rw found refl
  | inr on ↦ rw on (found_past p xs e e' ys stops stops')
]

any_same : (p q : Entry → Bool) (es : List Entry) → ((e : Entry) → p e ≡ q e) → list_any p es ≡ list_any q es
any_same p q [] same = refl
any_same p q (e ∷ es) same = rw (same e, any_same p q es same) refl

-- The slot `slot` is found for a `Change` from `old` to `new`, and the new name is valid and not used by another file.
record IsSlot (directory old new : List ℕ) (slot : ℕ) : Type 0 where
  found : slot_named directory old ≡ Some slot
  named : is_new_name 15 new ≡ true
  alone : is_named_beside directory slot new ≡ false

IsSlot-from_ok : (directory old new : List ℕ) (slot : ℕ) → slot_to_rename directory (slot_named directory old) new ≡ Ok slot → IsSlot directory old new slot
unfolding slot_to_rename
IsSlot-from_ok directory old new slot done = told (slot_named directory old) refl done
  where
    told : (o : Option ℕ) → slot_named directory old ≡ o → slot_to_rename directory o new ≡ Ok slot → IsSlot directory old new slot
    told None here h = cc
    told (Some n) here h =
        let name = passed-named (is_new_name 15 new) _ h in
        let alone = missed (is_named_beside directory n new) _ _ slot name.1 in
        let same : n ≡ slot = cc in
        subst (IsSlot directory old new) same (record { found = here; named = name.0; alone = alone.0 })
      where
        passed-named : (b : Bool) (rest : Result ℕ VolumeFault) → cond (not b) (Err BadName) rest ≡ Ok slot → (b ≡ true) × (rest ≡ Ok slot)
        passed-named true rest h = (refl, h)
        passed-named false rest h = cc

module _ (image old new other : List ℕ) (slot : ℕ) (v : IsVolume image) (s : IsSlot (directory_of image) old new slot) where
  d : List ℕ
  d = directory_of image

  front : List Entry
  front = entries_from d 1 (slot - 1)

  file : Entry
  file = entry_in d slot

  back : List Entry
  back = entries_from d (slot + 1) (file_count d - slot)

  named : Entry
  named = record file { name = name_field 15 new }

  within : (1 ≤ slot) × (slot < 1 + length (files_of image))
  within = position-within (is_named old) 1 (files_of image) slot s.found

  last : slot ≤ file_count d
  unfolding d
  last = omega (arith, within.1, length-entries_from d (file_count d) 1)

  parts : files_of image ≡ front ++ file ∷ back
  unfolding front file back d
  parts = files-split d slot within.0 last

  length-front : length front ≡ slot - 1
  unfolding front
  length-front = length-entries_from d (slot - 1) 1

  size : (1 ≤ length new) × (length new ≤ 15)
  size = length-new_name 15 new s.named

  after : List ℕ
  after = mirrored (with_name image slot new)

  files : files_of after ≡ front ++ named ∷ back
  unfolding after named file d
  files =
      (Changed-named image v new slot size.0 size.1 within.0 last).files
      ∙ ap (λ (es : List Entry). slice_set es (slot - 1) named) parts
      ∙ ap (λ (i : ℕ). slice_set (front ++ file ∷ back) i named) (sym length-front)
      ∙ set-append_seam front file back named

  -- The file had the old name, and was the first file with that name.
  was : (is_named old file ≡ true) × (find (is_named old) (front ++ file ∷ back) ≡ Some file)
  was =
      let found = rw parts at s.found in
      found_at (is_named old) 1 slot front file back found (omega (arith, length-front, within.0))

  own : is_named other named ≡ is_same_name new other
  unfolding named
  own = named-new 15 new other

  own_bytes : file_bytes after named ≡ file_bytes after file
  unfolding file_bytes named
  own_bytes = refl

  new_gives : is_same_name new other ≡ true → file_given after other ≡ file_given image old
  unfolding d front back after
  new_gives same =
      let c = Changed-named image v new slot size.0 size.1 within.0 last in
      let alone : list_any (is_named other) (front ++ back) ≡ false =
      any_same (is_named other) (is_named new) (front ++ back) (λ e. same-right _ other new (sym (upper-from_same new other same))) ∙ s.alone in
      let only = found_only (is_named other) front named back (own ∙ same) alone in
      let stay = found_stays (is_named old) image after (files_of image) c.stay in
      let first = rw parts at stay in
      let bytes : bytes_of_file after (Some file) ≡ bytes_of_file image (Some file) = rw was.1 at first in
      rw (files, only, parts, was.1) (own_bytes ∙ bytes)

  others_stay : is_same_name new other ≡ false → is_same_name old other ≡ false → file_given after other ≡ file_given image other
  unfolding d after
  others_stay unlike apart =
      let c = Changed-named image v new slot size.0 size.1 within.0 last in
      let stops : is_named other file ≡ false = elim (cases_Bool (is_named other file)) [
        | inl both ↦ let same = same-from_upper old other (sym (upper-from_same _ old was.0) ∙ upper-from_same _ other both) in cc
        | inr no' ↦ no'
      ] in
      let past = found_past (is_named other) front file named back stops (own ∙ unlike) in
      let stay = found_stays (is_named other) image after (files_of image) c.stay in
      let there = rw parts at stay in
      rw (files, past, parts) there

  NewNameGives-slot : is_same_name new other ≡ true → file_given (mirrored (with_name image slot new)) other ≡ file_given image old
  unfolding after
  NewNameGives-slot = new_gives

  OthersKept-slot : is_same_name new other ≡ false → is_same_name old other ≡ false
      → file_given (mirrored (with_name image slot new)) other ≡ file_given image other
  unfolding after
  OthersKept-slot = others_stay

renamed-ok : (image name : List ℕ) (r : Result ℕ VolumeFault) (new : List ℕ) → renamed_at image name r ≡ Ok new
    → (slot : ℕ) × (r ≡ Ok slot) × (mirrored (with_name image slot name) ≡ new)
renamed-ok image name (Ok slot) new h = (slot, refl, cc)
renamed-ok image name (Err fault) new h = cc

pub new_name_gives : NewNameGives
unfolding filed renamed
new_name_gives image old new f v done other same =
    let parts = renamed-ok image new (slot_to_rename (directory_of image) (slot_named (directory_of image) old) new) f.image (changed-ok _ f done) in
    let s = IsSlot-from_ok (directory_of image) old new parts.0 parts.1 in
    subst (λ made. file_given made other ≡ file_given image old) parts.2 (NewNameGives-slot image old new other parts.0 v s same)

pub change_keeps_others : ChangeKeepsOthers
unfolding filed renamed
change_keeps_others image old new f v done other unlike apart =
    let parts = renamed-ok image new (slot_to_rename (directory_of image) (slot_named (directory_of image) old) new) f.image (changed-ok _ f done) in
    let s = IsSlot-from_ok (directory_of image) old new parts.0 parts.1 in
    subst (λ made. file_given made other ≡ file_given image other) parts.2 (OthersKept-slot image old new other parts.0 v s unlike apart)
