-- Lemmas for a file of the list that is selected by its slot.
use Rattle.std.proofs.Common.{◌≡◌, ◌≤◌, inl, inr, ℕ, zero, suc, ◌+◌, ◌-◌, Bool, true, false, cond, leb, List, [], ◌∷◌, ◌++◌, length}
use Rattle.std.proofs.Common.{Some, None, Ok, Err, not, refl, sym, ap, ◌∙◌, arith}
use Rattle.std.proofs.lemmas.Bool.{cases_Bool}
use Rattle.std.proofs.lemmas.Bool.Decides.{nat_tests}
use Rattle.std.proofs.lemmas.List.Elements.{All-cons, All-head, All-tail}
use Rattle.std.proofs.Math.Seq.{set-append_seam}
use Rattle.std.specs.List.{All, list_any, position_from, remove}
use Rattle.std.specs.Prelude.{slice_get}
use Rattle.pm_volume.specs.Changes.{files_beside, is_named_beside, slot_named, slot_numbered, slot_to_rename, with_name, without_file}
use Rattle.pm_volume.specs.Copies.{mirrored}
use Rattle.pm_volume.specs.Directory.{IsVolume, directory_of, entries_from, entry_in, file_count}
use Rattle.pm_volume.specs.Files.{file_bytes, files_of, is_named}
use Rattle.pm_volume.specs.Stays.{FileStays}
use Rattle.pm_volume.specs.Made.{file_removed, renamed, slot_removed, slot_renamed}
use Rattle.pm_volume.specs.Names.{is_new_name, name_field}
use Rattle.pm_volume.specs.declared.entry.Entry.{Entry}
use Rattle.pm_volume.specs.declared.fault.VolumeFault.TheVariants.{BadName, Duplicate}
use Rattle.pm_volume.proofs.NameLaws.{length-new_name}
use Rattle.pm_volume.proofs.RenameLaws.{files-split}
use Rattle.pm_volume.proofs.SecondLaws.{Changed-named, Changed-removed}
use Rattle.pm_volume.proofs.SlotChanges.{length-entries_from}
use Rattle.pm_filer.specs.Filed.{filed, file_in_slot}
use Rattle.law_disks.specs.Slots.{ChangeNamesOne, EmptySlotsAreRefused, HaveBytesOf, NamesAreSlots, RemovalTakesOne, SlotChangesTellFirst}

-- ---- lists

-- Two ways to split a list at the same position are equal.
record AreSame (xs xs' : List Entry) (e e' : Entry) (ys ys' : List Entry) : Type 0 where
  front : xs ≡ xs'
  one : e ≡ e'
  back : ys ≡ ys'

split_same : (xs xs' : List Entry) (e e' : Entry) (ys ys' : List Entry) → length xs ≡ length xs' → xs ++ e ∷ ys ≡ xs' ++ e' ∷ ys'
    → AreSame xs xs' e e' ys ys'
split_same [] [] e e' ys ys' size same = record { front = refl; one = cc; back = cc }
split_same [] (x' ∷ xs') e e' ys ys' size same = absurd (omega (arith, size))
split_same (x ∷ xs) [] e e' ys ys' size same = absurd (omega (arith, size))
split_same (x ∷ xs) (x' ∷ xs') e e' ys ys' size same =
    let first : x ≡ x' = cc in
    let rest : xs ++ e ∷ ys ≡ xs' ++ e' ∷ ys' = cc in
    let s = split_same xs xs' e e' ys ys' (omega (arith, size)) rest in
    record { front = rw (first, s.front) refl; one = s.one; back = s.back }

removed_at_seam : (xs : List Entry) (e : Entry) (ys : List Entry) → remove (xs ++ e ∷ ys) (length xs) ≡ xs ++ ys
removed_at_seam [] e ys = refl
removed_at_seam (x ∷ xs) e ys = ap (λ (es : List Entry). x ∷ es) (removed_at_seam xs e ys)

length_split : (xs : List Entry) (e : Entry) (ys : List Entry) → length (xs ++ e ∷ ys) ≡ length xs + 1 + length ys
length_split [] e ys = omega arith
length_split (x ∷ xs) e ys = omega (arith, length_split xs e ys)

-- If no file in `xs` satisfies `p` and `e` does, then the first file that satisfies `p` is at the position after `xs`.
first_at : (p : Entry → Bool) (n : ℕ) (xs : List Entry) (e : Entry) (ys : List Entry) → list_any p xs ≡ false → p e ≡ true
    → position_from p n (xs ++ e ∷ ys) ≡ Some (n + length xs)
first_at p n [] e ys none here = let same : n + 0 ≡ n = omega arith in rw (here, same) refl
first_at p n (x ∷ xs) e ys none here = elim (cases_Bool (p x)) [
  | inl found ↦ let some : true ≡ false = rw found at none in cc
  | inr on ↦
      let rest : list_any p xs ≡ false = rw on at none in
      let same : (n + 1) + length xs ≡ n + suc (length xs) = omega arith in
      rw on (first_at p (n + 1) xs e ys rest here ∙ ap Some same)
]

bytes_stay : (old new : List ℕ) (es : List Entry) → All (FileStays old new) es → HaveBytesOf old new es
bytes_stay old new es stay = λ k d low. (stay k d low).bytes

all_beside : (P : Entry → Type 0) (xs : List Entry) (e : Entry) (ys : List Entry) → All P (xs ++ e ∷ ys) → All P (xs ++ ys)
all_beside P [] e ys all = All-tail P e ys all
all_beside P (x ∷ xs) e ys all =
    All-cons P x (xs ++ ys) (All-head P x (xs ++ e ∷ ys) all) (all_beside P xs e ys (All-tail P x (xs ++ e ∷ ys) all))

-- If a list has no element at the position `n`, then it has at most `n` elements.
past : (es : List Entry) (n : ℕ) → slice_get es n ≡ None → length es ≤ n
past [] n none = omega arith
past (e ∷ es) zero none = cc
past (e ∷ es) (suc n) none = omega (arith, past es n none)

-- ---- a file of the list

module _ (image : List ℕ) (before after : List Entry) (e : Entry) (files : files_of image ≡ before ++ e ∷ after) where
  count : file_count (directory_of image) ≡ length before + 1 + length after
  count = sym (length-entries_from (directory_of image) (file_count (directory_of image)) 1) ∙ ap length files ∙ length_split before e after

  last : length before + 1 ≤ file_count (directory_of image)
  last = omega (arith, count)

  numbered : slot_numbered (directory_of image) (length before + 1) ≡ Some (length before + 1)
  numbered =
      let low : leb 1 (length before + 1) ≡ true = grind (arith, nat_tests) in
      let high : leb (length before + 1) (file_count (directory_of image)) ≡ true = grind (arith, nat_tests, last) in
      rw (low, high) refl

  place : (length before + 1) - 1 ≡ length before
  place = omega arith

  parts : AreSame (entries_from (directory_of image) 1 ((length before + 1) - 1)) before (entry_in (directory_of image) (length before + 1)) e
      (entries_from (directory_of image) ((length before + 1) + 1) (file_count (directory_of image) - (length before + 1))) after
  parts =
      split_same _ _ _ _ _ _ (length-entries_from (directory_of image) ((length before + 1) - 1) 1 ∙ place)
      (sym (files-split (directory_of image) (length before + 1) (omega arith) last) ∙ files)

  beside : files_beside (directory_of image) (length before + 1) ≡ before ++ after
  beside = rw (parts.front, parts.back) refl

  name_beside : (new : List ℕ) → is_named_beside (directory_of image) (length before + 1) new ≡ list_any (is_named new) (before ++ after)
  name_beside new = ap (list_any (is_named new)) beside

  -- States which slot gets a new name, or the refusal.
  to_rename : (new : List ℕ) (b : Bool) → list_any (is_named new) (before ++ after) ≡ b
      → slot_to_rename (directory_of image) (slot_numbered (directory_of image) (length before + 1)) new
      ≡ cond (not (is_new_name 15 new)) (Err BadName) (cond b (Err Duplicate) (Ok (length before + 1)))
  unfolding slot_to_rename
  to_rename new b same = rw (numbered, name_beside new, same) refl

  named : (name : List ℕ) → list_any (is_named name) before ≡ false → is_named name e ≡ true
      → slot_named (directory_of image) name ≡ Some (length before + 1)
  named name none here =
      let at : 1 + length before ≡ length before + 1 = omega arith in
      ap (position_from (is_named name) 1) files ∙ first_at (is_named name) 1 before e after none here ∙ ap Some at

-- `slot_removed` succeeds for the slot after `before`, and the new image has the files `before` and `after`.
pub record TakesOne (image : List ℕ) (before after : List Entry) : Type 0 where
  pub new : List ℕ
  pub made : slot_removed image (length before + 1) ≡ Ok new
  pub volume : IsVolume new
  pub files : files_of new ≡ before ++ after
  pub bytes : HaveBytesOf image new (before ++ after)

pub takes_one : (image : List ℕ) (before after : List Entry) (e : Entry) → IsVolume image → files_of image ≡ before ++ e ∷ after
    → TakesOne image before after
unfolding slot_removed
takes_one image before after e v files =
    let c = Changed-removed image v (length before + 1) (omega arith) (last image before after e files) in
    let stay = bytes_stay image (mirrored (without_file image (length before + 1))) (files_of image) c.stay in
    let split = rw files at stay in
    record {
      new = mirrored (without_file image (length before + 1));
      made = rw (numbered image before after e files) refl;
      volume = c.volume;
      files = c.files ∙ rw (files, place image before after e files) (removed_at_seam before e after);
      bytes = all_beside (λ x. file_bytes (mirrored (without_file image (length before + 1))) x ≡ file_bytes image x) before e after split;
    }

pub removal_takes_one : RemovalTakesOne
unfolding filed
removal_takes_one image before after e v files =
    let t = takes_one image before after e v files in
    record { new = t.new; done = rw t.made refl; files = t.files; bytes = t.bytes }

pub change_names_one : ChangeNamesOne
unfolding filed slot_renamed
change_names_one image before after e new v files good alone =
    let size = length-new_name 15 new good in
    let c = Changed-named image v new (length before + 1) size.0 size.1 (omega arith) (last image before after e files) in
    let stay = bytes_stay image (mirrored (with_name image (length before + 1) new)) (files_of image) c.stay in
    let found = to_rename image before after e files new false alone in
    let own = (parts image before after e files).one in
    record {
      new = mirrored (with_name image (length before + 1) new);
      done = rw (found, good) refl;
      files = c.files ∙ rw (files, place image before after e files, own) (set-append_seam before e after (record e { name = name_field 15 new }));
      bytes = rw files at stay;
    }

pub slot_changes_tell_first : SlotChangesTellFirst
unfolding filed slot_renamed
slot_changes_tell_first image before after e new files = record {
  bad_name = λ bad. rw (to_rename image before after e files new (list_any (is_named new) (before ++ after)) refl, bad) refl;
  there = λ good some. rw (to_rename image before after e files new true some, good) refl;
  done = λ good none. rw (to_rename image before after e files new false none, good) refl;
}

-- If the slot `slot` has no file, then `slot_numbered` returns `None`.
unnumbered : (image : List ℕ) (slot : ℕ) → file_in_slot image slot ≡ None → slot_numbered (directory_of image) slot ≡ None
unnumbered image zero none = refl
unnumbered image (suc n) none =
    let size = length-entries_from (directory_of image) (file_count (directory_of image)) 1 in
    let high : leb (suc n) (file_count (directory_of image)) ≡ false = grind (arith, nat_tests, past (files_of image) n none, size) in
    let low : leb 1 (suc n) ≡ true = grind (arith, nat_tests) in
    rw (low, high) refl

pub empty_slots_are_refused : EmptySlotsAreRefused
unfolding filed slot_removed slot_renamed slot_to_rename
empty_slots_are_refused image slot none = (rw (unnumbered image slot none) refl, λ new. rw (unnumbered image slot none) refl)

pub names_are_slots : NamesAreSlots
unfolding filed file_removed slot_removed renamed slot_renamed
names_are_slots image before after e name files none here =
    let by_name = named image before after e files name none here in
    let by_slot = numbered image before after e files in
    (rw (by_name, by_slot) refl, λ new. rw (by_name, by_slot) refl)
