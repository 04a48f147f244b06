-- Lemmas: if several refusals apply, a command returns the first one in the order of the checks.
use Rattle.std.proofs.Common.{◌≡◌, ◌==◌, ◌⊎◌, inl, inr, ℕ, ◌+◌, ◌/◌, ◌%◌, Bool, true, false, leb, ltb, ◌||◌, List, []}
use Rattle.std.proofs.Common.{◌∷◌, ◌++◌, length}
use Rattle.std.proofs.Common.{Option, Some, None, refl, ap, ◌∙◌, arith}
use Rattle.std.specs.Prelude.{IsOk}
use Rattle.std.specs.Option.{ok_or}
use Rattle.std.specs.List.{list_any}
use Rattle.std.proofs.lemmas.Bool.{le-ltb}
use Rattle.std.proofs.lemmas.List.Folds.{list_any-append}
use Rattle.std.proofs.lemmas.Bool.Decides.{nat_tests}
use Rattle.pm_volume.specs.Changes.{blocks_for, gap_for, place_for, slot_to_rename}
use Rattle.pm_volume.specs.Directory.{block_count, directory_fault, directory_of, fault_beside, file_count}
use Rattle.pm_volume.specs.Directory.{image_fault}
use Rattle.pm_volume.specs.Entries.{AreInOrder, IsSoundEntry, entries_fault, is_sound_entry}
use Rattle.pm_volume.specs.Headers.{last_date_of}
use Rattle.pm_volume.specs.Made.{added, added_in, doubled, is_occupied, renamed}
use Rattle.pm_volume.specs.declared.entry.Entry.{Entry}
use Rattle.pm_volume.specs.declared.fault.VolumeFault.{VolumeFault}
use Rattle.pm_volume.specs.declared.fault.VolumeFault.TheVariants.{NoRoom}
use Rattle.pm_filer.specs.Filed.{changed, filed}
use Rattle.law_disks.specs.Refusals.{ChangesTellFirst, DirectoriesTellFirst}
use Rattle.law_disks.specs.Refusals.{DoublingTellsFirst, EntriesTellFirst}
use Rattle.law_disks.specs.Refusals.{ImagesTellFirst, IsRefused, PutsTellFirst}

-- ---- changes

-- If a new file passes all earlier checks, then the command is refused with `NoRoom`, or it succeeds.
room_or_done : (image name : List ℕ) (kind : ℕ) (bytes : List ℕ) (date : ℕ) (o : Option _)
    → IsRefused NoRoom (changed (added_in image name kind bytes date (ok_or o NoRoom)))
    ⊎ IsOk (changed (added_in image name kind bytes date (ok_or o NoRoom)))
room_or_done image name kind bytes date None = inl refl
room_or_done image name kind bytes date (Some gap) = inr refl

pub puts_tell_first : PutsTellFirst
unfolding filed added place_for
puts_tell_first image name kind bytes = record {
  bad_name = λ bad. rw bad refl;
  there = λ good e there. rw (good, there) refl;
  full = λ good none full. let test : leb 77 (file_count (directory_of image)) ≡ true = grind (arith, nat_tests, full) in rw (good, none, test) refl;
  room = λ good none few.
      let test : leb 77 (file_count (directory_of image)) ≡ false = grind (arith, nat_tests, few) in
      rw (good, none, test)
      (room_or_done image name kind bytes (last_date_of (directory_of image)) (gap_for (directory_of image) (blocks_for (length bytes))));
}

pub changes_tell_first : ChangesTellFirst
unfolding filed renamed slot_to_rename
changes_tell_first image old new = record {
  no_file = λ none. rw none refl;
  bad_name = λ slot found bad. rw (found, bad) refl;
  there = λ slot found good beside. rw (found, good, beside) refl;
  done = λ slot found good beside. rw (found, good, beside) refl;
}

or_true : (b : Bool) → (b || true) ≡ true
or_true true = refl
or_true false = refl

any_behind : (p : Entry → Bool) (good : List Entry) (e : Entry) (rest : List Entry) → p e ≡ true → list_any p (good ++ e ∷ rest) ≡ true
any_behind p good e rest h = list_any-append p good (e ∷ rest) ∙ rw h (or_true (list_any p good))

pub doubling_tells_first : DoublingTellsFirst
unfolding filed doubled
doubling_tells_first image = record {
  small = λ below. let test : ltb (block_count (directory_of image)) 10 ≡ true = grind (arith, nat_tests, below) in rw test refl;
  occupied = λ long good e rest files low.
      let test : ltb (block_count (directory_of image)) 10 ≡ false = grind (arith, nat_tests, long) in
      let here : ltb e.first 10 ≡ true = grind (arith, nat_tests, low) in
      let any : is_occupied image ≡ true = ap (list_any (λ (x : Entry). ltb x.first 10)) files ∙ any_behind (λ (x : Entry). ltb x.first 10) good e rest here in
      rw (test, any) refl;
}

-- ---- directories and images

is_sound-from_facts : (from : ℕ) (e : Entry) → IsSoundEntry from e → is_sound_entry from e ≡ true
unfolding is_sound_entry
is_sound-from_facts from e s = grind (arith, nat_tests)

pub entries_tell_first : EntriesTellFirst
unfolding entries_fault AreInOrder
entries_tell_first blocks n from [] e rest order =
    let first : n + 0 ≡ n = omega arith in record {
      unsound = λ bad. rw (bad, first) refl;
      past_end = λ sound past. let test : ltb blocks e.end ≡ true = grind (arith, nat_tests, past) in rw (sound, test) refl;
    }
entries_tell_first blocks n from (x ∷ good) e rest order =
    let sound = is_sound-from_facts from x order.0 in
    let within = le-ltb blocks x.end order.1 in
    let k = entries_tell_first blocks (n + 1) x.end good e rest order.2 in
    let count : n + length (x ∷ good) ≡ n + 1 + length good = omega arith in record {
      unsound = λ bad. rw (sound, within, count) (k.unsound bad);
      past_end = λ sound_too past. rw (sound, within) (k.past_end sound_too past);
    }

pub directories_tell_first : DirectoriesTellFirst
unfolding directory_fault
directories_tell_first directory blocks = record {
  header = λ bad. rw bad refl;
  past_end = λ good past. let test : ltb blocks (block_count directory) ≡ true = grind (arith, nat_tests, past) in rw (good, test) refl;
  many = λ good within many.
      let test : ltb blocks (block_count directory) ≡ false = grind (arith, nat_tests, within) in
      let more : ltb 77 (file_count directory) ≡ true = grind (arith, nat_tests, many) in
      rw (good, test, more) refl;
  entries = λ good within few.
      let test : ltb blocks (block_count directory) ≡ false = grind (arith, nat_tests, within) in
      let more : ltb 77 (file_count directory) ≡ false = grind (arith, nat_tests, few) in
      rw (good, test, more) refl;
}

alone_is_own : (fault : Option VolumeFault) → fault_beside false fault ≡ fault
alone_is_own None = refl
alone_is_own (Some fault) = refl

pub images_tell_first : ImagesTellFirst
unfolding image_fault
images_tell_first image = record {
  part = λ part. let test : (length image % 512 == 0) ≡ false = grind (arith, nat_tests, part) in rw test refl;
  short = λ whole short.
      let test : (length image % 512 == 0) ≡ true = grind (arith, nat_tests, whole) in
      let less : ltb (length image) 3072 ≡ true = grind (arith, nat_tests, short) in
      rw (test, less) refl;
  alone = λ whole long bad.
      let test : (length image % 512 == 0) ≡ true = grind (arith, nat_tests, whole) in
      let less : ltb (length image) 3072 ≡ false = grind (arith, nat_tests, long) in
      rw (test, less, bad) (alone_is_own (directory_fault (directory_of image) (length image / 512)));
  beside = λ whole long good fault first.
      let test : (length image % 512 == 0) ≡ true = grind (arith, nat_tests, whole) in
      let less : ltb (length image) 3072 ≡ false = grind (arith, nat_tests, long) in
      rw (test, less, good, first) refl;
  sound = λ whole long none.
      let test : (length image % 512 == 0) ≡ true = grind (arith, nat_tests, whole) in
      let less : ltb (length image) 3072 ≡ false = grind (arith, nat_tests, long) in
      rw (test, less, none) refl;
}
