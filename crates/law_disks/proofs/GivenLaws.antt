-- Lemmas for the bytes that names give after a command. A name *gives* the bytes of the first file with this name.
use Rattle.std.proofs.Common.{◌≡◌, ◌<◌, ◌≤◌, ℕ, ◌+◌, ◌-◌, Bool, true, false, cond, not, ltb, List, [], ◌∷◌, ◌∙◌, sym, refl, inl, inr, length, get_or, Option}
use Rattle.std.proofs.Common.{Some, None, is_some, Result, Ok, Err, arith, subst}
use Rattle.std.proofs.lemmas.Bool.{cases_Bool, ltb-false}
use Rattle.std.specs.List.{find}
use Rattle.pm_volume.specs.Changes.{FitsSlot, blocks_for, new_entry, place_for, slot_named, with_file, without_file}
use Rattle.pm_volume.specs.Copies.{mirrored}
use Rattle.pm_volume.specs.Directory.{IsVolume, block_count, directory_of, file_count, files_begin}
use Rattle.pm_volume.specs.Files.{file_named, files_of, is_named}
use Rattle.pm_volume.specs.Headers.{dated_image, last_date_of}
use Rattle.pm_volume.specs.Made.{added, added_in, begun_at, doubled, singled, is_occupied, file_removed, removed_at}
use Rattle.pm_volume.specs.Packing.{krunched_image}
use Rattle.pm_volume.specs.Names.{is_new_name, is_same_name}
use Rattle.pm_volume.specs.Words.{word_in}
use Rattle.pm_volume.specs.declared.entry.Entry.{Entry}
use Rattle.pm_volume.specs.declared.fault.VolumeFault.{VolumeFault}
use Rattle.pm_volume.proofs.DoubledLaws.{Recopied-doubled}
use Rattle.pm_volume.proofs.StayLaws.{directory_byte}
use Rattle.pm_volume.proofs.KrunchLaws.{Krunches-krunched}
use Rattle.pm_volume.proofs.NameLaws.{length-name_field, length-new_name}
use Rattle.pm_volume.proofs.PlaceLaws.{IsPlaced, IsPlaced-from_ok, IsRoomFor-placed, gap_in}
use Rattle.pm_volume.proofs.SecondLaws.{Changed-added, Changed-dated, Changed-removed, bytes-added_second}
use Rattle.pm_volume.proofs.SingledLaws.{Recopied-singled}
use Rattle.pm_volume.proofs.SlotChanges.{length-entries_from}
use Rattle.pm_filer.specs.Filed.{Filed, changed, filed}
use Rattle.pm_volume.specs.Dates.{date_word, is_date}
use Rattle.pm_filer.specs.Laws.{IsVolumeOfBytes, NamesAreKept, PutIsGot, RemovalKeepsOthers, duplicate, date, file_given, krunch, single}
use Rattle.law_disks.proofs.FoundFiles.{found_beside, found_stays, found_left, found_moved, found_new, given_stays, position-within}
use Rattle.law_disks.proofs.SameNames.{named-new, same-from_upper, same-right, upper-from_same}

-- If the elements of an image are bytes, then each word of its directory is less than 65,536.
pub word_fits : (image : List ℕ) → IsVolumeOfBytes image → (place : ℕ) → place + 2 ≤ 2048 → word_in (directory_of image) place < 65536
unfolding word_in
word_fits image b place room =
    let low : get_or image (1024 + place) 0 < 256 = b.bytes (1024 + place) 0 (omega (arith, b.volume.long)) in
    let high : get_or image (1024 + (place + 1)) 0 < 256 = b.bytes (1024 + (place + 1)) 0 (omega (arith, b.volume.long)) in
    rw (directory_byte image place (omega arith), directory_byte image (place + 1) (omega arith)) (omega arith)

pub changed-ok : (r : Result (List ℕ) VolumeFault) (f : Filed) → changed r ≡ Ok f → r ≡ Ok f.image
changed-ok (Ok image) f h = cc
changed-ok (Err fault) f h = cc

pub added-ok : (image name : List ℕ) (kind : ℕ) (bytes : List ℕ) (day : ℕ) (r : Result _ VolumeFault) (new : List ℕ) →
    added_in image name kind bytes day r ≡ Ok new
    → (g : _) × (r ≡ Ok g) × (mirrored (with_file image g.place (new_entry g name kind (length bytes) day) bytes) ≡ new)
added-ok image name kind bytes day (Ok g) new h = (g, refl, cc)
added-ok image name kind bytes day (Err fault) new h = cc

removed-ok : (image : List ℕ) (o : Option ℕ) (new : List ℕ) → removed_at image o ≡ Ok new → (slot : ℕ) × (o ≡ Some slot) ×
    (mirrored (without_file image slot) ≡ new)
removed-ok image (Some slot) new h = (slot, refl, cc)
removed-ok image None new h = cc

pub passed : {A : Type 0} (b : Bool) (f : VolumeFault) (rest : Result A VolumeFault) (y : A) → cond (not b) (Err f) rest ≡ Ok y → rest ≡ Ok y
passed true f rest y h = h
passed false f rest y h = cc

pub missed : {A : Type 0} (b : Bool) (f : VolumeFault) (rest : Result A VolumeFault) (y : A) → cond b (Err f) rest ≡ Ok y → (b ≡ false) × (rest ≡ Ok y)
missed true f rest y h = cc
missed false f rest y h = (refl, h)

none_from_test : (o : Option Entry) → is_some o ≡ false → o ≡ None
none_from_test None h = refl
none_from_test (Some e) h = cc

-- If `place_for` succeeds for `name`, then no file has this name.
pub not_there : (image name : List ℕ) (need : ℕ) (g : _) → place_for image name need ≡ Ok g → file_named image name ≡ None
unfolding place_for
not_there image name need g h =
    let named = passed (is_new_name 15 name) _ _ g h in
    none_from_test (file_named image name) (missed (is_some (file_named image name)) _ _ g named).0

find_same : (p q : Entry → Bool) (es : List Entry) → ((e : Entry) → p e ≡ q e) → find p es ≡ find q es
find_same p q [] same = refl
find_same p q (e ∷ es) same = rw (same e, find_same p q es same) refl

module _ (image name : List ℕ) (kind : ℕ) (bytes : List ℕ) (day : ℕ) (g : _) (b : IsVolumeOfBytes image)
    (found : place_for image name (blocks_for (length bytes)) ≡ Ok g) (dated : day < 65536) where
  p : IsPlaced image name (blocks_for (length bytes)) g
  p = IsPlaced-from_ok image name (blocks_for (length bytes)) g found

  fit : FitsSlot (new_entry g name kind (length bytes) day)
  fit =
      let k = gap_in image name (blocks_for (length bytes)) g b.volume p in
      let r = IsRoomFor-placed image name (blocks_for (length bytes)) g b.volume p in
      let blocks = word_fits image b 14 (omega arith) in
      record {
        name = length-name_field 15 name (length-new_name 15 name p.named).1;
        kind = omega arith;
        first = omega (arith, k.within, k.ordered, blocks);
        end = omega (arith, k.within, r.fits, blocks);
        last_bytes = omega arith;
        date = dated;
      }

  -- The new file is found by its own name, in upper or lower case.
  pub put_found : (other : List ℕ) → is_same_name name other ≡ true
      → file_named (mirrored (with_file image g.place (new_entry g name kind (length bytes) day) bytes)) other
      ≡ Some (new_entry g name kind (length bytes) day)
  put_found other same =
      let e = new_entry g name kind (length bytes) day in
      let c = Changed-added image name bytes kind day g b.volume p fit in
      let own : is_named other e ≡ is_same_name name other = named-new 15 name other in
      let none : find (is_named other) (files_of image) ≡ None =
      find_same (is_named other) (is_named name) (files_of image) (λ x. same-right _ other name (sym (upper-from_same name other same)))
      ∙ not_there image name (blocks_for (length bytes)) g found in
      rw c.files (found_new (is_named other) (files_of image) (g.place - 1) e (own ∙ same) none)

  put_given : (other : List ℕ)
      → file_given (mirrored (with_file image g.place (new_entry g name kind (length bytes) day) bytes)) other
      ≡ cond (is_same_name name other) (Some bytes) (file_given image other)
  put_given other =
      let e = new_entry g name kind (length bytes) day in
      let new = mirrored (with_file image g.place e bytes) in
      let c = Changed-added image name bytes kind day g b.volume p fit in
      let own : is_named other e ≡ is_same_name name other = named-new 15 name other in
      elim (cases_Bool (is_same_name name other)) [
        | inl same ↦ rw (same, put_found other same) (bytes-added_second image name bytes kind day g b.volume p fit)
        | inr unlike ↦
            let at = found_beside (is_named other) (files_of image) (g.place - 1) e (own ∙ unlike) in
            rw (unlike, c.files, at) (found_stays (is_named other) image new (files_of image) c.stay)
      ]

-- If a file with the bytes `bytes` is added under `name`, then `name` gives `bytes`, and every other name gives what it
-- gave before.
pub added_given : (image name : List ℕ) (kind : ℕ) (bytes : List ℕ) (day : ℕ) (new : List ℕ) → IsVolumeOfBytes image
    → day < 65536 → added image name kind bytes day ≡ Ok new
    → (other : List ℕ) → file_given new other ≡ cond (is_same_name name other) (Some bytes) (file_given image other)
unfolding added
added_given image name kind bytes day new b dated made other =
    let parts = added-ok image name kind bytes day (place_for image name (blocks_for (length bytes))) new made in
    subst (λ new. file_given new other ≡ cond (is_same_name name other) (Some bytes) (file_given image other)) parts.2
    (put_given image name kind bytes day parts.0 b parts.1 dated other)

-- If a file is added under `name`, then the first file with this name is the new entry, in some gap.
pub added_found : (image name : List ℕ) (kind : ℕ) (bytes : List ℕ) (day : ℕ) (new : List ℕ) → IsVolumeOfBytes image
    → day < 65536 → added image name kind bytes day ≡ Ok new
    → (g : _) × (file_named new name ≡ Some (new_entry g name kind (length bytes) day))
unfolding added
added_found image name kind bytes day new b dated made =
    let parts = added-ok image name kind bytes day (place_for image name (blocks_for (length bytes))) new made in (
      parts.0,
      subst (λ new. file_named new name ≡ Some (new_entry parts.0 name kind (length bytes) day)) parts.2
          (put_found image name kind bytes day parts.0 b parts.1 dated name (same-from_upper name name refl)),
    )

pub put_is_got : PutIsGot
unfolding filed
put_is_got image name kind bytes f b done other = added_given image name kind bytes (last_date_of (directory_of image))
    f.image b (word_fits image b 20 (omega arith)) (changed-ok _ f done) other

removed_given : (image name other : List ℕ) (slot : ℕ) → IsVolume image → slot_named (directory_of image) name ≡ Some slot → is_same_name name other ≡ false
    → file_given (mirrored (without_file image slot)) other ≡ file_given image other
removed_given image name other slot v found unlike =
    let within = position-within (is_named name) 1 (files_of image) slot found in
    let size = length-entries_from (directory_of image) (file_count (directory_of image)) 1 in
    let c = Changed-removed image v slot within.0 (omega (arith, within.1, size)) in
    let left = found_left (is_named other) (is_named name) (files_of image) 1 slot found
    (λ e named. elim (cases_Bool (is_named other e)) [
      | inl both ↦ let same = same-from_upper name other (sym (upper-from_same _ name named) ∙ upper-from_same _ other both) in cc
      | inr apart ↦ apart
    ]) in
    rw (c.files, left) (found_stays (is_named other) image (mirrored (without_file image slot)) (files_of image) c.stay)

pub removal_keeps_others : RemovalKeepsOthers
unfolding filed file_removed
removal_keeps_others image name f v done other unlike =
    let made = changed-ok _ f done in
    let parts = removed-ok image (slot_named (directory_of image) name) f.image made in
    subst (λ new. file_given new other ≡ file_given image other) parts.2 (removed_given image name other parts.0 v parts.1 unlike)

missed_test : (b : Bool) (f : VolumeFault) (rest : Result (List ℕ) VolumeFault) (y : List ℕ) → cond b (Err f) rest ≡ Ok y → (b ≡ false) × (rest ≡ Ok y)
missed_test true f rest y h = cc
missed_test false f rest y h = (refl, h)

ok_same : (a b : List ℕ) (r : Result (List ℕ) VolumeFault) → r ≡ Ok a → r ≡ Ok b → a ≡ b
ok_same a b r h h' = cc

doubled-ok : (image new : List ℕ) → doubled image ≡ Ok new → (10 ≤ block_count (directory_of image)) × (is_occupied image ≡ false) ×
    (mirrored (begun_at image 10) ≡ new)
unfolding doubled
doubled-ok image new h =
    let large = missed_test (ltb (block_count (directory_of image)) 10) _ _ new h in
    let free = missed_test (is_occupied image) _ _ new large.1 in
    (ltb-false _ _ large.0, free.0, ok_same (mirrored (begun_at image 10)) new (Ok (mirrored (begun_at image 10))) refl free.1)

pub names_are_kept : NamesAreKept
unfolding filed
names_are_kept image order f b krunch done name =
    let k = Krunches-krunched image b.volume (word_fits image b 14 (omega arith)) in
    let same : krunched_image image ≡ f.image = cc in
    let zip = rw k.files at k.moved in
    let found = found_moved name image (krunched_image image) (files_begin (directory_of image)) (files_of image) zip in
    subst (λ new. file_given new name ≡ file_given image name) same (rw k.files found)
names_are_kept image order f b (date year month day) done name = elim (cases_Bool (is_date year month day)) [
  | inl good ↦
      let told = rw good at done in
      let same : dated_image image (date_word year month day) ≡ f.image = cc in
      let c = Changed-dated image b.volume (date_word year month day) in
      subst (λ new. file_given new name ≡ file_given image name) same (given_stays image (dated_image image (date_word year month day)) c.files c.stay name)
  | inr bad ↦ let told = rw bad at done in cc
]
names_are_kept image order f b duplicate done name =
    let made = changed-ok _ f done in
    let parts = doubled-ok image f.image made in
    let c = Recopied-doubled image b.volume parts.0 parts.1 in
    subst (λ new. file_given new name ≡ file_given image name) parts.2 (given_stays image (mirrored (begun_at image 10)) c.files c.stay name)
names_are_kept image order f b single done name =
    let same : singled image ≡ f.image = cc in
    let c = Recopied-singled image b.volume in
    subst (λ new. file_given new name ≡ file_given image name) same (given_stays image (singled image) c.files c.stay name)
