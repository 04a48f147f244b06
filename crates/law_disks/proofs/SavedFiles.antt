-- Lemmas for one file that `salvage` saves after other files.
use Rattle.std.proofs.Common.{◌≡◌, ◌<◌, ◌≤◌, ℕ, zero, suc, ◌-◌, ◌*◌, Bool, true, false, List, [], ◌∷◌, ◌∙◌, ap, sym, subst, refl, inl, inr}
use Rattle.std.proofs.Common.{length, map, Some, None, is_some, Ok, arith}
use Rattle.std.specs.Prelude.{unwrap_or}
use Rattle.std.specs.List.{All, AllByRecursion, AllZip, IsDistinct, find, insert, list_any}
use Rattle.std.specs.List.Sorted.{IsPermutation}
use Rattle.std.specs.Str.{bytes_eq}
use Rattle.std.proofs.lemmas.Bool.{cases_Bool}
use Rattle.std.proofs.lemmas.List.Elements.{All-head, All-tail}
use Rattle.std.proofs.lemmas.List.Sorted.{IsPermutation-cons, IsPermutation-insert, IsPermutation-map, IsPermutation-sym, IsPermutation-trans}
use Rattle.std.proofs.lemmas.List.Sorted.{list_any-IsPermutation}
use Rattle.std.proofs.lemmas.Map.Keys.{IsDistinct-IsPermutation, IsDistinct-cons}
use Rattle.std.proofs.lemmas.Slice.Eq.{bytes_eq-Decides}
use Rattle.pm_volume.specs.Changes.{FitsSlot, blocks_for, new_entry, place_for, with_file}
use Rattle.pm_volume.specs.Copies.{mirrored}
use Rattle.pm_volume.specs.Directory.{IsVolume}
use Rattle.pm_volume.specs.Files.{file_bytes, file_named, files_of, is_named}
use Rattle.pm_volume.specs.Stays.{FileStays}
use Rattle.pm_volume.specs.Made.{added}
use Rattle.pm_volume.specs.Names.{characters_of, is_same_name}
use Rattle.pm_volume.specs.declared.entry.Entry.{Entry}
use Rattle.pm_volume.proofs.NameLaws.{length-name_field, length-new_name}
use Rattle.pm_volume.proofs.PlaceLaws.{IsPlaced, IsPlaced-from_ok, IsRoomFor-placed, gap_in}
use Rattle.pm_volume.proofs.SecondLaws.{Changed-added, bytes-added_second}
use Rattle.pm_check.specs.Naming.{free_name}
use Rattle.pm_check.specs.Saving.{saved_one}
use Rattle.law_disks.proofs.GivenLaws.{added-ok, not_there}
use Rattle.law_disks.proofs.SameNames.{characters-field, same-from_upper, upper, upper-from_same, upper-upper}
use Rattle.law_disks.proofs.SavedNames.{IsLowestNumber, lowest_number, own_free, upper-good, upper-numbered}
use Rattle.law_disks.specs.SalvageLaws.{HasFileOfEach, HasOwnName, IsFileOf, name_of, own_name}

-- The entry `e` is in a directory of bytes, and its blocks are in `image`.
pub record IsGood (image : List ℕ) (e : Entry) : Type 0 where
  pub kind : e.kind < 16
  pub date : e.date < 65536
  pub contents : List ℕ
  pub had : file_bytes image e ≡ Some contents

-- The state of `salvage` after it has saved the files of the entries `done` in `volume`.
pub record SavedSoFar (image volume : List ℕ) (done : List Entry) : Type 0 where
  pub volume_there : IsVolume volume
  pub small : length volume ≤ 512 * 65535
  pub each : HasFileOfEach image volume done

-- ---- lists

zip-insert : {A B : Type 0} (R : A → B → Type 0) (xs : List A) (ys : List B) (k : ℕ) (x : A) (y : B) → AllZip R xs ys → R x y
    → AllZip R (insert xs k x) (insert ys k y)
zip-insert R xs ys zero x y h r = (r, h)
zip-insert R [] [] (suc k) x y h r = (r, tt)
zip-insert R [] (b ∷ ys) (suc k) x y h r = absurd h
zip-insert R (a ∷ xs) [] (suc k) x y h r = absurd h
zip-insert R (a ∷ xs) (b ∷ ys) (suc k) x y h r = (h.0, zip-insert R xs ys k x y h.1 r)

found-more : (p : Entry → Bool) (es : List Entry) (k : ℕ) (e : Entry) → is_some (find p es) ≡ true → is_some (find p (insert es k e)) ≡ true
found-more p es zero e h = elim (cases_Bool (p e)) [ inl here ↦ rw here refl | inr on ↦ rw on h ]
found-more p [] (suc k) e h = cc
found-more p (x ∷ es) (suc k) e h = elim (cases_Bool (p x)) [
  | inl here ↦ rw here refl
  | inr on ↦ let rest : is_some (find p es) ≡ true = rw on at h in rw on (found-more p es k e rest)
]

equal : (a b : List ℕ) → a ≡ b → bytes_eq a b ≡ true
equal a b same = (bytes_eq-Decides a b).1 same

flips : (a b : List ℕ) → bytes_eq a b ≡ bytes_eq b a
flips a b = elim (cases_Bool (bytes_eq a b)) [
  | inl h ↦ h ∙ sym (equal b a (sym ((bytes_eq-Decides a b).0 h)))
  | inr h ↦
      elim (cases_Bool (bytes_eq b a)) [
        | inl k ↦ let same : bytes_eq a b ≡ true = equal a b (sym ((bytes_eq-Decides b a).0 k)) in cc
        | inr k ↦ h ∙ sym k
      ]
]

none-any : (key : List ℕ) (es : List Entry) → AllByRecursion (λ y. bytes_eq key y ≡ false) (map own_name es)
    → list_any (λ x. bytes_eq key (own_name x)) es ≡ false
none-any key [] h = refl
none-any key (e ∷ es) h = let first = h.0 in rw first (none-any key es h.1)

-- ---- names

-- If the files `x` and `e` have different names, made valid, then the file of `x` without a number is not found by the
-- name of `e`.
unlike : (e x f : Entry) → HasOwnName x f → bytes_eq (own_name e) (own_name x) ≡ false → is_named (own_name e) f ≡ false
unlike e x f own differ = elim (cases_Bool (is_named (own_name e) f)) [
  | inl same ↦
      let raised : upper (own_name x) ≡ upper (own_name e) = sym (ap upper own) ∙ upper-from_same (characters_of f.name) (own_name e) same in
      let one : own_name x ≡ own_name e =
      sym (upper-good (characters_of x.name)) ∙ raised ∙ upper-good (characters_of e.name) in
      let found : bytes_eq (own_name e) (own_name x) ≡ true = equal _ _ (sym one) in
      cc
  | inr apart ↦ apart
]

none_named : (e : Entry) (order fs : List Entry) → AllZip HasOwnName order fs → list_any (λ x. bytes_eq (own_name e) (own_name x)) order ≡ false
    → find (is_named (own_name e)) fs ≡ None
none_named e [] [] zip none = refl
none_named e [] (f ∷ fs) zip none = absurd zip
none_named e (x ∷ order) [] zip none = absurd zip
none_named e (x ∷ order) (f ∷ fs) zip none = elim (cases_Bool (bytes_eq (own_name e) (own_name x))) [
  | inl same ↦ let told = rw same at none in cc
  | inr differ ↦
      let apart = unlike e x f zip.0 differ in
      let rest : list_any (λ y. bytes_eq (own_name e) (own_name y)) order ≡ false = rw differ at none in
      rw apart (none_named e order fs zip.1 rest)
]

-- ---- a name that no other has

same-flips : (a b : List ℕ) → is_same_name a b ≡ is_same_name b a
same-flips a b = elim (cases_Bool (is_same_name a b)) [
  | inl h ↦ h ∙ sym (same-from_upper b a (sym (upper-from_same a b h)))
  | inr h ↦
      elim (cases_Bool (is_same_name b a)) [
        | inl k ↦ let same : is_same_name a b ≡ true = same-from_upper a b (sym (upper-from_same b a k)) in cc
        | inr k ↦ h ∙ sym k
      ]
]

others_differ : (name : List ℕ) (f : Entry) (es : List Entry) → name_of f ≡ upper name → find (is_named name) es ≡ None
    → AllByRecursion (λ y. is_same_name (name_of f) y ≡ false) (map name_of es)
others_differ name f [] raised none = tt
others_differ name f (e ∷ es) raised none = elim (cases_Bool (is_named name e)) [
  | inl found ↦ let told : Some e ≡ None = rw found at none in cc
  | inr other ↦
      let rest : find (is_named name) es ≡ None = rw other at none in
      (apart (is_same_name (name_of f) (name_of e)) refl other, others_differ name f es raised rest)
]
  where
    apart : (b : Bool) → is_same_name (name_of f) (name_of e) ≡ b → is_named name e ≡ false → is_same_name (name_of f) (name_of e) ≡ false
    apart false h other = h
    apart true h other =
        let same : upper (name_of e) ≡ upper name = sym (upper-from_same (name_of f) (name_of e) h) ∙ ap upper raised ∙ upper-upper name in
        let told : is_named name e ≡ true = same-from_upper (name_of e) name same in
        cc

differ-insert : (name : List ℕ) (f : Entry) (es : List Entry) (k : ℕ) → name_of f ≡ upper name → find (is_named name) es ≡ None
    → IsDistinct is_same_name (map name_of es) → IsDistinct is_same_name (map name_of (insert es k f))
differ-insert name f es k raised none h =
    IsDistinct-IsPermutation is_same_name same-flips (map name_of (f ∷ es)) (map name_of (insert es k f))
    (IsPermutation-map name_of (f ∷ es) (insert es k f) (IsPermutation-insert es k f))
    (IsDistinct-cons is_same_name (name_of f) (map name_of es) (others_differ name f es raised none) h)

-- ---- another order

pub ordered : (image volume : List ℕ) (xs ys : List Entry) → HasFileOfEach image volume xs → IsPermutation xs ys → HasFileOfEach image volume ys
ordered image volume xs ys h p = record {
  order = h.order;
  all = IsPermutation-trans ys xs h.order (IsPermutation-sym xs ys p) h.all;
  files = h.files;
  differ = h.differ;
  names = λ distinct.
      h.names (IsDistinct-IsPermutation bytes_eq flips (map own_name ys) (map own_name xs)
      (IsPermutation-map own_name ys xs (IsPermutation-sym xs ys p)) distinct);
}

-- ---- one file more

files_stay : (image old new : List ℕ) (order fs : List Entry) → All (FileStays old new) fs
    → ((name : List ℕ) → is_some (file_named old name) ≡ true → is_some (file_named new name) ≡ true)
    → AllZip (IsFileOf image old) order fs → AllZip (IsFileOf image new) order fs
files_stay image old new [] [] stay more h = tt
files_stay image old new [] (f ∷ fs) stay more h = absurd h
files_stay image old new (x ∷ order) [] stay more h = absurd h
files_stay image old new (x ∷ order) (f ∷ fs) stay more h =
    let one = h.0 in (
      record {
        kind = one.kind;
        date = one.date;
        contents = one.contents;
        had = one.had;
        has = (All-head (FileStays old new) f fs stay).bytes ∙ one.has;
        number = one.number;
        name = one.name;
        lowest = λ other less. more _ (one.lowest other less);
      },
      files_stay image old new order fs (All-tail (FileStays old new) f fs stay) more h.1,
    )

module _ (image volume : List ℕ) (done : List Entry) (k : SavedSoFar image volume done) (e : Entry) (good : IsGood image e) (name : List ℕ)
    (lowest : IsLowestNumber volume (characters_of e.name) name)
    (own : file_named volume (own_name e) ≡ None → name ≡ own_name e) (g : _)
    (found : place_for volume name (blocks_for (length good.contents)) ≡ Ok g) where
  placed : IsPlaced volume name (blocks_for (length good.contents)) g
  placed = IsPlaced-from_ok volume name (blocks_for (length good.contents)) g found

  fit : FitsSlot (new_entry g name e.kind (length good.contents) e.date)
  fit =
      let gap = gap_in volume name (blocks_for (length good.contents)) g k.volume_there placed in
      let room = IsRoomFor-placed volume name (blocks_for (length good.contents)) g k.volume_there placed in
      let blocks = k.volume_there.has_directory.within in
      record {
        name = length-name_field 15 name (length-new_name 15 name placed.named).1;
        kind = omega arith;
        first = omega (arith, gap.within, gap.ordered, blocks, k.small);
        end = omega (arith, gap.within, room.fits, blocks, k.small);
        last_bytes = omega arith;
        date = good.date;
      }

  named : IsDistinct bytes_eq (map own_name (e ∷ done)) → AllZip HasOwnName (insert k.each.order (g.place - 1) e)
      (insert (files_of volume) (g.place - 1) (new_entry g name e.kind (length good.contents) e.date))
  unfolding IsDistinct
  named distinct =
      let h = k.each in
      let olds = h.names distinct.1 in
      let apart : list_any (λ x. bytes_eq (own_name e) (own_name x)) h.order ≡ false =
      sym (list_any-IsPermutation (λ x. bytes_eq (own_name e) (own_name x)) done h.order h.all) ∙ none-any (own_name e) done distinct.0 in
      let same = own (none_named e h.order (files_of volume) olds apart) in
      zip-insert HasOwnName h.order (files_of volume) (g.place - 1) e (new_entry g name e.kind (length good.contents) e.date) olds
      (characters-field 15 name ∙ ap upper same ∙ upper-good (characters_of e.name))

  one_more : SavedSoFar image (mirrored (with_file volume g.place (new_entry g name e.kind (length good.contents) e.date) good.contents)) (e ∷ done)
  one_more =
      let f = new_entry g name e.kind (length good.contents) e.date in
      let new = mirrored (with_file volume g.place f good.contents) in
      let c = Changed-added volume name good.contents e.kind e.date g k.volume_there placed fit in
      let h = k.each in
      let at : ℕ = g.place - 1 in
      let has = bytes-added_second volume name good.contents e.kind e.date g k.volume_there placed fit in
      let raised : characters_of f.name ≡ upper name = characters-field 15 name in
      let more : (other : List ℕ) → is_some (file_named volume other) ≡ true → is_some (file_named new other) ≡ true =
      λ other there. subst (λ es. is_some (find (is_named other) es) ≡ true) (sym c.files) (found-more (is_named other) (files_of volume) at f there) in
      let this : IsFileOf image new e f = record {
        kind = omega (arith, good.kind);
        date = refl;
        contents = good.contents;
        had = good.had;
        has = has;
        number = lowest.number;
        name = raised ∙ ap upper lowest.is ∙ upper-numbered (characters_of e.name) lowest.number (omega (arith, lowest.small));
        lowest = λ other less. more _ (lowest.lowest other less);
      } in
      let before = files_stay image volume new h.order (files_of volume) c.stay more h.files in
      record {
        volume_there = c.volume;
        small = omega (arith, c.only.size, k.small);
        each = record {
          order = insert h.order at e;
          all = IsPermutation-trans (e ∷ done) (e ∷ h.order) (insert h.order at e) (IsPermutation-cons e done h.order h.all)
              (IsPermutation-insert h.order at e);
          files = subst (AllZip (IsFileOf image new) (insert h.order at e)) (sym c.files)
              (zip-insert (IsFileOf image new) h.order (files_of volume) at e f before this);
          differ = subst (λ es. IsDistinct is_same_name (map name_of es)) (sym c.files)
              (differ-insert name f (files_of volume) at raised (not_there volume name (blocks_for (length good.contents)) g found) h.differ);
          names = λ distinct. subst (AllZip HasOwnName (insert h.order at e)) (sym c.files) (named distinct);
        };
      }

pub one_saved : (image volume new : List ℕ) (done : List Entry) (e : Entry) → SavedSoFar image volume done → IsGood image e → saved_one image volume e ≡ Ok new
    → SavedSoFar image new (e ∷ done)
unfolding saved_one added
one_saved image volume new done e k good h =
    let name : List ℕ = free_name volume (characters_of e.name) in
    let bytes : unwrap_or (file_bytes image e) [] ≡ good.contents = ap (λ o. unwrap_or o []) good.had in
    let made : added volume name e.kind good.contents e.date ≡ Ok new = rw bytes at h in
    let parts = added-ok volume name e.kind good.contents e.date (place_for volume name (blocks_for (length good.contents))) new made in
    subst (λ v. SavedSoFar image v (e ∷ done)) parts.2
    (one_more image volume done k e good name (lowest_number volume (characters_of e.name)) (own_free volume (characters_of e.name)) parts.0 parts.1)
