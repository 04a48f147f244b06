-- Laws of the contents of the files of a salvaged volume.
use Rattle.std.proofs.Common.{◌≡◌, ◌<◌, ℕ, zero, suc, ◌+◌, ◌%◌, Bool, true, false, ltb, ◌&&◌, ◌||◌, ◌==◌, List, [], ◌∷◌, ◌++◌}
use Rattle.std.proofs.Common.{length, take, get_or, map, Option, None, Some, refl, ap, arith, append_assoc, append-nil, inl, inr}
use Rattle.std.specs.Prelude.{IfOk, Result, Ok, Err, nat_le, slice_index, unwrap_or, if◌then◌else◌}
use Rattle.std.specs.List.{All, filter, insert}
use Rattle.std.specs.List.Sorted.{IsPermutation}
use Rattle.std.proofs.lemmas.Bool.{cases_Bool}
use Rattle.std.proofs.lemmas.Bool.Decides.{nat_tests}
use Rattle.std.proofs.lemmas.List.{map-append, take_more}
use Rattle.std.proofs.lemmas.List.Elements.{All-head, All-tail}
use Rattle.std.proofs.lemmas.List.Sorted.{IsPermutation-refl, IsPermutation-sym, IsPermutation-trans, IsPermutation-cons, IsPermutation-middle}
use Rattle.std.proofs.lemmas.List.Sorted.{IsPermutation-insert, IsPermutation-append_right, IsPermutation-map}
use Rattle.pm_check.specs.declared.finding.SlotFinding.{SlotFinding}
use Rattle.pm_volume.specs.Directory.{entries_from, entry_in}
use Rattle.pm_volume.specs.Entries.{is_sound_entry}
use Rattle.pm_volume.specs.Files.{bytes_of, file_bytes, files_of}
use Rattle.pm_volume.specs.Changes.{AddsFile}
use Rattle.pm_volume.specs.declared.fault.VolumeFault.{VolumeFault}
use Rattle.pm_volume.specs.Stays.{FileStays, FilesStay}
use Rattle.pm_volume.specs.declared.entry.Entry.{Entry}
use Rattle.pm_check.specs.declared.believing.Taken.{Taken}
use Rattle.pm_check.specs.Believing.{placed, taken_from, taken_with, why_left}
use Rattle.pm_check.specs.declared.saving.Salvaged.{Salvaged}
use Rattle.pm_check.specs.Contents.{HasFilesOf, Content, believed, content_in, contents_of, contents_taken, could_stand, entries_taken, entry_taken}

-- ---- the entries that are copied

IsPermutation-swap : {X : Type 0} (a b : X) (xs : List X) → IsPermutation (a ∷ b ∷ xs) (b ∷ a ∷ xs)
IsPermutation-swap a b xs = IsPermutation-middle (a ∷ []) b xs

IsPermutation-placed : (t : Taken) (ts : List Taken) → IsPermutation (t ∷ ts) (placed t ts)
unfolding placed
IsPermutation-placed t [] = IsPermutation-refl (t ∷ [])
IsPermutation-placed t (other ∷ others) = elim (cases_Bool (ltb t.entry.first other.entry.first)) [
  | inl before ↦ rw before (IsPermutation-refl (t ∷ other ∷ others))
  | inr behind ↦ rw behind (IsPermutation-trans _ _ _ (IsPermutation-swap t other others)
      (IsPermutation-cons other _ _ (IsPermutation-placed t others)))
]

sound_test : (lowest blocks length first end bytes : ℕ)
    → (nat_le 1 length && nat_le length 15 && nat_le lowest first && nat_le first end
    && ((first == end) || (nat_le 1 bytes && nat_le bytes 512)) && nat_le end blocks) ≡ true
    → ((ltb length 1 || ltb 15 length) ≡ false) × (ltb first lowest ≡ false) × (ltb end first ≡ false)
    × (ltb blocks end ≡ false) × ((ltb first end && (ltb bytes 1 || ltb 512 bytes)) ≡ false)
sound_test lowest blocks length first end bytes h = (
  grind (arith, nat_tests),
  grind (arith, nat_tests),
  grind (arith, nat_tests),
  grind (arith, nat_tests),
  grind (arith, nat_tests),
)

sound_back : (lowest blocks length first end bytes : ℕ) → (ltb length 1 || ltb 15 length) ≡ false → ltb first lowest ≡ false
    → ltb end first ≡ false → ltb blocks end ≡ false → (ltb first end && (ltb bytes 1 || ltb 512 bytes)) ≡ false
    → (nat_le 1 length && nat_le length 15 && nat_le lowest first && nat_le first end
    && ((first == end) || (nat_le 1 bytes && nat_le bytes 512)) && nat_le end blocks) ≡ true
sound_back lowest blocks length first end bytes a b c d e = grind (arith, nat_tests)

module _ (lowest blocks : ℕ) (e : Entry) where
  -- If an entry could be the first file, then it breaks no rule.
  none-from_sound : could_stand lowest blocks e ≡ true → why_left lowest blocks e ≡ None
  unfolding why_left is_sound_entry
  none-from_sound h =
      let t = sound_test lowest blocks (slice_index e.name 0) e.first e.end e.last_bytes h in
      rw (t.0, t.1, t.2, t.3, t.4) refl

  none_if : (b : Bool) (f : SlotFinding) (rest : Option SlotFinding) → (if b then Some f else rest) ≡ None → (b ≡ false) × (rest ≡ None)
  none_if true f rest h = cc
  none_if false f rest h = (refl, h)

  -- If an entry breaks no rule, then it could be the first file.
  sound-from_none : why_left lowest blocks e ≡ None → could_stand lowest blocks e ≡ true
  unfolding why_left is_sound_entry
  sound-from_none h =
      let a = none_if _ _ _ h in
      let b = none_if _ _ _ a.1 in
      let c = none_if _ _ _ b.1 in
      let d = none_if _ _ _ c.1 in
      let f = none_if _ _ _ d.1 in
      sound_back lowest blocks (slice_index e.name 0) e.first e.end e.last_bytes a.0 b.0 c.0 d.0 f.0

  -- If an entry could not be the first file, then its file is not copied.
  not_taken : (n : ℕ) (ts : List Taken) (why : Option SlotFinding) → why_left lowest blocks e ≡ why
      → could_stand lowest blocks e ≡ false → taken_with n e why ts ≡ ts
  not_taken n ts None is wrong = absurd (let right = sound-from_none is in cc)
  not_taken n ts (Some finding) is wrong = refl

module _ (d : List ℕ) (lowest blocks : ℕ) where
  believed_more : (n left : ℕ) (ts : List Taken) (b : Bool) → could_stand lowest blocks (entry_in d n) ≡ b
      → IsPermutation (filter (could_stand lowest blocks) (entry_in d n ∷ entries_from d (n + 1) left) ++ entries_taken ts)
      (filter (could_stand lowest blocks) (entries_from d (n + 1) left)
      ++ entries_taken (taken_with n (entry_in d n) (why_left lowest blocks (entry_in d n)) ts))
  believed_more n left ts true is =
      let e : Entry = entry_in d n in
      let none : why_left lowest blocks e ≡ None = none-from_sound lowest blocks e is in
      let rest : List Entry = filter (could_stand lowest blocks) (entries_from d (n + 1) left) in
      let t : Taken = record { slot = n; entry = e } in
      let back : IsPermutation (e ∷ (rest ++ entries_taken ts)) (rest ++ e ∷ entries_taken ts) =
      IsPermutation-sym _ _ (IsPermutation-middle rest e (entries_taken ts)) in
      let put : IsPermutation (e ∷ entries_taken ts) (entries_taken (placed t ts)) =
      IsPermutation-map entry_taken _ _ (IsPermutation-placed t ts) in
      rw (is, none) (IsPermutation-trans _ _ _ back (IsPermutation-append_right rest _ _ put))
  believed_more n left ts false is =
      let e : Entry = entry_in d n in
      rw (is, not_taken lowest blocks e n ts (why_left lowest blocks e) refl is) (IsPermutation-refl _)

  believed_from : (n left : ℕ) (ts : List Taken)
      → IsPermutation (filter (could_stand lowest blocks) (entries_from d n left) ++ entries_taken ts)
      (entries_taken (taken_from d lowest blocks n left ts))
  unfolding taken_from entries_from
  believed_from n zero ts = IsPermutation-refl (entries_taken ts)
  believed_from n (suc left) ts =
      IsPermutation-trans _ _ _ (believed_more n left ts (could_stand lowest blocks (entry_in d n)) refl)
      (believed_from (n + 1) left (taken_with n (entry_in d n) (why_left lowest blocks (entry_in d n)) ts))

  -- The copied entries are those that could be the first file, in some order.
  pub believed-taken : IsPermutation (believed d lowest blocks) (entries_taken (taken_from d lowest blocks 1 77 []))
  unfolding believed
  believed-taken =
      let h = believed_from 1 77 [] in
      rw (append-nil (filter (could_stand lowest blocks) (entries_from d 1 77))) at h

-- ---- one more file

contents_stay : (old new : List ℕ) (es : List Entry) → All (FileStays old new) es → map (content_in new) es ≡ map (content_in old) es
unfolding content_in
contents_stay old new [] h = refl
contents_stay old new (e ∷ es) h =
    let first : file_bytes new e ≡ file_bytes old e = (All-head (FileStays old new) e es h).bytes in
    rw (first, contents_stay old new es (All-tail (FileStays old new) e es h)) refl

pub contents_more : (old new : List ℕ) (k : ℕ) (e : Entry) → files_of new ≡ insert (files_of old) k e → FilesStay old new
    → IsPermutation (content_in new e ∷ contents_of old) (contents_of new)
contents_more old new k e files stay =
    let h : IsPermutation (content_in new e ∷ map (content_in new) (files_of old)) (map (content_in new) (insert (files_of old) k e)) =
    IsPermutation-map (content_in new) _ _ (IsPermutation-insert (files_of old) k e) in
    let same : map (content_in new) (files_of old) ≡ map (content_in old) (files_of old) = contents_stay old new (files_of old) stay in
    rw (same, ← files) at h

mod_twice : (n : ℕ) → n % 16 % 16 ≡ n % 16
mod_twice n = omega arith

-- If a new file has the kind, date and bytes of the file of an entry, then the two files have the same contents.
pub content_saved : (image new : List ℕ) (e file : Entry) (bytes : List ℕ) → file.kind ≡ e.kind % 16 → file.date ≡ e.date
    → file_bytes new file ≡ Some bytes → bytes ≡ unwrap_or (file_bytes image e) [] → content_in new file ≡ content_in image e
unfolding content_in
content_saved image new e file bytes kind date there is = rw (there, is, kind, date, mod_twice e.kind) refl

-- If the file of an entry is added to a volume, then the new volume has its contents and those of the old files.
pub content_added : (image old new name : List ℕ) (e : Entry) (bytes : List ℕ) (file : Entry) → AddsFile old new name e.kind bytes e.date file
    → ((k : ℕ) × (files_of new ≡ insert (files_of old) k file)) → file_bytes new file ≡ Some bytes → FilesStay old new
    → bytes ≡ bytes_of image e → IsPermutation (content_in image e ∷ contents_of old) (contents_of new)
content_added image old new name e bytes file added files there stay is =
    let same = content_saved image new e file bytes (ap (λ (x : Entry). x.kind) added.entry) (ap (λ (x : Entry). x.date) added.entry) there is in
    let more = contents_more old new files.0 file files.1 stay in
    rw same at more

-- ---- the files one by one

pub contents_next : (image volume new base : List ℕ) (ts : List Taken) (d : Taken) (i : ℕ) → i < length ts
    → IsPermutation (contents_taken image (take i ts) ++ contents_of base) (contents_of volume)
    → IsPermutation (content_in image (get_or ts i d).entry ∷ contents_of volume) (contents_of new)
    → IsPermutation (contents_taken image (take (i + 1) ts) ++ contents_of base) (contents_of new)
contents_next image volume new base ts d i below before saved =
    let c : Content = content_in image (get_or ts i d).entry in
    let had : List Content = map (content_in image) (entries_taken (take i ts)) in
    let front : IsPermutation (had ++ c ∷ contents_of base) (c ∷ (had ++ contents_of base)) = IsPermutation-middle had c (contents_of base) in
    let stay : IsPermutation (c ∷ (had ++ contents_of base)) (c ∷ contents_of volume) = IsPermutation-cons c _ _ before in
    let all : IsPermutation (had ++ c ∷ contents_of base) (contents_of new) =
    IsPermutation-trans _ _ _ front (IsPermutation-trans _ _ _ stay saved) in
    let one : List Taken = get_or ts i d ∷ [] in
    rw (
      take_more ts i d below,
      map-append entry_taken (take i ts) one,
      map-append (content_in image) (entries_taken (take i ts)) (entries_taken one),
      append_assoc had (c ∷ []) (contents_of base),
    ) all

pub contents_begun : (image volume : List ℕ) (ts : List Taken) → IsPermutation (contents_taken image (take 0 ts) ++ contents_of volume) (contents_of volume)
contents_begun image volume ts = IsPermutation-refl (contents_of volume)

pub believed_saved : (image d : List ℕ) (lowest blocks : ℕ) (taken : List Taken) → taken ≡ taken_from d lowest blocks 1 77 []
    → (r : Result Salvaged VolumeFault) → IfOk r (λ s. HasFilesOf image (entries_taken taken) s.image.items)
    → IfOk r (λ s. HasFilesOf image (believed d lowest blocks) s.image.items)
unfolding HasFilesOf
believed_saved image d lowest blocks taken is (Ok s) h =
    let all : IsPermutation (believed d lowest blocks) (entries_taken taken) = rw is (believed-taken d lowest blocks) in
    IsPermutation-trans _ _ _ (IsPermutation-map (content_in image) _ _ all) h
believed_saved image d lowest blocks taken is (Err fault) h = tt
