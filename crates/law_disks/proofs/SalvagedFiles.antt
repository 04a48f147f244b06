-- Lemmas: a salvaged volume has a file for each entry that is valid by itself.
use Rattle.std.proofs.Common.{◌≡◌, ◌<◌, ◌≤◌, ℕ, zero, suc, ◌+◌, ◌-◌, ◌*◌, ◌/◌, Bool, true, false, cond, not, leb, ltb, List, [], ◌∷◌, ◌++◌, ap, subst}
use Rattle.std.proofs.Common.{refl, inl, inr}
use Rattle.std.proofs.Common.{length, drop, take, get_or, Option, Some, None, Result, Ok, Err, arith}
use Rattle.std.specs.Prelude.{◌==◌, ◌&&◌, ◌||◌, nat_le, slice_index, slice_range}
use Rattle.std.specs.List.{All, IsDistinct}
use Rattle.std.specs.List.Sorted.{IsPermutation}
use Rattle.std.proofs.Math.Nat.{min-le_left, min-le_right}
use Rattle.std.proofs.lemmas.Bool.{cases_Bool, cases_lt, le-leb}
use Rattle.std.proofs.lemmas.Bool.Decides.{nat_tests}
use Rattle.std.proofs.lemmas.List.{get_or-drop}
use Rattle.std.proofs.lemmas.List.Elements.{All-cons, All-filter, All-head, All-nil, All-tail, filter_passes}
use Rattle.std.proofs.lemmas.List.Sorted.{All-permutation, IsPermutation-middle, IsPermutation-refl, IsPermutation-sym}
use Rattle.pm_volume.specs.Directory.{directory_of, entries_from, entry_in, second_of}
use Rattle.pm_volume.specs.Entries.{entry_of, is_sound_entry}
use Rattle.pm_volume.specs.Files.{file_bytes, files_of}
use Rattle.pm_volume.specs.Headers.{blank_fault, blank_image, new_directory}
use Rattle.pm_volume.specs.Names.{is_new_name}
use Rattle.pm_volume.specs.Words.{word_in, zeros}
use Rattle.pm_volume.specs.declared.entry.Entry.{Entry}
use Rattle.pm_volume.specs.declared.fault.VolumeFault.{VolumeFault}
use Rattle.pm_volume.specs.declared.fault.VolumeFault.TheVariants.{BadHeader, BadName}
use Rattle.pm_volume.proofs.HeaderLaws.{IsVolume-blank, files-blank, length-new_directory, length-zeros}
use Rattle.pm_volume.proofs.NameLaws.{length-new_name}
use Rattle.pm_volume.proofs.WrittenLaws.{length-written}
use Rattle.pm_check.proofs.ContentLaws.{believed-taken}
use Rattle.pm_check.specs.Believing.{taken_from}
use Rattle.pm_check.specs.Contents.{believed, believed_of, could_stand, entries_taken}
use Rattle.pm_check.specs.Saving.{Saved, behind, blank, finished, image_blocks, new_volume, room_for, salvaged, saved, saved_by, saved_from, saved_one}
use Rattle.pm_check.specs.declared.believing.Taken.{Taken}
use Rattle.law_disks.proofs.GivenLaws.{missed}
use Rattle.law_disks.proofs.SavedFiles.{IsGood, SavedSoFar, one_saved, ordered}
use Rattle.law_disks.specs.SalvageLaws.{HasFileOfEach, EntriesAreSaved}

-- ---- the files one by one

behind-ok : (o : Result (List ℕ) VolumeFault) (next : List ℕ → Result Saved VolumeFault) (s : Saved) → behind o next ≡ Ok s
    → (volume : List ℕ) × (o ≡ Ok volume) × (next volume ≡ Ok s)
behind-ok (Ok volume) next s h = (volume, refl, h)
behind-ok (Err fault) next s h = cc

finished-ok : (files left : ℕ) (o : Result Saved VolumeFault) (s : Saved) → finished files left o ≡ Ok s
    → (r : Saved) × (o ≡ Ok r) × (r.volume ≡ s.volume)
finished-ok files left (Ok r) s h = (r, refl, cc)
finished-ok files left (Err fault) s h = cc

so_far-ordered : (image volume : List ℕ) (xs ys : List Entry) → SavedSoFar image volume xs → IsPermutation xs ys → SavedSoFar image volume ys
so_far-ordered image volume xs ys k p = record { volume_there = k.volume_there; small = k.small; each = ordered image volume xs ys k.each p }

all_saved : (image : List ℕ) (all : List Taken) (count : ℕ) (ts : List Taken) (s r : Saved) (done : List Entry) → SavedSoFar image s.volume done
    → All (IsGood image) (entries_taken ts) → saved_from image all count ts s ≡ Ok r → SavedSoFar image r.volume (entries_taken ts ++ done)
unfolding saved_from
all_saved image all count [] s r done k good h = let same : s ≡ r = cc in subst (λ (x : Saved). SavedSoFar image x.volume done) same k
all_saved image all count (t ∷ ts) s r done k good h =
    let parts = behind-ok (saved_one image s.volume t.entry) _ r h in
    let first = All-head (IsGood image) t.entry (entries_taken ts) good in
    let one = one_saved image s.volume parts.0 done t.entry k first parts.1 in
    let rest = all_saved image all count ts _ r (t.entry ∷ done) one (All-tail (IsGood image) t.entry (entries_taken ts) good) parts.2 in
    so_far-ordered image r.volume (entries_taken ts ++ t.entry ∷ done) (t.entry ∷ (entries_taken ts ++ done)) rest
    (IsPermutation-middle (entries_taken ts) t.entry done)

-- ---- a new volume

no_fault : (b : Bool) (fault : VolumeFault) (rest : Option VolumeFault) → cond b (Some fault) rest ≡ None → (b ≡ false) × (rest ≡ None)
no_fault true fault rest h = cc
no_fault false fault rest h = (refl, h)

not-false : (b : Bool) → not b ≡ false → b ≡ true
not-false true h = refl
not-false false h = cc

blank-ok : (o : Option VolumeFault) (name : List ℕ) (blocks : ℕ) (volume : List ℕ) → blank o name blocks ≡ Ok volume
    → (o ≡ None) × (blank_image name blocks ≡ volume)
blank-ok None name blocks volume h = (refl, cc)
blank-ok (Some fault) name blocks volume h = cc

new_so_far : (image name volume : List ℕ) (blocks : ℕ) → blocks ≤ 65535 → new_volume name blocks ≡ Ok volume → SavedSoFar image volume []
unfolding blank_fault IsDistinct
new_so_far image name volume blocks fits h =
    let parts = blank-ok (blank_fault name blocks) name blocks volume h in
    let named = no_fault (not (is_new_name 7 name)) BadName (cond (ltb blocks 6) (Some BadHeader) None) parts.0 in
    let long = no_fault (ltb blocks 6) BadHeader None named.1 in
    let sizes = length-new_name 7 name (not-false (is_new_name 7 name) named.0) in
    let room : 6 ≤ blocks = grind (arith, nat_tests, long.0) in
    let size = length-new_directory 6 name blocks 0 sizes.1 in
    let long_zeros = length-zeros (512 * blocks) in
    let whole = length-written (zeros (512 * blocks)) 1024 (new_directory 6 name blocks 0) (omega (arith, size, long_zeros, room)) in
    let files : files_of (blank_image name blocks) ≡ [] = files-blank name blocks sizes.0 sizes.1 room in
    let empty : SavedSoFar image (blank_image name blocks) [] = record {
      volume_there = IsVolume-blank name blocks sizes.0 sizes.1 room (omega arith);
      small = omega (arith, whole, long_zeros, fits);
      each = record { order = []; all = IsPermutation-refl []; files = rw files tt; differ = rw files tt; names = λ distinct. rw files tt };
    } in
    subst (λ v. SavedSoFar image v []) parts.1 empty

-- ---- the entries

-- Each element of `xs` is less than 256.
abbrev pub Small : List ℕ → Type 0
Small xs = (k : ℕ) → get_or xs k 0 < 256

pub small-bytes : (xs : List ℕ) → All (λ b. b < 256) xs → Small xs
small-bytes xs h k = elim (cases_lt k (length xs)) [
  | inl inside ↦ h k 0 inside
  | inr behind ↦ let none = past xs k behind in omega (arith, none)
]
  where
    past : (xs : List ℕ) (k : ℕ) → length xs ≤ k → get_or xs k 0 ≡ 0
    past [] k h = refl
    past (x ∷ xs) zero h = absurd (omega arith)
    past (x ∷ xs) (suc k) h = past xs k (omega arith)

small-take : (n : ℕ) (xs : List ℕ) → Small xs → Small (take n xs)
small-take zero xs h k = omega arith
small-take (suc n) [] h k = omega arith
small-take (suc n) (x ∷ xs) h zero = h 0
small-take (suc n) (x ∷ xs) h (suc k) = small-take n xs (λ j. h (suc j)) k

pub small-range : (xs : List ℕ) (i j : ℕ) → Small xs → Small (slice_range xs i j)
small-range xs i j h = small-take (j - i) (drop i xs) (λ k. let at = get_or-drop i xs k 0 in omega (arith, at, h (i + k)))

pub record IsOfBytes (e : Entry) : Type 0 where
  pub kind : e.kind < 16
  pub date : e.date < 65536

pub entry-bytes : (slot : List ℕ) → Small slot → IsOfBytes (entry_of slot)
unfolding entry_of word_in
entry-bytes slot h = record { kind = omega arith; date = omega (arith, h 24, h 25) }

entries-bytes : (d : List ℕ) → Small d → (n left : ℕ) → All IsOfBytes (entries_from d n left)
unfolding entries_from
entries-bytes d h n zero = All-nil IsOfBytes
entries-bytes d h n (suc left) =
    All-cons IsOfBytes (entry_in d n) (entries_from d (n + 1) left) (entry-bytes _ (small-range d (26 * n) (26 * n + 26) h)) (entries-bytes d h (n + 1) left)

inside_test : (lowest blocks length first end bytes : ℕ)
    → (nat_le 1 length && nat_le length 15 && nat_le lowest first && nat_le first end
    && ((first == end) || (nat_le 1 bytes && nat_le bytes 512)) && nat_le end blocks) ≡ true
    → leb end first ≡ false → (bytes ≤ 512) × (end ≤ blocks) × (1 ≤ end)
inside_test lowest blocks length first end bytes h more = (grind (arith, nat_tests), grind (arith, nat_tests), grind (arith, nat_tests))

-- If the blocks of an entry can be in an image, then the entry has bytes in the image.
there : (image : List ℕ) (lowest : ℕ) (e : Entry) → could_stand lowest (image_blocks image) e ≡ true → (bytes : List ℕ) × (file_bytes image e ≡ Some bytes)
unfolding file_bytes is_sound_entry
there image lowest e h = elim (cases_Bool (leb e.end e.first)) [
  | inl none ↦ rw none ([], refl)
  | inr more ↦
      let test = inside_test lowest (image_blocks image) (slice_index e.name 0) e.first e.end e.last_bytes h more in
      let blocks = min-le_left (length image / 512) 65535 in
      let end : 512 * (e.end - 1) + e.last_bytes ≤ length image = omega (arith, test.0, test.1, test.2, blocks) in
      let inside = le-leb (512 * (e.end - 1) + e.last_bytes) (length image) end in
      rw (more, inside) (slice_range image (512 * e.first) (512 * (e.end - 1) + e.last_bytes), refl)
]

good-believed : (image d : List ℕ) (lowest : ℕ) → Small d → All (IsGood image) (believed d lowest (image_blocks image))
unfolding believed
good-believed image d lowest h k x below =
    let p = could_stand lowest (image_blocks image) in
    let passes = filter_passes p (entries_from d 1 77) k x below in
    let bytes = All-filter p IsOfBytes (entries_from d 1 77) (entries-bytes d h 1 77) k x below in
    let had = there image lowest _ passes in
    record { kind = bytes.kind; date = bytes.date; contents = had.0; had = had.1 }

-- ---- the whole

append-nothing : {A : Type 0} (xs : List A) → xs ++ [] ≡ xs
append-nothing [] = refl
append-nothing (x ∷ xs) = ap (λ ys. x ∷ ys) (append-nothing xs)

by_directory : (image d : List ℕ) (lowest : ℕ) (s : Saved) → Small d → saved_by image d lowest (image_blocks image) ≡ Ok s
    → HasFileOfEach image s.volume (believed d lowest (image_blocks image))
unfolding saved_by saved room_for
by_directory image d lowest s h e =
    let blocks : ℕ = image_blocks image in
    let taken : List Taken = taken_from d lowest blocks 1 77 [] in
    let last = finished-ok _ _ _ s e in
    let parts = behind-ok _ _ last.0 last.1 in
    let new = new_so_far image _ parts.0 (room_for blocks taken) (min-le_right _ 65535) parts.1 in
    let same = believed-taken d lowest blocks in
    let good : All (IsGood image) (entries_taken taken) =
    All-permutation (IsGood image) (believed d lowest blocks) (entries_taken taken) same (good-believed image d lowest h) in
    let all = all_saved image taken _ taken _ last.0 [] new good parts.2 in
    let each : HasFileOfEach image last.0.volume (entries_taken taken) =
    subst (HasFileOfEach image last.0.volume) (append-nothing (entries_taken taken)) all.each in
    subst (λ v. HasFileOfEach image v (believed d lowest blocks)) last.2
    (ordered image last.0.volume (entries_taken taken) (believed d lowest blocks) each (IsPermutation-sym _ _ same))

pub entries_are_saved : EntriesAreSaved
unfolding salvaged believed_of
entries_are_saved image true s b h =
    by_directory image (second_of image) 10 s (small-range image 3072 5120 (small-bytes image b)) (missed (ltb (length image) 5120) _ _ s h).1
entries_are_saved image false s b h =
    by_directory image (directory_of image) 6 s (small-range image 1024 3072 (small-bytes image b)) (missed (ltb (length image) 3072) _ _ s h).1
