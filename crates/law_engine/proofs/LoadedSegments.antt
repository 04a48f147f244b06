-- Lemmas: the code that is loaded is the segment of the code file.
use Rattle.std.proofs.Common.{◌≡◌, inl, inr, ◌≤◌, ◌<◌, ◌==◌, ℕ, zero, suc, ◌+◌, ◌-◌, ◌*◌, ◌%◌, Bool, true, false, cond, not, nat_lt, nat_le, ◌&&◌}
use Rattle.std.proofs.Common.{List, [], ◌∷◌, length, take, drop, get_or, slice_range, Option, Some, None, is_none, is_some, Result, Ok, refl, sym}
use Rattle.std.proofs.Common.{◌∙◌, ap, subst, arith, take-take, drop-drop}
use Rattle.std.specs.Prelude.{slice_get}
use Rattle.std.specs.List.{All, find}
use Rattle.std.specs.Option.{option_or}
use Rattle.std.proofs.lemmas.Bool.{cases_Bool}
use Rattle.std.proofs.lemmas.Bool.Decides.{nat_tests}
use Rattle.std.proofs.lemmas.List.{drop-take, length-take, length-append}
use Rattle.std.proofs.lemmas.Option.{slice_get_read, slice_get_past}
use Rattle.std.proofs.Math.ListN.{get_or-append}
use Rattle.std.proofs.Math.Seq.{get_or-append_seam}
use Rattle.pm_words.specs.Stack.{◌>>=◌, demand}
use Rattle.pm_volume.specs.declared.entry.Entry.{Entry}
use Rattle.pm_volume.specs.Directory.{block_count, directory_of, files_begin}
use Rattle.pm_volume.specs.Files.{file_bytes, file_named, files_of, is_named}
use Rattle.pm_volume.proofs.StayLaws.{files_within}
use Rattle.pm_volume.proofs.OrderLaws.{IsWithin}
use Rattle.pm_codefile.specs.declared.fault.CodeFault.{CodeFault}
use Rattle.pm_codefile.specs.Dictionary.{block_in, file_fault, first_slot_fault, length_in, segment_in, slot_fault, slot_in}
use Rattle.pm_units.specs.Devices.{Devices, code_on, image_on, unit_of}
use Rattle.pm_machine.specs.declared.state.BootFault.{BootFault}
use Rattle.pm_machine.specs.declared.state.BootFault.TheVariants.{NoFile, NotCode, BadCode}
use Rattle.pm_stdproc.specs.declared.loads.SlotRow.{SlotRow}
use Rattle.pm_machine.specs.Boot.{code_file, image_of, row_of, rows_below, some_or}
use Rattle.pm_stdproc.specs.Loads.{code_needed, code_of_row}
use Rattle.law_engine.specs.EventLaws.{LoadsGiveSegments}

-- A range of a range of `xs` is the range of `xs` at the sum of the offsets.
part-of_part : (xs : List ℕ) (a c b l : ℕ) → a + b + l ≤ c → slice_range (slice_range xs a c) b (b + l) ≡ slice_range xs (a + b) (a + b + l)
part-of_part xs a c b l within =
    let count : b + l - b ≡ l = omega arith in
    let other : a + b + l - (a + b) ≡ l = omega arith in
    let whole : c - a ≡ b + (c - (a + b)) = omega arith in
    let cut : drop b (take (c - a) (drop a xs)) ≡ take (c - (a + b)) (drop (a + b) xs) =
    ap (λ k. drop b (take k (drop a xs))) whole ∙ drop-take b (c - (a + b)) (drop a xs) ∙ ap (take (c - (a + b))) (drop-drop b a xs) in
    rw (count, other, cut) (take-take l (c - (a + b)) (drop (a + b) xs) (omega arith))

-- If all entries have the property `P`, then the entry that is found has it.
pub found_all : (P : Entry → Type 0) (p : Entry → Bool) (xs : List Entry) (x : Entry) → All P xs → find p xs ≡ Some x → P x
found_all P p [] x all h = cc
found_all P p (y ∷ ys) x all h = go (p y) h (λ is. found_all P p ys x (λ k d l. all (suc k) d (omega (arith, l))) is)
  where
    go : (b : Bool) → cond b (Some y) (find p ys) ≡ Some x → (find p ys ≡ Some x → P x) → P x
    go true is later = let same : y ≡ x = cc in subst P same (all 0 y (omega arith))
    go false is later = later is

-- ---- the properties of a code file that was found

passed : {A : Type 0} (b : Bool) (f : BootFault) (rest : Result A BootFault) (y : A) → (demand b f >>= λ _. rest) ≡ Ok y → (b ≡ true) × (rest ≡ Ok y)
passed true f rest y h = (refl, h)
passed false f rest y h = cc

there : {A B : Type 0} (o : Option A) (f : BootFault) (rest : A → Result B BootFault) (y : B) → (some_or f o >>= rest) ≡ Ok y
    → (x : A) × (o ≡ Some x) × (rest x ≡ Ok y)
there None f rest y h = cc
there (Some x) f rest y h = (x, refl, h)

no_fault : (o : Option CodeFault) → is_none o ≡ true → o ≡ None
no_fault None h = refl
no_fault (Some f) h = cc

abbrev ok : Entry × List ℕ → Result (Entry × List ℕ) BootFault
ok x = Ok x

-- The program `name` was found in `image`: `entry` is its entry, and `file` is its bytes, which are a valid code file.
pub record IsFound (image name : List ℕ) (entry : Entry) (file : List ℕ) : Type 0 where
  pub named : file_named image name ≡ Some entry
  pub bytes : file_bytes image entry ≡ Some file
  pub sound : file_fault file ≡ None

ok_same : (x y : Entry × List ℕ) → ok x ≡ ok y → x ≡ y
ok_same x y h = cc

joined : (image name : List ℕ) (e entry : Entry) (b file : List ℕ) → file_named image name ≡ Some e → file_bytes image e ≡ Some b
    → is_none (file_fault b) ≡ true → ok (e, b) ≡ ok (entry, file) → IsFound image name entry file
joined image name e entry b file named bytes sound same =
    let both = ok_same (e, b) (entry, file) same in
    let entry_is : e ≡ entry = ap (λ (x : Entry × List ℕ). x.0) both in
    let file_is : b ≡ file = ap (λ (x : Entry × List ℕ). x.1) both in
    record {
      named = named ∙ ap Some entry_is;
      bytes = ap (file_bytes image) (sym entry_is) ∙ bytes ∙ ap Some file_is;
      sound = ap file_fault (sym file_is) ∙ no_fault (file_fault b) sound;
    }

pub found : (images : List (Option (List ℕ))) (image name file : List ℕ) (entry : Entry) (unit : ℕ) → image_of images unit ≡ Some image
    → code_file images unit name ≡ Ok (entry, file) → IsFound image name entry file
unfolding code_file
found images image name file entry unit on h =
    let e = there (file_named image name) NoFile _ _ (rw on at h) in
    let k = passed (e.0.kind == 2) NotCode _ _ e.2 in
    let b = there (file_bytes image e.0) BadCode _ _ k.1 in
    let s = passed (is_none (file_fault b.0)) BadCode _ _ b.2 in
    let g = passed (is_some (segment_in b.0 1)) BadCode _ _ s.1 in
    joined image name e.0 entry b.0 file e.1 b.1 s.0 g.1

-- ---- the slots of a valid file

or_none : (a b : Option CodeFault) → option_or a b ≡ None → (a ≡ None) × (b ≡ None)
or_none None b h = (refl, h)
or_none (Some f) b h = cc

slots_sound : (file : List ℕ) (left n k : ℕ) → first_slot_fault file n left ≡ None → k < left → slot_fault file (n + k) ≡ None
unfolding first_slot_fault
slots_sound file zero n k h l = absurd (omega (arith, l))
slots_sound file (suc left) n zero h l = let at : n + 0 ≡ n = omega arith in rw at ((or_none _ _ h).0)
slots_sound file (suc left) n (suc k) h l =
    let at : n + suc k ≡ n + 1 + k = omega arith in
    rw at (slots_sound file left (n + 1) k ((or_none _ _ h).1) (omega (arith, l)))

cond_none : {A : Type 0} (b : Bool) (x : A) (o : Option A) → cond b (Some x) o ≡ None → (b ≡ false) × (o ≡ None)
cond_none true x o h = cc
cond_none false x o h = (refl, h)

record IsSoundFile (file : List ℕ) : Type 0 where
  pub dictionary : 512 ≤ length file
  pub slots : (n : ℕ) → n < 16 → 0 < length_in file n → 512 * block_in file n + length_in file n ≤ length file

sound_file : (file : List ℕ) → file_fault file ≡ None → IsSoundFile file
unfolding file_fault slot_fault
sound_file file h =
    let d = cond_none (nat_lt (length file) 512) _ _ h in
    record {
      dictionary = grind (arith, nat_tests, d.0);
      slots = λ n l has.
          let start : 0 + n ≡ n = omega arith in
          let none : slot_fault file n ≡ None = rw start at (slots_sound file 16 0 n d.1 l) in
          let in_file = cond_none (not (length_in file n % 2 == 0)) _ _ none in
          let past = cond_none (nat_lt 0 (length_in file n) && nat_lt (length file) (512 * block_in file n + length_in file n)) _ _ in_file.1 in
          grind (arith, nat_tests, past.0, has);
    }

-- ---- the rows

pub length-rows : (unit first : ℕ) (file : List ℕ) (n : ℕ) → length (rows_below unit first file n) ≡ n
unfolding rows_below
length-rows unit first file zero = refl
length-rows unit first file (suc n) = length-append (rows_below unit first file n) _ ∙ (let size = length-rows unit first file n in omega (arith, size))

row_there : (unit first : ℕ) (file : List ℕ) (n k : ℕ) (d : SlotRow) → k < n → get_or (rows_below unit first file n) k d ≡ row_of unit first (slot_in file k)
unfolding rows_below
row_there unit first file zero k d l = absurd (omega (arith, l))
row_there unit first file (suc n) k d l = elim (cases_Bool (nat_lt k n)) [
  | inl below ↦
      let size = length-rows unit first file n in
      get_or-append (rows_below unit first file n) _ d k (grind (arith, nat_tests, below, size))
      ∙ row_there unit first file n k d (grind (arith, nat_tests, below))
  | inr last ↦
      let size = length-rows unit first file n in
      let at : k ≡ length (rows_below unit first file n) = grind (arith, nat_tests, last, size, l) in
      let here : k ≡ n = at ∙ size in
      rw at (get_or-append_seam (rows_below unit first file n) _ [] d) ∙ ap (λ i. row_of unit first (slot_in file i)) (sym here)
]

-- ---- the loads

record IsPartOf (image : List ℕ) (e : Entry) (file : List ℕ) : Type 0 where
  pub blocks : e.first < e.end
  pub within : 512 * (e.end - 1) + e.last_bytes ≤ length image
  pub bytes : file ≡ slice_range image (512 * e.first) (512 * (e.end - 1) + e.last_bytes)

not_empty : (xs : List ℕ) → Some [] ≡ Some xs → length xs ≡ 0
not_empty [] h = refl
not_empty (x ∷ xs) h = cc

two_tests : (a b : Bool) (xs file : List ℕ) → cond a (Some []) (cond b (Some xs) None) ≡ Some file → 512 ≤ length file
    → (a ≡ false) × (b ≡ true) × (file ≡ xs)
two_tests true b xs file h long = let none = not_empty file h in absurd (omega (arith, none, long))
two_tests false true xs file h long = (refl, refl, cc)
two_tests false false xs file h long = cc

part_there : (image file : List ℕ) (e : Entry) → file_bytes image e ≡ Some file → 512 ≤ length file → IsPartOf image e file
unfolding file_bytes
part_there image file e h long =
    let t = two_tests (nat_le e.end e.first) (nat_le (512 * (e.end - 1) + e.last_bytes) (length image)) _ file h long in
    record {
      blocks = grind (arith, nat_tests, t.0);
      within = grind (arith, nat_tests, t.1);
      bytes = t.2;
    }

-- The blocks of slot `n` are in the image, and the sum of the block numbers is less than 65,536.
record IsPlaced (image file : List ℕ) (e : Entry) (n : ℕ) : Type 0 where
  pub fits : (e.first + block_in file n) % 65536 ≡ e.first + block_in file n
  pub lies : nat_le (512 * (e.first + block_in file n) + length_in file n) (length image) ≡ true
  pub bytes : slice_range image (512 * (e.first + block_in file n)) (512 * (e.first + block_in file n) + length_in file n)
      ≡ slice_range file (512 * block_in file n) (512 * block_in file n + length_in file n)

slot_placed : (image file : List ℕ) (e : Entry) (n : ℕ) → IsPartOf image e file → e.last_bytes ≤ 512 → e.end < 65536 → 0 < length_in file n
    → 512 * block_in file n + length_in file n ≤ length file → IsPlaced image file e n
slot_placed image file e n part one_block word has inside =
    let size : length file ≤ 512 * (e.end - 1) + e.last_bytes - 512 * e.first = rw part.bytes
    (length-part image (512 * e.first) (512 * (e.end - 1) + e.last_bytes)) in
    let blocks = part.blocks in
    let within = part.within in
    let room : 512 * e.first + 512 * block_in file n + length_in file n ≤ 512 * (e.end - 1) + e.last_bytes = omega arith in
    let place : 512 * (e.first + block_in file n) ≡ 512 * e.first + 512 * block_in file n = omega arith in
    let below : e.first + block_in file n < 65536 = omega arith in
    record {
      fits = omega arith;
      lies = grind (arith, nat_tests, room, within);
      bytes = rw place (sym (part-of_part image (512 * e.first) (512 * (e.end - 1) + e.last_bytes) (512 * block_in file n) (length_in file n) room))
          ∙ ap (λ xs. slice_range xs (512 * block_in file n) (512 * block_in file n + length_in file n)) (sym part.bytes);
    }
  where
    length-part : (xs : List ℕ) (a b : ℕ) → length (slice_range xs a b) ≤ b - a
    length-part xs a b = let size = length-take (b - a) (drop a xs) in omega (arith, size)

slot_loads : (image file : List ℕ) (e : Entry) (d : Devices) (unit n : ℕ) → nat_lt 15 n ≡ false → IsPartOf image e file → e.last_bytes ≤ 512 → e.end < 65536
    → IsSoundFile file → image_on (unit_of unit) d ≡ Some image → code_of_row (Some (row_of unit e.first (slot_in file n))) d ≡ Ok (segment_in file n)
unfolding slot_in segment_in code_on
slot_loads image file e d unit n low part one_block word sound on = elim (cases_Bool (length_in file n == 0)) [
  | inl none ↦ rw (low, none) refl
  | inr some ↦
      let has : 0 < length_in file n = grind (arith, nat_tests, some) in
      let p = slot_placed image file e n part one_block word has (sound.slots n (grind (arith, nat_tests, low)) has) in
      let row : row_of unit e.first (slot_in file n) ≡ record { unit = unit; block = e.first + block_in file n; length = length_in file n } = rw
      (low, some, p.fits) refl in
      rw (row, some, on, p.lies, low) (ap (λ xs. Ok (Some xs)) p.bytes)
]

no_segment : (file : List ℕ) (n : ℕ) → nat_lt 15 n ≡ true → segment_in file n ≡ None
unfolding segment_in
no_segment file n h = rw h refl

pub loads_give_segments : LoadsGiveSegments
unfolding code_needed
loads_give_segments images image name file entry d places unit n p v on h word there none =
    let f = found images image name file entry unit on h in
    let sound = sound_file file f.sound in
    let part = part_there image file entry f.bytes sound.dictionary in
    let lies = found_all (IsWithin (files_begin (directory_of image)) (block_count (directory_of image))) (is_named name) (files_of image) entry
    (files_within image v) f.named in
    let size = length-rows unit entry.first file 16 in
    rw none (elim (cases_Bool (nat_lt 15 n)) [
      | inl high ↦
          let past : slice_get (rows_below unit entry.first file 16) n ≡ None = slice_get_past (rows_below unit entry.first file 16) n
          (grind (arith, nat_tests, high, size)) in
          rw past (ap Ok (sym (no_segment file n high)))
      | inr low ↦
          let below : n < 16 = grind (arith, nat_tests, low) in
          let row : slice_get (rows_below unit entry.first file 16) n ≡ Some (row_of unit entry.first (slot_in file n)) =
          slice_get_read (rows_below unit entry.first file 16) 16 n _ (sym size) below (sym (row_there unit entry.first file 16 n _ below)) in
          rw row (slot_loads image file entry d unit n low part (lies.one_block part.blocks) word sound there)
    ])
