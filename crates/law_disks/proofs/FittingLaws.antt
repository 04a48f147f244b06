-- Lemmas for names that match a pattern, and for the files that remain after those that match are removed.
use Rattle.std.proofs.Common.{◌≡◌, ◌≤◌, inl, inr, ℕ, zero, suc, ◌+◌, ◌-◌, Bool, true, false, not, List, [], ◌∷◌, ◌++◌, length}
use Rattle.std.proofs.Common.{Some, None, Ok, take, drop, refl, sym, ap, subst, ◌∙◌, arith, append_assoc, append-nil}
use Rattle.std.proofs.Math.Seq.{drop-append_seam, take-append_seam}
use Rattle.std.proofs.lemmas.Bool.{and_parts, cases_Bool}
use Rattle.std.proofs.lemmas.Bool.Decides.{nat_tests}
use Rattle.std.proofs.lemmas.List.{take-append-drop}
use Rattle.std.proofs.lemmas.List.Elements.{All-cons, All-head, All-tail, filter-append}
use Rattle.std.specs.List.{All, filter, position, position_or_len}
use Rattle.std.specs.Prelude.{◌==◌, nat_le, nat_lt, slice_get}
use Rattle.pm_volume.specs.Directory.{IsVolume}
use Rattle.pm_volume.specs.Files.{file_bytes, files_of}
use Rattle.pm_volume.specs.Made.{slot_removed}
use Rattle.pm_volume.specs.Names.{is_same_name}
use Rattle.pm_volume.specs.declared.entry.Entry.{Entry}
use Rattle.pm_filer.specs.Filed.{filed}
use Rattle.pm_filer.specs.Fitting.{fits, fitting_removed, is_around, is_fitting, without_first, without_fitting}
use Rattle.law_disks.specs.Fitting.{EqualsIsAnything, HasMiddle, PatternIsName, RemovalLeavesUnfit, UnfitIsRefused, has_equals, unfit}
use Rattle.law_disks.specs.Slots.{HaveBytesOf}
use Rattle.law_disks.proofs.SlotLaws.{takes_one}

-- ---- patterns

-- The position of the first equals sign is the length of `begin`, if `begin` contains no equals sign.
first_equals : (begin end : List ℕ) → has_equals begin ≡ false → position_or_len (λ c. c == 61) (begin ++ 61 ∷ end) ≡ length begin
first_equals [] end none = refl
first_equals (c ∷ begin) end none = elim (cases_Bool (c == 61)) [
  | inl on ↦ let some : true ≡ false = rw on at none in cc
  | inr off ↦
      let rest : has_equals begin ≡ false = rw off at none in
      rw off (omega (arith, first_equals begin end rest))
]

no_equals : (text : List ℕ) → has_equals text ≡ false → position_or_len (λ c. c == 61) text ≡ length text
no_equals [] none = refl
no_equals (c ∷ text) none = elim (cases_Bool (c == 61)) [
  | inl on ↦ let some : true ≡ false = rw on at none in cc
  | inr off ↦
      let rest : has_equals text ≡ false = rw off at none in
      rw off (omega (arith, no_equals text rest))
]

sum_of : (xs ys : List ℕ) → length (xs ++ ys) ≡ length xs + length ys
sum_of [] ys = omega arith
sum_of (x ∷ xs) ys = omega (arith, sum_of xs ys)

found : (begin end : List ℕ) → has_equals begin ≡ false → position (λ c. c == 61) (begin ++ 61 ∷ end) ≡ Some (length begin)
found begin end none =
    let at = first_equals begin end none in
    let within : nat_lt (length begin) (length (begin ++ 61 ∷ end)) ≡ true = grind (arith, nat_tests, sum_of begin (61 ∷ end)) in
    rw (at, within) refl

not_found : (text : List ℕ) → has_equals text ≡ false → position (λ c. c == 61) text ≡ None
not_found text none =
    let at = no_equals text none in
    let past : nat_lt (length text) (length text) ≡ false = grind (arith, nat_tests) in
    rw (at, past) refl

pub pattern_is_name : PatternIsName
unfolding fits
pattern_is_name pattern name none = rw (not_found pattern none) refl

behind_one : (begin end : List ℕ) (c : ℕ) → drop (length begin + 1) (begin ++ c ∷ end) ≡ end
behind_one [] end c = refl
behind_one (b ∷ begin) end c = let e : suc (length begin) + 1 ≡ suc (length begin + 1) = omega arith in rw e (behind_one begin end c)

fits_around : (begin end name : List ℕ) → has_equals begin ≡ false → fits (begin ++ 61 ∷ end) name ≡ is_around begin end name
unfolding fits
fits_around begin end name none =
    rw (found begin end none, take-append_seam begin (61 ∷ end), behind_one begin end 61) refl

same_length : (a b : List ℕ) → is_same_name a b ≡ true → length a ≡ length b
unfolding is_same_name
same_length a b same =
    let parts = and_parts (length a == length b) _ same in
    grind (arith, nat_tests, parts.0)

nothing_dropped : (n : ℕ) → drop {A = ℕ} n [] ≡ []
nothing_dropped zero = refl
nothing_dropped (suc n) = refl

-- Dropping `n` and then `m` elements is the same as dropping `n + m` elements.
dropped_twice : (n m : ℕ) (xs : List ℕ) → drop m (drop n xs) ≡ drop (n + m) xs
dropped_twice zero m xs = let e : 0 + m ≡ m = omega arith in rw e refl
dropped_twice (suc n) m [] = nothing_dropped m ∙ sym (nothing_dropped (suc n + m))
dropped_twice (suc n) m (x ∷ xs) = let e : suc n + m ≡ suc (n + m) = omega arith in rw e (dropped_twice n m xs)

middle_of : (begin end name : List ℕ) → is_around begin end name ≡ true → HasMiddle begin end name
middle_of begin end name around =
    let a = and_parts (nat_le (length begin + length end) (length name)) _ around in
    let b = and_parts (is_same_name begin (take (length begin) name)) _ a.1 in
    let fit : length begin + length end ≤ length name = grind (arith, nat_tests, a.0) in
    let rest = length name - length end - length begin in
    let back : length begin + rest ≡ length name - length end = omega (arith, fit) in
    record {
      first = take (length begin) name;
      middle = take rest (drop (length begin) name);
      last = drop (length name - length end) name;
      parts =
          sym (take-append-drop (length begin) name) ∙ ap (λ t. take (length begin) name ++ t) (
          sym (take-append-drop rest (drop (length begin) name))
          ∙ ap (λ t. take rest (drop (length begin) name) ++ t) (dropped_twice (length begin) rest name ∙ ap (λ n. drop n name) back)
          );
      begins = b.0;
      ends = b.1;
    }

around_middle : (begin end name : List ℕ) → HasMiddle begin end name → is_around begin end name ≡ true
around_middle begin end name h =
    let front = same_length begin h.first h.begins in
    let back = same_length end h.last h.ends in
    let size = sum_of h.first (h.middle ++ h.last) in
    let inner = sum_of h.middle h.last in
    let whole : length name ≡ length h.first + (length h.middle + length h.last) = ap length h.parts ∙ size ∙ ap (λ n. length h.first + n) inner in
    let fit : nat_le (length begin + length end) (length name) ≡ true = grind (arith, nat_tests, whole, front, back) in
    let begins : take (length begin) name ≡ h.first =
    ap (λ n. take n name) front ∙ ap (take (length h.first)) h.parts ∙ take-append_seam h.first (h.middle ++ h.last) in
    let size_front : length (h.first ++ h.middle) ≡ length h.first + length h.middle = sum_of h.first h.middle in
    let at : length name - length end ≡ length (h.first ++ h.middle) = omega (arith, whole, back, size_front) in
    let ends : drop (length name - length end) name ≡ h.last =
    ap (λ n. drop n name) at ∙ ap (drop (length (h.first ++ h.middle))) (h.parts ∙ sym (append_assoc h.first h.middle h.last))
    ∙ drop-append_seam (h.first ++ h.middle) h.last in
    rw (fit, begins, ends, h.begins, h.ends) refl

pub equals_is_anything : EqualsIsAnything
equals_is_anything begin end name none = (
  λ fit. middle_of begin end name (sym (fits_around begin end name none) ∙ fit),
  λ middle. fits_around begin end name none ∙ around_middle begin end name middle,
)

-- ---- removal

kept : List ℕ → Entry → Bool
kept pattern e = not (is_fitting pattern e)

at_seam : (before after : List Entry) (e : Entry) → slice_get (before ++ e ∷ after) (length before) ≡ Some e
at_seam [] after e = refl
at_seam (x ∷ before) after e = at_seam before after e

record IsPushed (xs : List Entry) (n : ℕ) : Type 0 where
  front : List Entry
  one : Entry
  parts : xs ≡ front ++ one ∷ []
  size : length front ≡ n

last_of : (xs : List Entry) (n : ℕ) → length xs ≡ suc n → IsPushed xs n
last_of [] n size = absurd (omega (arith, size))
last_of (x ∷ []) n size = record { front = []; one = x; parts = refl; size = omega (arith, size) }
last_of (x ∷ y ∷ xs) zero size = absurd (omega (arith, size))
last_of (x ∷ y ∷ xs) (suc n) size =
    let p = last_of (y ∷ xs) n (omega (arith, size)) in
    record { front = x ∷ p.front; one = p.one; parts = ap (λ (es : List Entry). x ∷ es) p.parts; size = omega (arith, p.size) }

all_kept : (P : Entry → Type 0) (keep : Entry → Bool) (xs ys : List Entry) → All P (xs ++ ys) → All P (filter keep xs ++ ys)
all_kept P keep [] ys all = all
all_kept P keep (x ∷ xs) ys all = elim (cases_Bool (keep x)) [
  | inl on ↦ rw on (All-cons P x (filter keep xs ++ ys) (All-head P x (xs ++ ys) all) (all_kept P keep xs ys (All-tail P x (xs ++ ys) all)))
  | inr off ↦ rw off (all_kept P keep xs ys (All-tail P x (xs ++ ys) all))
]

-- After the removal from the first `n` files, `front`, only those of `front` that do not match `pattern` remain. They
-- have the bytes that they had before.
record Leaves (pattern image : List ℕ) (n : ℕ) (front back : List Entry) : Type 0 where
  files : files_of (without_first pattern n image) ≡ unfit pattern front ++ back
  bytes : HaveBytesOf image (without_first pattern n image) (unfit pattern front ++ back)

both : (old between new : List ℕ) (es : List Entry) → HaveBytesOf old between es → HaveBytesOf between new es → HaveBytesOf old new es
both old between new es first second = λ k d low. second k d low ∙ first k d low

leaves : (pattern : List ℕ) (n : ℕ) (image : List ℕ) (front back : List Entry) → IsVolume image → length front ≡ n
    → files_of image ≡ front ++ back → Leaves pattern image n front back
unfolding kept
leaves pattern zero image [] back v size files = record { files = files; bytes = λ k d low. refl }
leaves pattern zero image (e ∷ front) back v size files = absurd (omega (arith, size))
leaves pattern (suc n) image front back v size files =
    let p = last_of front n size in
    let e = p.one in
    let split : files_of image ≡ p.front ++ e ∷ back = files ∙ ap (λ (es : List Entry). es ++ back) p.parts ∙ append_assoc p.front (e ∷ []) back in
    let here : slice_get (files_of image) n ≡ Some e =
    ap (λ es. slice_get es n) split ∙ subst (λ k. slice_get (p.front ++ e ∷ back) k ≡ Some e) p.size (at_seam p.front back e) in
    let behind : unfit pattern front ≡ unfit pattern p.front ++ unfit pattern (e ∷ []) =
    ap (unfit pattern) p.parts ∙ filter-append (kept pattern) p.front (e ∷ []) in
    elim (cases_Bool (is_fitting pattern e)) [
      | inl on ↦
          let t = takes_one image p.front back e v split in
          let made : slot_removed image (n + 1) ≡ Ok t.new = subst (λ k. slot_removed image (k + 1) ≡ Ok t.new) p.size t.made in
          let step : without_fitting pattern n image ≡ t.new = rw (here, on, made) refl in
          let rest = leaves pattern n t.new p.front back t.volume p.size t.files in
          let none : unfit pattern (e ∷ []) ≡ [] = rw on refl in
          let whole : unfit pattern front ≡ unfit pattern p.front = behind ∙ ap (λ (es : List Entry). unfit pattern p.front ++ es) none ∙ append-nil _ in
          let stay = all_kept (λ x. file_bytes t.new x ≡ file_bytes image x) (kept pattern) p.front back t.bytes in
          record {
            files = rw (step, whole) rest.files;
            bytes = rw (step, whole) (both image t.new (without_first pattern n t.new) (unfit pattern p.front ++ back) stay rest.bytes);
          }
      | inr off ↦
          let step : without_fitting pattern n image ≡ image = rw (here, off) refl in
          let rest = leaves pattern n image p.front (e ∷ back) v p.size split in
          let one : unfit pattern (e ∷ []) ≡ e ∷ [] = rw off refl in
          let whole : unfit pattern front ++ back ≡ unfit pattern p.front ++ e ∷ back =
          ap (λ (es : List Entry). es ++ back) (behind ∙ ap (λ (es : List Entry). unfit pattern p.front ++ es) one)
          ∙ append_assoc (unfit pattern p.front) (e ∷ []) back in
          record { files = rw (step, whole) rest.files; bytes = rw (step, whole) rest.bytes }
    ]

pub removal_leaves_unfit : RemovalLeavesUnfit
unfolding filed fitting_removed
removal_leaves_unfit image pattern v some =
    let l = leaves pattern (length (files_of image)) image (files_of image) [] v refl (sym (append-nil _)) in
    let whole : unfit pattern (files_of image) ++ [] ≡ unfit pattern (files_of image) = append-nil _ in
    record {
      new = without_first pattern (length (files_of image)) image;
      done = rw some refl;
      files = l.files ∙ whole;
      bytes = subst (HaveBytesOf image (without_first pattern (length (files_of image)) image)) whole l.bytes;
    }

pub unfit_is_refused : UnfitIsRefused
unfolding filed fitting_removed
unfit_is_refused image pattern none = rw none refl
