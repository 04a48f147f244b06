-- Lemmas for the slots of a code file with a system segment.
use Rattle.byteorder.specs.Endian.{little_bytes}
use Rattle.std.proofs.Common.{◌≡◌, ◌<◌, ◌≤◌, ◌⊎◌, inl, inr, ℕ, ◌+◌, ◌-◌, ◌*◌, ◌%◌, Bool, true, false, ◌&&◌, List, ◌++◌, ◌∙◌, ap}
use Rattle.std.proofs.Common.{length, get_or, replicate, None, Some, cond, eqb, ltb, refl, arith, length-append}
use Rattle.std.specs.Prelude.{not, slice_range}
use Rattle.std.proofs.lemmas.Bool.{cases_Bool, cases_lt, eqb-false, eqb-true, le-ltb, lt-ltb, ltb-false}
use Rattle.std.proofs.lemmas.List.{get_or_append_left, length-replicate, take_all}
use Rattle.pm_bytes.specs.Blocks.{blocks_for}
use Rattle.pm_codefile.specs.Dictionary.{IsCodeFile, block_in, length_in, segment_in, slot_fault, slot_in, word_in}
use Rattle.pm_codefile.specs.declared.fault.CodeFault.{CodeFault}
use Rattle.pm_codefile.specs.declared.file.Slot.{Slot}
use Rattle.pm_codefile.proofs.Written.{slice_range-right, word_in-left}
use Rattle.law_disks.specs.SystemLaws.{IsSlot, NewFileIsSound, SegmentsStay}
use Rattle.pm_filer.specs.SystemSegments.{filled, with_segment}
use Rattle.pm_volume.proofs.WrittenLaws.{get_written_above, get_written_outside, length-written, same_parts, word_in-below, word_in-written}
use Rattle.pm_volume.specs.Words.{written}

length-filled : (file : List ℕ) → length (filled file) ≡ 512 * blocks_for (length file)
length-filled file = omega (
  arith,
  length-append file (replicate (512 * blocks_for (length file) - length file) 0),
  length-replicate {A = ℕ} (512 * blocks_for (length file) - length file) 0,
)

behind : (k : ℕ) (name : List ℕ) → length name ≡ 8 → (k < 64) ⊎ (72 ≤ k) → (k < 64) ⊎ (64 + length name ≤ k)
behind k name eight (inl low) = inl low
behind k name eight (inr high) = inr (omega arith)

-- If a byte of the dictionary does not belong to slot 0, then it is unchanged.
get_said : (xs : List ℕ) (b s : ℕ) (name rest : List ℕ) (k : ℕ) → 72 ≤ length xs → length name ≡ 8 → 4 ≤ k
    → (k < 64) ⊎ (72 ≤ k) → k < length xs
    → get_or (written (written (written xs 0 (little_bytes 2 b)) 2 (little_bytes 2 s)) 64 name ++ rest) k 0 ≡ get_or xs k 0
get_said xs b s name rest k long eight past apart low =
    let one = written xs 0 (little_bytes 2 b) in
    let two = written one 2 (little_bytes 2 s) in
    let l1 : length one ≡ length xs = length-written xs 0 (little_bytes 2 b) (omega arith) in
    let l2 : length two ≡ length xs = length-written one 2 (little_bytes 2 s) (omega arith) ∙ l1 in
    let l3 : length (written two 64 name) ≡ length xs = length-written two 64 name (omega arith) ∙ l2 in
    get_or_append_left (written two 64 name) rest 0 k (omega arith)
    ∙ get_written_outside two 64 name k (omega arith) (behind k name eight apart)
    ∙ get_written_above one 2 (little_bytes 2 s) k (omega arith) (omega arith)
    ∙ get_written_above xs 0 (little_bytes 2 b) k (omega arith) (omega arith)

no_fault : (a b : Bool) (x y : CodeFault) → cond a (Some x) (cond b (Some y) None) ≡ None → b ≡ false
no_fault true b x y h = cc
no_fault false true x y h = cc
no_fault false false x y h = refl

even_of : (a b : Bool) (x y : CodeFault) → cond a (Some x) (cond b (Some y) None) ≡ None → a ≡ false
even_of true b x y h = cc
even_of false b x y h = refl

and_false : (a : Bool) → (a && false) ≡ false
and_false true = refl
and_false false = refl

second_false : (a b : Bool) → (a && b) ≡ false → a ≡ true → b ≡ false
second_false true b h e = h
second_false false b h e = cc

-- If a slot has no fault and is not empty, then its segment is within the file.
within : (file : List ℕ) (n : ℕ) → slot_fault file n ≡ None → eqb (length_in file n) 0 ≡ false
    → 512 * block_in file n + length_in file n ≤ length file
unfolding slot_fault
within file n none some =
    let positive : 0 < length_in file n = elim (cases_lt 0 (length_in file n)) [
      | inl more ↦ more
      | inr zero ↦ absurd (eqb-false (length_in file n) 0 some (omega arith))
    ] in
    ltb-false (length file) (512 * block_in file n + length_in file n)
    (second_false _ _ (no_fault _ _ _ _ none) (lt-ltb 0 (length_in file n) positive))

module _ (file segment : List ℕ) (slot : Slot) (code : IsCodeFile file) (few : blocks_for (length file) < 65536)
    (has : IsSlot slot segment) where
  long : 512 ≤ length file
  long = code.dictionary

  byte : (k : ℕ) → 4 ≤ k → (k < 64) ⊎ (72 ≤ k) → k < length file
      → get_or (with_segment file slot segment) k 0 ≡ get_or file k 0
  unfolding with_segment
  byte k past apart low =
      let size = length-filled file in
      let whole = long in
      get_said (filled file) (blocks_for (length file)) slot.length slot.name segment k (omega arith) has.name past apart (omega arith)
      ∙ get_or_append_left file (replicate (512 * blocks_for (length file) - length file) 0) 0 k low

  word : (p : ℕ) → 4 ≤ p → (p + 2 ≤ 64) ⊎ (72 ≤ p) → p + 2 ≤ length file
      → word_in (with_segment file slot segment) p ≡ word_in file p
  unfolding word_in
  word p past (inl below) low =
      rw (byte p past (inl (omega arith)) (omega arith), byte (p + 1) (omega arith) (inl (omega arith)) (omega arith)) refl
  word p past (inr above) low =
      rw (byte p past (inr above) (omega arith), byte (p + 1) (omega arith) (inr (omega arith)) (omega arith)) refl

  whole_size : length (with_segment file slot segment) ≡ 512 * blocks_for (length file) + length segment
  unfolding with_segment
  whole_size =
      let b = blocks_for (length file) in
      let l0 = length-filled file in
      let whole = long in
      let eight = has.name in
      let one = written (filled file) 0 (little_bytes 2 b) in
      let two = written one 2 (little_bytes 2 slot.length) in
      let l1 : length one ≡ length (filled file) = length-written (filled file) 0 (little_bytes 2 b) (omega arith) in
      let l2 : length two ≡ length (filled file) = length-written one 2 (little_bytes 2 slot.length) (omega arith) ∙ l1 in
      let l3 : length (written two 64 slot.name) ≡ length (filled file) = length-written two 64 slot.name (omega arith) ∙ l2 in
      omega (arith, length-append (written two 64 slot.name) segment)

  size : length file ≤ length (with_segment file slot segment)
  size =
      let whole = whole_size in
      let l0 = length-filled file in
      omega arith

  part : (a n : ℕ) → 72 ≤ a → a + n ≤ length file
      → slice_range (with_segment file slot segment) a (a + n) ≡ slice_range file a (a + n)
  part a n past low =
      let long' = size in
      let e : a + n - a ≡ n = omega arith in
      rw e (same_parts (with_segment file slot segment) file a a n (omega arith) low
      (λ k below. byte (a + k) (omega arith) (inr (omega arith)) (omega arith)))

  slots : (n : ℕ) → 1 ≤ n → slot_in (with_segment file slot segment) n ≡ slot_in file n
  unfolding slot_in
  slots n from =
      let whole = long in
      elim (cases_lt 15 n) [
        | inl high ↦ let e = lt-ltb 15 n high in rw e refl
        | inr low ↦
            let e = le-ltb 15 n low in
            rw (
              e,
              word (4 * n) (omega arith) (inl (omega arith)) (omega arith),
              word (4 * n + 2) (omega arith) (inl (omega arith)) (omega arith),
              word (192 + 2 * n) (omega arith) (inr (omega arith)) (omega arith),
              part (64 + 8 * n) 8 (omega arith) (omega arith),
            ) refl
      ]

  segments : (n : ℕ) → 1 ≤ n → 1 ≤ block_in file n → segment_in (with_segment file slot segment) n ≡ segment_in file n
  unfolding segment_in
  segments n from behind_it =
      let whole = long in
      elim (cases_lt 15 n) [
        | inl high ↦ let e = lt-ltb 15 n high in rw e refl
        | inr low ↦
            let e = le-ltb 15 n low in
            rw (e, word (4 * n) (omega arith) (inl (omega arith)) (omega arith), word (4 * n + 2) (omega arith) (inl (omega arith)) (omega arith))
            (elim (cases_Bool (eqb (length_in file n) 0)) [
              | inl none ↦ rw none refl
              | inr some ↦
                  let fits = within file n (code.sound n (omega arith)) some in
                  rw (some, part (512 * block_in file n) (length_in file n) (omega arith) fits) refl
            ])
      ]

  zero_block : block_in (with_segment file slot segment) 0 ≡ blocks_for (length file)
  unfolding with_segment
  zero_block =
      let b = blocks_for (length file) in
      let l0 = length-filled file in
      let whole = long in
      let eight = has.name in
      let one = written (filled file) 0 (little_bytes 2 b) in
      let two = written one 2 (little_bytes 2 slot.length) in
      let l1 : length one ≡ length (filled file) = length-written (filled file) 0 (little_bytes 2 b) (omega arith) in
      let l2 : length two ≡ length (filled file) = length-written one 2 (little_bytes 2 slot.length) (omega arith) ∙ l1 in
      let l3 : length (written two 64 slot.name) ≡ length (filled file) = length-written two 64 slot.name (omega arith) ∙ l2 in
      word_in-left (written two 64 slot.name) segment 0 (omega arith)
      ∙ word_in-below two 64 slot.name 0 (omega arith) (omega arith)
      ∙ word_in-below one 2 (little_bytes 2 slot.length) 0 (omega arith) (omega arith)
      ∙ word_in-written (filled file) 0 b (omega arith) few

  zero_length : length_in (with_segment file slot segment) 0 ≡ slot.length
  unfolding with_segment
  zero_length =
      let b = blocks_for (length file) in
      let l0 = length-filled file in
      let whole = long in
      let eight = has.name in
      let one = written (filled file) 0 (little_bytes 2 b) in
      let two = written one 2 (little_bytes 2 slot.length) in
      let l1 : length one ≡ length (filled file) = length-written (filled file) 0 (little_bytes 2 b) (omega arith) in
      let l2 : length two ≡ length (filled file) = length-written one 2 (little_bytes 2 slot.length) (omega arith) ∙ l1 in
      let l3 : length (written two 64 slot.name) ≡ length (filled file) = length-written two 64 slot.name (omega arith) ∙ l2 in
      word_in-left (written two 64 slot.name) segment 2 (omega arith)
      ∙ word_in-below two 64 slot.name 2 (omega arith) (omega arith)
      ∙ word_in-written one 2 slot.length (omega arith) has.word

  zero_part : slice_range (with_segment file slot segment) (512 * blocks_for (length file)) (512 * blocks_for (length file) + slot.length) ≡ segment
  unfolding with_segment
  zero_part =
      let b = blocks_for (length file) in
      let l0 = length-filled file in
      let whole = long in
      let eight = has.name in
      let one = written (filled file) 0 (little_bytes 2 b) in
      let two = written one 2 (little_bytes 2 slot.length) in
      let l1 : length one ≡ length (filled file) = length-written (filled file) 0 (little_bytes 2 b) (omega arith) in
      let l2 : length two ≡ length (filled file) = length-written one 2 (little_bytes 2 slot.length) (omega arith) ∙ l1 in
      let l3 : length (written two 64 slot.name) ≡ 512 * b = length-written two 64 slot.name (omega arith) ∙ l2 ∙ l0 in
      let same : slot.length - 0 ≡ slot.length = omega arith in
      let whole_part : slice_range segment 0 slot.length ≡ segment =
      rw same (take_all slot.length segment (omega (arith, has.size))) in
      let none : 512 * b ≡ 512 * b + 0 = omega arith in
      ap (λ (a : ℕ). slice_range (written two 64 slot.name ++ segment) a (512 * b + slot.length)) none
      ∙ slice_range-right (written two 64 slot.name) segment (512 * b) 0 slot.length l3 ∙ whole_part

  zero : segment_in (with_segment file slot segment) 0 ≡ Some segment
  unfolding segment_in
  zero =
      let some : eqb slot.length 0 ≡ false = elim (cases_Bool (eqb slot.length 0)) [
        | inl none ↦ absurd (lost (eqb-true slot.length 0 none) has.some)
        | inr some ↦ some
      ] in
      rw (zero_length, zero_block, some, zero_part) refl
    where
      lost : slot.length ≡ 0 → 0 < slot.length → ⊥
      lost e l = omega arith

  -- If the length of the segment is even, then slot 0 has no fault.
  zero_sound : slot.length % 2 ≡ 0 → slot_fault (with_segment file slot segment) 0 ≡ None
  unfolding slot_fault
  zero_sound even =
      let long' = whole_size in
      let same = has.size in
      let some = lt-ltb 0 slot.length has.some in
      let fits = le-ltb (length (with_segment file slot segment)) (512 * blocks_for (length file) + slot.length) (omega arith) in
      rw (zero_length, zero_block, even, some, fits) refl

  -- No slot from 1 to 15 has a fault.
  same_sound : (n : ℕ) → 1 ≤ n → n < 16 → slot_fault (with_segment file slot segment) n ≡ None
  unfolding slot_fault
  same_sound n from low =
      let whole = long in
      let long' = size in
      let filled' = length-filled file in
      let none = code.sound n low in
      let even : not (eqb (length_in file n % 2) 0) ≡ false = even_of _ _ _ _ none in
      rw (word (4 * n) (omega arith) (inl (omega arith)) (omega arith), word (4 * n + 2) (omega arith) (inl (omega arith)) (omega arith), even)
      (elim (cases_Bool (eqb (length_in file n) 0)) [
        | inl none ↦ let e : length_in file n ≡ 0 = eqb-true (length_in file n) 0 none in rw e refl
        | inr some ↦
            let within' = within file n none some in
            let fits = le-ltb (length (with_segment file slot segment)) (512 * block_in file n + length_in file n) (omega arith) in
            rw (fits, and_false (ltb 0 (length_in file n))) refl
      ])

  sound : slot.length % 2 ≡ 0 → IsCodeFile (with_segment file slot segment)
  sound even =
      let whole = long in
      let long' = size in
      let filled' = length-filled file in
      record {
        dictionary = omega arith;
        sound = λ n low. elim (cases_lt 0 n) [
          | inl more ↦ same_sound n more low
          | inr least ↦ let e : n ≡ 0 = omega arith in rw e (zero_sound even)
        ];
      }

pub segments_stay : SegmentsStay
segments_stay file segment slot code few has = record {
  zero = zero file segment slot code few has;
  slots = slots file segment slot code few has;
  segments = segments file segment slot code few has;
}

pub new_file_is_sound : NewFileIsSound
new_file_is_sound file segment slot code few has even = sound file segment slot code few has even
