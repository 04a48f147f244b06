-- The blocks of a candidate are within its free area.
use Rattle.std.proofs.Common.{◌≡◌, ◌<◌, ◌≤◌, ◌⊎◌, ◌&&◌, ◌==◌, ◌+◌, ◌-◌, ◌*◌, ◌/◌, ◌%◌, ℕ, zero, suc, Bool, true, false, not, cond, List, [], Option, None, Some, length, max, nat_le, nat_lt, slice_range, drop, inl, inr, refl, ap, arith}
use Rattle.std.specs.List.{Contains}
use Rattle.std.specs.Option.{is_none, option_or, unwrap_or}
use Rattle.std.proofs.lemmas.Bool.Decides.{nat_tests}
use Rattle.std.proofs.lemmas.List.{length-take}
use Rattle.pm_codefile.specs.Dictionary.{file_fault, first_slot_fault, length_in, block_in, slot_fault, slot_in, word_in}
use Rattle.pm_codefile.specs.declared.fault.CodeFault.{CodeFault}
use Rattle.pm_codefile.specs.declared.fault.CodeFault.TheVariants.{NoDictionary, OddLength, SlotPastEnd}
use Rattle.pm_volume.specs.Directory.{IsVolume}
use Rattle.pm_volume.specs.Files.{file_bytes}
use Rattle.pm_undelete.specs.Blocks.{are_free, blocks_of}
use Rattle.pm_undelete.specs.Codes.{are_likely, code_size, end_of_slot, last_end}
use Rattle.pm_undelete.specs.Found.{candidates_of, chosen}
use Rattle.pm_undelete.specs.Texts.{is_page, is_zero_block, pages, size_of_pages, text_size}
use Rattle.pm_undelete.specs.declared.finding.Candidate.{Candidate}
use Rattle.pm_undelete.specs.declared.finding.Looks.TheVariants as looks
use Rattle.pm_undelete.proofs.Areas.{sound}
use Rattle.pm_undelete.proofs.FreeAreas.{in_areas}
use Rattle.pm_undelete.proofs.FreeBlocks.{both, each, le-is}

-- ---- texts

pages-bound : (image : List ℕ) (n left : ℕ) → 2 ≤ left → 2 + 2 * pages image n left ≤ left
unfolding pages
pages-bound image n zero l = absurd (omega arith)
pages-bound image n (suc zero) l = absurd (omega arith)
pages-bound image n (suc (suc left)) l =
    by (nat_le 2 left && is_page image n) (is_zero_block image (n + 3)) (λ some. pages-bound image (n + 2) left some) refl
  where
    by : (room zeros : Bool) → (2 ≤ left → 2 + 2 * pages image (n + 2) left ≤ left)
        → (nat_le 2 left && is_page image n) ≡ room
        → 2 + 2 * cond room (cond zeros 1 (1 + pages image (n + 2) left)) 0 ≤ suc (suc left)
    by false zeros more e = omega arith
    by true true more e =
        let some : 2 ≤ left = le-is 2 left (both (nat_le 2 left) (is_page image n) e).0 in
        omega (arith, some)
    by true false more e =
        let some : 2 ≤ left = le-is 2 left (both (nat_le 2 left) (is_page image n) e).0 in
        let rest = more some in
        omega (arith, rest)

size-bound : (p left : ℕ) → 2 + 2 * p ≤ left → size_of_pages p ≤ left
size-bound zero left l = omega arith
size-bound (suc more) left l = l

text-bound : (image : List ℕ) (n left : ℕ) → text_size image n left ≤ left
text-bound image n left = by (nat_le 4 left && is_zero_block image (n + 1)) refl
  where
    by : (some : Bool) → (nat_le 4 left && is_zero_block image (n + 1)) ≡ some
        → cond some (size_of_pages (pages image n left)) 0 ≤ left
    by false e = omega arith
    by true e =
        let room : 4 ≤ left = le-is 4 left (both (nat_le 4 left) (is_zero_block image (n + 1)) e).0 in
        size-bound (pages image n left) left (pages-bound image n left (omega (arith, room)))

-- ---- codes

length-bound : (image : List ℕ) (n left : ℕ) → length (blocks_of image n (n + left)) ≤ 512 * left
unfolding file_bytes
length-bound image n left =
    by (nat_le (n + left) n) (nat_le (512 * ((n + left) - 1) + 512) (length image)) refl
  where
    by : (none within : Bool) → nat_le (n + left) n ≡ none
        → length (unwrap_or (cond none (Some []) (cond within (Some (slice_range image (512 * n) (512 * ((n + left) - 1) + 512))) None)) [])
        ≤ 512 * left
    by true within e = omega arith
    by false false e = omega arith
    by false true e =
        let some : n < n + left = grind (arith, nat_tests, e) in
        let size = length-take ((512 * ((n + left) - 1) + 512) - 512 * n) (drop (512 * n) image) in
        omega (arith, size, some)

-- A segment that is within the bytes ends within their blocks.
segment-bound : (block count size most : ℕ) → size ≤ 512 * most → (count ≡ 0) ⊎ (512 * block + count ≤ size)
    → cond (count == 0) 0 (block + (count + 511) / 512) ≤ most
segment-bound block count size most room (inl none) = rw none (omega arith)
segment-bound block count size most room (inr within) = by (count == 0)
  where
    by : (empty : Bool) → cond empty 0 (block + (count + 511) / 512) ≤ most
    by true = omega arith
    by false = omega (arith, within, room)

slot-bound : (file : List ℕ) (n most : ℕ) → length file ≤ 512 * most → slot_fault file n ≡ None
    → end_of_slot (slot_in file n) ≤ most
unfolding slot_fault slot_in
slot-bound file n most size none =
    by (nat_lt 15 n) (length_in file n % 2 == 0) (nat_lt 0 (length_in file n))
    (nat_lt (length file) (512 * block_in file n + length_in file n)) refl refl none
  where
    by : (no-slot even some past : Bool) → nat_lt 0 (length_in file n) ≡ some
        → nat_lt (length file) (512 * block_in file n + length_in file n) ≡ past
        → cond (not even) (Some (OddLength n)) (cond (some && past) (Some (SlotPastEnd n)) None) ≡ None
        → end_of_slot (cond no-slot None (Some (record {
          block = block_in file n;
          length = length_in file n;
          kind = word_in file (192 + 2 * n);
          name = slice_range file (64 + 8 * n) (64 + 8 * n + 8);
        }))) ≤ most
    by true even some past s p h = omega arith
    by false false some past s p h = absurd (cc)
    by false true true true s p h = absurd (cc)
    by false true true false s p h =
        let within : 512 * block_in file n + length_in file n ≤ length file = grind (arith, nat_tests, p) in
        segment-bound (block_in file n) (length_in file n) (length file) most size (inr within)
    by false true false past s p h =
        let empty : length_in file n ≡ 0 = grind (arith, nat_tests, s) in
        segment-bound (block_in file n) (length_in file n) (length file) most size (inl empty)

last-bound : (file : List ℕ) (n left most : ℕ) → length file ≤ 512 * most → first_slot_fault file n left ≡ None
    → last_end file n left ≤ most
unfolding first_slot_fault last_end
last-bound file n zero most size none = omega arith
last-bound file n (suc left) most size none =
    by (slot_fault file n) (λ later. last-bound file (n + 1) left most size later) refl none
  where
    by : (fault : Option CodeFault) → (first_slot_fault file (n + 1) left ≡ None → last_end file (n + 1) left ≤ most)
        → slot_fault file n ≡ fault
        → option_or fault (first_slot_fault file (n + 1) left) ≡ None
        → max (end_of_slot (slot_in file n)) (last_end file (n + 1) left) ≤ most
    by (Some fault) more e h = absurd (cc)
    by None more e h =
        let first = slot-bound file n most size e in
        let rest = more h in
        omega (arith, first, rest)

none-from : (fault : Option CodeFault) → is_none fault ≡ true → fault ≡ None
none-from None e = refl
none-from (Some fault) e = absurd (cc)

slots-from : (file : List ℕ) → file_fault file ≡ None → first_slot_fault file 0 16 ≡ None
unfolding file_fault
slots-from file e = by (nat_lt (length file) 512) e
  where
    by : (short : Bool) → cond short (Some NoDictionary) (first_slot_fault file 0 16) ≡ None
        → first_slot_fault file 0 16 ≡ None
    by true h = absurd (cc)
    by false h = h

code-bound : (file : List ℕ) (most : ℕ) → length file ≤ 512 * most → code_size file ≤ most
code-bound file most size = by (is_none (file_fault file) && are_likely file 0 16) refl
  where
    by : (is : Bool) → (is_none (file_fault file) && are_likely file 0 16) ≡ is
        → cond is (last_end file 0 16) 0 ≤ most
    by false e = omega arith
    by true e =
        let sound = slots-from file (none-from (file_fault file) (both (is_none (file_fault file)) (are_likely file 0 16) e).0) in
        last-bound file 0 16 most size sound

-- ---- candidates

chosen-blocks : (n code text left : ℕ) (c : Candidate) → code ≤ left → text ≤ left → chosen n code text ≡ Some c
    → (1 ≤ c.blocks) × (c.blocks ≤ left)
chosen-blocks n code text left c small short e = by (code == 0) (text == 0) refl refl e
  where
    by : (no-code no-text : Bool) → (code == 0) ≡ no-code → (text == 0) ≡ no-text
        → cond no-code (cond no-text None (Some (record { first = n; blocks = text; looks = looks.Text })))
        (Some (record { first = n; blocks = code; looks = looks.Code })) ≡ Some c → (1 ≤ c.blocks) × (c.blocks ≤ left)
    by true true x y h = absurd (cc)
    by true false x y h =
        let same : text ≡ c.blocks = cc in
        let some : 1 ≤ text = grind (arith, nat_tests, y) in
        (omega (arith, same, some), omega (arith, same, short))
    by false no-text x y h =
        let same : code ≡ c.blocks = cc in
        let some : 1 ≤ code = grind (arith, nat_tests, x) in
        (omega (arith, same, some), omega (arith, same, small))

pub free : (image : List ℕ) → IsVolume image → (c : Candidate) → Contains (candidates_of image) c
    → are_free image c.first (c.first + c.blocks) ≡ true
free image volume c there =
    let found = sound image c there in
    let area = found.0 in
    let is = found.1 in
    let left = area.1 - c.first in
    let size = chosen-blocks c.first (code_size (blocks_of image c.first (c.first + left))) (text_size image c.first left) left c
    (code-bound (blocks_of image c.first (c.first + left)) left (length-bound image c.first left))
    (text-bound image c.first left) is.looks in
    (each image c.first (c.first + c.blocks)).1 (
      omega (arith, size.0),
      λ n after before. (in_areas image volume n).1
          (area, is.area, omega (arith, is.after, after), omega (arith, before, size.1, is.before)),
    )

-- ---- bytes

pub bytes : (image : List ℕ) → IsVolume image → (first end : ℕ) → are_free image first end ≡ true
    → blocks_of image first end ≡ slice_range image (512 * first) (512 * end)
unfolding file_bytes
bytes image volume first end free =
    let p = (each image first end).0 free in
    let some : first < end = p.0 in
    let last = (p.1 (end - 1) (omega (arith, some)) (omega (arith, some))).within in
    let room = volume.has_directory.within in
    let inside : 512 * (end - 1) + 512 ≤ length image = omega (arith, some, last, room) in
    by (nat_le end first) (nat_le (512 * (end - 1) + 512) (length image)) refl refl some inside
  where
    by : (none within : Bool) → nat_le end first ≡ none → nat_le (512 * (end - 1) + 512) (length image) ≡ within
        → first < end → 512 * (end - 1) + 512 ≤ length image
        → unwrap_or (cond none (Some []) (cond within (Some (slice_range image (512 * first) (512 * (end - 1) + 512))) None)) []
        ≡ slice_range image (512 * first) (512 * end)
    by true within a b some inside = let l : end ≤ first = le-is end first a in absurd (omega (arith, l, some))
    by false false a b some inside = absurd (grind (arith, nat_tests, b, inside))
    by false true a b some inside =
        let place : 512 * (end - 1) + 512 ≡ 512 * end = omega (arith, some) in
        ap (λ (k : ℕ). slice_range image (512 * first) k) place
