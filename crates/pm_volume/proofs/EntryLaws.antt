-- If an entry is written to a slot, then reading the slot returns the entry.
use Rattle.byteorder.specs.Endian.{little_bytes}
use Rattle.std.proofs.Math.Nat.{mod-eq_of_lt}
use Rattle.std.proofs.Common.{◌≡◌, ◌≤◌, ℕ, ◌+◌, ◌-◌, ◌%◌, List, ◌∙◌, ap, refl, length, get_or, slice_range, arith}
use Rattle.std.proofs.lemmas.List.{take_all}
use Rattle.pm_volume.specs.Changes.{FitsSlot, no_slot, entry_slot}
use Rattle.pm_volume.specs.Words.{with_word_in, word_in, written}
use Rattle.pm_volume.specs.Entries.{entry_of}
use Rattle.pm_volume.specs.declared.entry.Entry.{Entry}
use Rattle.pm_volume.proofs.WrittenLaws.{get_written_below, get_written_in, length-written, same_parts, word_in-below, word_in-written}

pub length-no_slot : length no_slot ≡ 26
unfolding no_slot
length-no_slot = refl

module _ (e : Entry) (f : FitsSlot e) where
  s1 : List ℕ
  s1 = with_word_in no_slot 0 e.first

  s2 : List ℕ
  s2 = with_word_in s1 2 e.end

  s3 : List ℕ
  s3 = with_word_in s2 4 e.kind

  s4 : List ℕ
  s4 = written s3 6 e.name

  s5 : List ℕ
  s5 = with_word_in s4 22 e.last_bytes

  s6 : List ℕ
  s6 = with_word_in s5 24 e.date

  l1 : length s1 ≡ 26
  unfolding s1
  l1 = length-written no_slot 0 (little_bytes 2 e.first) (omega (arith, length-no_slot)) ∙ length-no_slot

  l2 : length s2 ≡ 26
  unfolding s2
  l2 = length-written s1 2 (little_bytes 2 e.end) (omega (arith, l1)) ∙ l1

  l3 : length s3 ≡ 26
  unfolding s3
  l3 = length-written s2 4 (little_bytes 2 e.kind) (omega (arith, l2)) ∙ l2

  l4 : length s4 ≡ 26
  unfolding s4
  l4 = length-written s3 6 e.name (omega (arith, l3, f.name)) ∙ l3

  l5 : length s5 ≡ 26
  unfolding s5
  l5 = length-written s4 22 (little_bytes 2 e.last_bytes) (omega (arith, l4)) ∙ l4

  l6 : length s6 ≡ 26
  unfolding s6
  l6 = length-written s5 24 (little_bytes 2 e.date) (omega (arith, l5)) ∙ l5

  -- Writing the name, the number of bytes of the last block and the date does not change a word before the name.
  stay : (place : ℕ) → place + 2 ≤ 6 → word_in s6 place ≡ word_in s3 place
  unfolding s4 s5 s6
  stay place below =
      word_in-below s5 24 (little_bytes 2 e.date) place (omega (arith, l5)) (omega arith)
      ∙ word_in-below s4 22 (little_bytes 2 e.last_bytes) place (omega (arith, l4)) (omega arith)
      ∙ word_in-below s3 6 e.name place (omega (arith, l3, f.name)) below

  first_read : word_in s6 0 ≡ e.first
  unfolding s1 s2 s3
  first_read =
      stay 0 (omega arith) ∙ word_in-below s2 4 (little_bytes 2 e.kind) 0 (omega (arith, l2)) (omega arith)
      ∙ word_in-below s1 2 (little_bytes 2 e.end) 0 (omega (arith, l1)) (omega arith)
      ∙ word_in-written no_slot 0 e.first (omega (arith, length-no_slot)) f.first

  end_read : word_in s6 2 ≡ e.end
  unfolding s2 s3
  end_read =
      stay 2 (omega arith) ∙ word_in-below s2 4 (little_bytes 2 e.kind) 2 (omega (arith, l2)) (omega arith)
      ∙ word_in-written s1 2 e.end (omega (arith, l1)) f.end

  kind_read : word_in s6 4 % 16 ≡ e.kind
  unfolding s3
  kind_read =
      ap (λ (w : ℕ). w % 16) (stay 4 (omega arith) ∙ word_in-written s2 4 e.kind (omega (arith, l2)) (omega (arith, f.kind)))
      ∙ mod-eq_of_lt f.kind

  last_bytes_read : word_in s6 22 ≡ e.last_bytes
  unfolding s5 s6
  last_bytes_read =
      word_in-below s5 24 (little_bytes 2 e.date) 22 (omega (arith, l5)) (omega arith)
      ∙ word_in-written s4 22 e.last_bytes (omega (arith, l4)) f.last_bytes

  date_read : word_in s6 24 ≡ e.date
  unfolding s6
  date_read = word_in-written s5 24 e.date (omega (arith, l5)) f.date

  name_read : slice_range s6 6 22 ≡ e.name
  unfolding s4 s5 s6
  name_read =
      same_parts s6 e.name 6 0 16 (omega (arith, l6)) (omega (arith, f.name)) (λ k below.
      let at : (6 + k) - 6 ≡ 0 + k = omega arith in
      get_written_below s5 24 (little_bytes 2 e.date) (6 + k) (omega (arith, l5)) (omega arith)
      ∙ get_written_below s4 22 (little_bytes 2 e.last_bytes) (6 + k) (omega (arith, l4)) (omega arith)
      ∙ get_written_in s3 6 e.name (6 + k) (omega (arith, l3, f.name)) (omega arith) (omega (arith, f.name))
      ∙ ap (λ (i : ℕ). get_or e.name i 0) at)
      ∙ take_all 16 e.name (omega (arith, f.name))

  pub length-slot_of : length (entry_slot e) ≡ 26
  unfolding entry_slot s1 s2 s3 s4 s5 s6
  length-slot_of = l6

  pub entry_of-slot_of : entry_of (entry_slot e) ≡ e
  unfolding entry_slot entry_of s1 s2 s3 s4 s5 s6
  entry_of-slot_of = rw (name_read, kind_read, first_read, end_read, last_bytes_read, date_read) refl
