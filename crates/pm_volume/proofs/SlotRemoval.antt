-- The entries of a directory from which one slot is removed.
use Rattle.byteorder.specs.Endian.{little_bytes}
use Rattle.std.proofs.Common.{◌≡◌, ◌<◌, ◌≤◌, ◌⊎◌, ℕ, zero, suc, ◌+◌, ◌-◌, ◌*◌, ◌/◌, List, [], ◌∷◌, ◌++◌, ◌∙◌, ap, sym, refl, length, drop, get_or, arith}
use Rattle.std.proofs.Common.{length-append, length-take, length-drop}
use Rattle.std.proofs.lemmas.List.{get_or-drop, get_or-take, get_or_append_left}
use Rattle.std.specs.List.{remove}
use Rattle.pm_volume.specs.Changes.{no_slot, slots, without_file, without_slot}
use Rattle.pm_volume.specs.Words.{word_in, written}
use Rattle.pm_volume.specs.Directory.{IsDirectory, IsVolume, block_count, directory_of, entries_from, entry_in, file_count, files_begin, files_in}
use Rattle.pm_volume.specs.Entries.{AreInOrder, entry_of}
use Rattle.pm_volume.specs.Files.{files_of}
use Rattle.pm_volume.specs.declared.entry.Entry.{Entry}
use Rattle.pm_volume.proofs.EntryLaws.{length-no_slot}
use Rattle.pm_volume.proofs.ImageLaws.{IsVolume-with, directory-with}
use Rattle.pm_volume.proofs.OrderLaws.{IsSound-later}
use Rattle.pm_volume.proofs.SlotChanges.{entries_from-add, entries_from-same, first_entry, length-entries_from}
use Rattle.pm_volume.proofs.WrittenLaws.{get_written_above, get_written_below, get_written_in, get_written_outside, length-directory, length-written}
use Rattle.pm_volume.proofs.WrittenLaws.{same_parts, word_in-written}

pub earlier : (blocks from later : ℕ) (es : List Entry) → from ≤ later → AreInOrder blocks later es → AreInOrder blocks from es
unfolding AreInOrder
earlier blocks from later [] h order = tt
earlier blocks from later (x ∷ xs) h order = (IsSound-later later from x (omega (arith, order.0.after)) order.0, order.1, order.2)

-- If files are in order, then they are in order after one of them is removed.
order-remove : (blocks from k : ℕ) (es : List Entry) → AreInOrder blocks from es → AreInOrder blocks from (remove es k)
unfolding AreInOrder
order-remove blocks from zero [] order = tt
order-remove blocks from (suc k) [] order = tt
order-remove blocks from zero (x ∷ xs) order = earlier blocks from x.end xs (omega (arith, order.0.after, order.0.ordered)) order.2
order-remove blocks from (suc k) (x ∷ xs) order = (order.0, order.1, order-remove blocks x.end k xs order.2)

removed_at : (xs : List Entry) (x : Entry) (ys : List Entry) (a : ℕ) → length xs ≡ a → remove (xs ++ x ∷ ys) a ≡ xs ++ ys
removed_at [] x ys zero e = refl
removed_at [] x ys (suc a) e = absurd (omega arith)
removed_at (y ∷ xs) x ys zero e = absurd (omega arith)
removed_at (y ∷ xs) x ys (suc a) e = ap (λ (es : List Entry). y ∷ es) (removed_at xs x ys a (omega arith))

module _ (d : List ℕ) (n : ℕ) (whole : length d ≡ 2048) (few : file_count d ≤ 77) (from : 1 ≤ n) (to : n ≤ file_count d) where
  moved : List ℕ
  moved = slots d (n + 1) (file_count d + 1) ++ no_slot

  length-moved : length moved ≡ 26 * (file_count d + 1) - 26 * n
  unfolding moved
  length-moved =
      omega (
        arith,
        whole,
        few,
        to,
        length-no_slot,
        length-append (slots d (n + 1) (file_count d + 1)) no_slot,
        length-take (26 * (file_count d + 1) - 26 * (n + 1)) (drop (26 * (n + 1)) d),
        length-drop (26 * (n + 1)) d,
      )

  room : 26 * n + length moved ≤ length d
  room = omega (arith, length-moved, whole, few, to)

  length-area : length (written d (26 * n) moved) ≡ 2048
  length-area = length-written d (26 * n) moved room ∙ whole

  pub length-without_slot : length (without_slot d n) ≡ 2048
  unfolding without_slot moved
  length-without_slot =
      length-written (written d (26 * n) moved) 16 (little_bytes 2 (file_count d - 1)) (omega (arith, length-area)) ∙ length-area

  -- A byte outside the number of files and outside the slots that move is unchanged.
  pub without_slot_outside : (k : ℕ) → (k < 16) ⊎ (18 ≤ k) → (k < 26 * n) ⊎ (26 * (file_count d + 1) ≤ k) → get_or (without_slot d n) k 0 ≡ get_or d k 0
  unfolding without_slot moved
  without_slot_outside k count slots =
      let end : 26 * n + length moved ≡ 26 * (file_count d + 1) = omega (arith, length-moved, to) in
      get_written_outside (written d (26 * n) moved) 16 (little_bytes 2 (file_count d - 1)) k (omega (arith, length-area)) count
      ∙ get_written_outside d (26 * n) moved k room (rw end slots)

  below_byte : (k : ℕ) → 18 ≤ k → k < 26 * n → get_or (without_slot d n) k 0 ≡ get_or d k 0
  unfolding without_slot moved
  below_byte k after below =
      get_written_above (written d (26 * n) moved) 16 (little_bytes 2 (file_count d - 1)) k (omega (arith, length-area)) after
      ∙ get_written_below d (26 * n) moved k room below

  moved_byte : (k : ℕ) → 26 * n ≤ k → k < 26 * file_count d → get_or (without_slot d n) k 0 ≡ get_or d (26 + k) 0
  unfolding without_slot moved
  moved_byte k above below =
      let part = slots d (n + 1) (file_count d + 1) in
      let size : length part ≡ 26 * (file_count d + 1) - 26 * (n + 1) =
      omega (arith, whole, few, to, length-take (26 * (file_count d + 1) - 26 * (n + 1)) (drop (26 * (n + 1)) d), length-drop (26 * (n + 1)) d) in
      let at : 26 * (n + 1) + (k - 26 * n) ≡ 26 + k = omega arith in
      get_written_above (written d (26 * n) moved) 16 (little_bytes 2 (file_count d - 1)) k (omega (arith, length-area)) (omega (arith, from))
      ∙ get_written_in d (26 * n) moved k room above (omega (arith, length-moved))
      ∙ get_or_append_left part no_slot 0 (k - 26 * n) (omega arith)
      ∙ get_or-take (26 * (file_count d + 1) - 26 * (n + 1)) (drop (26 * (n + 1)) d) (k - 26 * n) 0 (omega arith)
      ∙ get_or-drop (26 * (n + 1)) d (k - 26 * n) 0
      ∙ ap (λ (i : ℕ). get_or d i 0) at

  header_byte : (k : ℕ) → k < 16 → get_or (without_slot d n) k 0 ≡ get_or d k 0
  unfolding without_slot moved
  header_byte k below =
      get_written_below (written d (26 * n) moved) 16 (little_bytes 2 (file_count d - 1)) k (omega (arith, length-area)) below
      ∙ get_written_below d (26 * n) moved k room (omega arith)

  header_word : (place : ℕ) → place + 2 ≤ 16 → word_in (without_slot d n) place ≡ word_in d place
  unfolding word_in
  header_word place below = rw (header_byte place (omega arith), header_byte (place + 1) (omega arith))

  count-without_slot : file_count (without_slot d n) ≡ file_count d - 1
  unfolding without_slot moved
  count-without_slot =
      word_in-written (written d (26 * n) moved) 16 (file_count d - 1) (omega (arith, length-area)) (omega (arith, few))

  entry_in-below : (m : ℕ) → 1 ≤ m → m < n → entry_in (without_slot d n) m ≡ entry_in d m
  entry_in-below m low below =
      let long = length-without_slot in
      let size : 26 * m + 26 - 26 * m ≡ 26 = omega arith in
      ap entry_of (rw size (same_parts (without_slot d n) d (26 * m) (26 * m) 26 (omega arith) (omega arith)
      (λ k small. below_byte (26 * m + k) (omega arith) (omega arith))))

  entry_in-above : (m : ℕ) → n ≤ m → m < file_count d → entry_in (without_slot d n) m ≡ entry_in d (m + 1)
  entry_in-above m above low =
      let long = length-without_slot in
      let size : 26 * m + 26 - 26 * m ≡ 26 = omega arith in
      let size' : 26 * (m + 1) + 26 - 26 * (m + 1) ≡ 26 = omega arith in
      ap entry_of (rw (size, size') (same_parts (without_slot d n) d (26 * m) (26 * (m + 1)) 26 (omega arith) (omega arith)
      (λ k small. let place : 26 * (m + 1) + k ≡ 26 + (26 * m + k) = omega arith in
      rw place (moved_byte (26 * m + k) (omega arith) (omega arith)))))

  -- The new list of files is the old list without the file in slot `n`.
  pub files-without_slot : files_in (without_slot d n) ≡ remove (files_in d) (n - 1)
  files-without_slot =
      let count = file_count d in
      let a = n - 1 in
      let b = count - n in
      let new = without_slot d n in
      let split : count - 1 ≡ a + b = omega arith in
      let split' : count ≡ a + (1 + b) = omega arith in
      let mid : 1 + a ≡ n = omega arith in
      let front : entries_from new 1 a ≡ entries_from d 1 a =
      entries_from-same new d a 1 1 (λ k below. entry_in-below (1 + k) (omega arith) (omega arith)) in
      let back : entries_from new n b ≡ entries_from d (n + 1) b =
      entries_from-same new d b n (n + 1) (λ k below.
      let place : (n + 1) + k ≡ (n + k) + 1 = omega arith in
      rw place (entry_in-above (n + k) (omega arith) (omega arith))) in
      let old : entries_from d 1 count ≡ entries_from d 1 a ++ entry_in d n ∷ entries_from d (n + 1) b =
      ap (entries_from d 1) split' ∙ entries_from-add d a (1 + b) 1
      ∙ ap (λ (i : ℕ). entries_from d 1 a ++ entries_from d i (1 + b)) mid
      ∙ ap (λ (es : List Entry). entries_from d 1 a ++ es) (first_entry d n b) in
      let long = length-entries_from d a 1 in
      ap (entries_from new 1) (count-without_slot ∙ split) ∙ entries_from-add new a b 1
      ∙ ap (λ (i : ℕ). entries_from new 1 a ++ entries_from new i b) mid
      ∙ rw (front, back, old) (sym (removed_at (entries_from d 1 a) (entry_in d n) (entries_from d (n + 1) b) a long))

  pub IsDirectory-without_slot : (blocks : ℕ) → IsDirectory d blocks → IsDirectory (without_slot d n) blocks
  IsDirectory-without_slot blocks old =
      let name = header_byte 6 (omega arith) in
      let begins = header_word 2 (omega arith) in
      let total = header_word 14 (omega arith) in
      record {
        named = omega (arith, name, old.named);
        short = omega (arith, name, old.short);
        begins = rw begins old.begins;
        holds_directory = omega (arith, total, begins, old.holds_directory);
        within = omega (arith, total, old.within);
        few = omega (arith, count-without_slot, few);
        in_order = rw (total, begins, files-without_slot) (order-remove (block_count d) (files_begin d) (n - 1) (files_in d) old.in_order);
      }

module _ (image : List ℕ) (n : ℕ) (v : IsVolume image) (from : 1 ≤ n) (to : n ≤ file_count (directory_of image)) where
  pub IsVolume-removed : IsVolume (without_file image n)
  IsVolume-removed =
      let d = directory_of image in
      let whole = length-directory image v.long in
      let few = v.has_directory.few in
      IsVolume-with image (without_slot d n) v (length-without_slot d n whole few from to)
      (IsDirectory-without_slot d n whole few from to (length image / 512) v.has_directory)

  pub files-removed : files_of (without_file image n) ≡ remove (files_of image) (n - 1)
  files-removed =
      let d = directory_of image in
      let whole = length-directory image v.long in
      let few = v.has_directory.few in
      ap files_in (directory-with image (without_slot d n) v.long (length-without_slot d n whole few from to))
      ∙ files-without_slot d n whole few from to
