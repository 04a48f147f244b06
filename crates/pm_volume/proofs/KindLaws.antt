-- Laws of a directory in which the kind of a file is changed.
use Rattle.std.proofs.Common.{◌≡◌, ◌≤◌, ℕ, ◌+◌, ◌-◌, ◌*◌, ◌/◌, ◌%◌, List, [], ◌∷◌, ◌++◌, ◌∙◌, ap, sym, refl, length, drop, get_or}
use Rattle.std.proofs.Common.{slice_range, slice_set}
use Rattle.std.proofs.Common.{arith, length-take, length-drop}
use Rattle.std.proofs.Math.Seq.{set-append_seam}
use Rattle.pm_volume.specs.Changes.{kind_byte, with_kind}
use Rattle.pm_volume.specs.Directory.{IsDirectory, IsVolume, block_count, directory_of, entries_from, entry_in, file_count, files_begin, files_in}
use Rattle.pm_volume.specs.Entries.{entry_of}
use Rattle.pm_volume.specs.Files.{files_of}
use Rattle.pm_volume.specs.Words.{word_in, written}
use Rattle.pm_volume.specs.declared.entry.Entry.{Entry}
use Rattle.pm_volume.proofs.HeaderLaws.{entry_in-before, entry_in-behind}
use Rattle.pm_volume.proofs.ImageLaws.{IsVolume-with, directory-with}
use Rattle.pm_volume.proofs.RenameLaws.{files-split, order-named, slot_byte, slot_word}
use Rattle.pm_volume.proofs.SlotChanges.{entries_from-add, entries_from-same, first_entry, length-entries_from}
use Rattle.pm_volume.proofs.WrittenLaws.{get_written_above, get_written_below, get_written_in, length-directory, length-written, same_parts}
use Rattle.pm_volume.proofs.WrittenLaws.{word_in-above, word_in-below}

module _ (d : List ℕ) (n kind : ℕ) (whole : length d ≡ 2048) (from : 1 ≤ n) (to : n ≤ 77) where
  byte : List ℕ
  byte = kind_byte (get_or d (26 * n + 4) 0) kind ∷ []

  length-byte : length byte ≡ 1
  unfolding byte
  length-byte = refl

  kinded : List ℕ
  kinded = written d (26 * n + 4) byte

  room : 26 * n + 4 + length byte ≤ length d
  room = omega (arith, length-byte, whole, to)

  length-own : length kinded ≡ 2048
  unfolding kinded
  length-own = length-written d (26 * n + 4) byte room ∙ whole

  pub length-kinded : length (written d (26 * n + 4) (kind_byte (get_or d (26 * n + 4) 0) kind ∷ [])) ≡ 2048
  unfolding kinded byte
  length-kinded = length-own

  word_before : (p : ℕ) → p + 2 ≤ 4 → word_in (slice_range kinded (26 * n) (26 * n + 26)) p ≡ word_in (slice_range d (26 * n) (26 * n + 26)) p
  unfolding kinded
  word_before p below =
      slot_word kinded n p (omega arith) ∙ word_in-below d (26 * n + 4) byte (26 * n + p) room (omega arith)
      ∙ sym (slot_word d n p (omega arith))

  word_behind : (p : ℕ) → 22 ≤ p → p + 2 ≤ 26 → word_in (slice_range kinded (26 * n) (26 * n + 26)) p ≡ word_in (slice_range d (26 * n) (26 * n + 26)) p
  unfolding kinded
  word_behind p above below =
      slot_word kinded n p below ∙ word_in-above d (26 * n + 4) byte (26 * n + p) room (omega (arith, length-byte))
      ∙ sym (slot_word d n p below)

  slot_long : (l : List ℕ) → length l ≡ 2048 → length (slice_range l (26 * n) (26 * n + 26)) ≡ 26
  slot_long l long =
      let size : 26 * n + 26 - 26 * n ≡ 26 = omega arith in
      rw size (omega (arith, long, to, length-take 26 (drop (26 * n) l), length-drop (26 * n) l))

  name_stays : slice_range (slice_range kinded (26 * n) (26 * n + 26)) 6 22 ≡ slice_range (slice_range d (26 * n) (26 * n + 26)) 6 22
  unfolding kinded
  name_stays =
      let slot = slice_range kinded (26 * n) (26 * n + 26) in
      let old = slice_range d (26 * n) (26 * n + 26) in
      same_parts slot old 6 6 16 (omega (arith, slot_long kinded length-own)) (omega (arith, slot_long d whole)) (λ k below.
      slot_byte kinded n (6 + k) (omega arith)
      ∙ get_written_above d (26 * n + 4) byte (26 * n + (6 + k)) room (omega (arith, length-byte))
      ∙ sym (slot_byte d n (6 + k) (omega arith)))

  low_bits : (high : ℕ) → (get_or byte 0 0 + 256 * high) % 16 ≡ kind % 16
  unfolding byte
  low_bits high = omega arith

  kind_read : word_in (slice_range kinded (26 * n) (26 * n + 26)) 4 % 16 ≡ kind % 16
  unfolding kinded word_in
  kind_read =
      let here : (26 * n + 4) - (26 * n + 4) ≡ 0 = omega arith in
      let low = get_written_in d (26 * n + 4) byte (26 * n + 4) room (omega arith) (omega (arith, length-byte)) in
      rw (slot_byte kinded n 4 (omega arith), low, here) (low_bits _)

  entry-kinded : entry_in kinded n ≡ record (entry_in d n) { kind = kind % 16 }
  unfolding entry_of
  entry-kinded =
      rw (
        name_stays,
        kind_read,
        word_before 0 (omega arith),
        word_before 2 (omega arith),
        word_behind 22 (omega arith) (omega arith),
        word_behind 24 (omega arith) (omega arith),
      ) refl

  word_stays : (p : ℕ) → p + 2 ≤ 26 → word_in kinded p ≡ word_in d p
  unfolding kinded
  word_stays p below = word_in-below d (26 * n + 4) byte p room (omega (arith, from))

  module _ (within : n ≤ file_count d) (few : file_count d ≤ 77) where
    split-kinded : files_in kinded ≡ entries_from d 1 (n - 1) ++ (record (entry_in d n) { kind = kind % 16 }) ∷ entries_from d (n + 1) (file_count d - n)
    unfolding kinded
    split-kinded =
        let count : file_count kinded ≡ (n - 1) + (1 + (file_count d - n)) = word_stays 16 (omega arith) ∙ omega arith in
        let mid : 1 + (n - 1) ≡ n = omega arith in
        let front : entries_from kinded 1 (n - 1) ≡ entries_from d 1 (n - 1) =
        entries_from-same kinded d (n - 1) 1 1 (λ k below. entry_in-before d (26 * n + 4) byte room (1 + k) (omega arith)) in
        let back : entries_from kinded (n + 1) (file_count d - n) ≡ entries_from d (n + 1) (file_count d - n) =
        entries_from-same kinded d (file_count d - n) (n + 1) (n + 1) (λ k below.
        entry_in-behind d (26 * n + 4) byte room ((n + 1) + k) (omega (arith, length-byte)) (omega (arith, whole))) in
        ap (entries_from kinded 1) count ∙ entries_from-add kinded (n - 1) (1 + (file_count d - n)) 1
        ∙ ap (λ (i : ℕ). entries_from kinded 1 (n - 1) ++ entries_from kinded i (1 + (file_count d - n))) mid
        ∙ ap (λ (es : List Entry). entries_from kinded 1 (n - 1) ++ es) (first_entry kinded n (file_count d - n))
        ∙ rw (front, back, entry-kinded) refl

    pub files-kinded : files_in (written d (26 * n + 4) (kind_byte (get_or d (26 * n + 4) 0) kind ∷ []))
        ≡ slice_set (files_in d) (n - 1) (record (entry_in d n) { kind = kind % 16 })
    unfolding kinded byte
    files-kinded =
        let front = entries_from d 1 (n - 1) in
        let size : length front ≡ n - 1 = length-entries_from d (n - 1) 1 in
        split-kinded ∙ sym (ap (λ (es : List Entry). slice_set es (n - 1) (record (entry_in d n) { kind = kind % 16 })) (files-split d n from within)
        ∙ ap (λ (i : ℕ). slice_set (front ++ entry_in d n ∷ entries_from d (n + 1) (file_count d - n)) i (record (entry_in d n)
        { kind = kind % 16 })) (sym size)
        ∙ set-append_seam front (entry_in d n) (entries_from d (n + 1) (file_count d - n)) (record (entry_in d n) { kind = kind % 16 }))

    pub IsDirectory-kinded : (blocks : ℕ) → IsDirectory d blocks → IsDirectory (written d (26 * n + 4) (kind_byte (get_or d (26 * n + 4) 0) kind ∷ [])) blocks
    unfolding kinded byte
    IsDirectory-kinded blocks old =
        let title = get_written_below d (26 * n + 4) byte 6 room (omega arith) in
        let begins = word_stays 2 (omega arith) in
        let total = word_stays 14 (omega arith) in
        let count = word_stays 16 (omega arith) in
        let order = rw (files-split d n from within) at old.in_order in
        record {
          named = omega (arith, title, old.named);
          short = omega (arith, title, old.short);
          begins = rw begins old.begins;
          holds_directory = omega (arith, total, begins, old.holds_directory);
          within = omega (arith, total, old.within);
          few = omega (arith, count, old.few);
          in_order =
              rw (total, begins, split-kinded)
              (order-named (block_count d) (files_begin d) (entries_from d 1 (n - 1)) (entry_in d n) (record (entry_in d n) { kind = kind % 16 })
              (entries_from d (n + 1) (file_count d - n)) (λ f s. record {
                named = s.named;
                short = s.short;
                after = s.after;
                ordered = s.ordered;
                some_bytes = s.some_bytes;
                one_block = s.one_block;
              }) refl order);
        }

module _ (image : List ℕ) (n kind : ℕ) (v : IsVolume image) (from : 1 ≤ n) (to : n ≤ file_count (directory_of image)) where
  few : n ≤ 77
  few = omega (arith, to, v.has_directory.few)

  changed : List ℕ
  changed =
      let d = directory_of image in
      written d (26 * n + 4) (kind_byte (get_or d (26 * n + 4) 0) kind ∷ [])

  pub IsVolume-kinded : IsVolume (with_kind image n kind)
  unfolding changed
  IsVolume-kinded =
      let d = directory_of image in
      let whole = length-directory image v.long in
      IsVolume-with image changed v (length-kinded d n kind whole from few)
      (IsDirectory-kinded d n kind whole from few to v.has_directory.few (length image / 512) v.has_directory)

  pub files-rekinded : files_of (with_kind image n kind)
      ≡ slice_set (files_of image) (n - 1) (record (entry_in (directory_of image) n) { kind = kind % 16 })
  unfolding changed
  files-rekinded =
      let d = directory_of image in
      let whole = length-directory image v.long in
      ap files_in (directory-with image changed v.long (length-kinded d n kind whole from few))
      ∙ files-kinded d n kind whole from few to v.has_directory.few
