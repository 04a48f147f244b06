-- Laws of a directory in which the name of a file is changed.
use Rattle.std.proofs.Common.{◌≡◌, ◌<◌, ◌≤◌, ℕ, ◌+◌, ◌-◌, ◌*◌, ◌/◌, List, [], ◌∷◌, ◌++◌, ◌∙◌, ap, sym, refl, length, drop, get_or, slice_range, slice_set}
use Rattle.std.proofs.Common.{arith, length-take, length-drop}
use Rattle.std.proofs.Math.Seq.{set-append_seam}
use Rattle.std.proofs.lemmas.List.{get_or-drop, get_or-take, take_all}
use Rattle.pm_volume.specs.Changes.{with_name}
use Rattle.pm_volume.specs.Directory.{IsDirectory, IsVolume, block_count, directory_of, entries_from, entry_in, file_count, files_begin, files_in}
use Rattle.pm_volume.specs.Entries.{AreInOrder, IsSoundEntry, entry_of}
use Rattle.pm_volume.specs.Files.{files_of}
use Rattle.pm_volume.specs.Names.{name_field}
use Rattle.pm_volume.specs.Words.{word_in, written}
use Rattle.pm_volume.specs.declared.entry.Entry.{Entry}
use Rattle.pm_volume.proofs.HeaderLaws.{entry_in-before, entry_in-behind}
use Rattle.pm_volume.proofs.ImageLaws.{IsVolume-with, directory-with}
use Rattle.pm_volume.proofs.NameLaws.{length-name_field}
use Rattle.pm_volume.proofs.SlotChanges.{entries_from-add, entries_from-same, first_entry, length-entries_from}
use Rattle.pm_volume.proofs.WrittenLaws.{get_written_below, get_written_in, length-directory, length-written, same_parts, word_in-above, word_in-below}

-- Byte `k` of slot `n` is byte `26 * n + k` of the directory. The next law states the same for a word.
pub slot_byte : (d : List ℕ) (n k : ℕ) → k < 26 → get_or (slice_range d (26 * n) (26 * n + 26)) k 0 ≡ get_or d (26 * n + k) 0
slot_byte d n k below =
    let size : 26 * n + 26 - 26 * n ≡ 26 = omega arith in
    rw size (get_or-take 26 (drop (26 * n) d) k 0 below ∙ get_or-drop (26 * n) d k 0)

pub slot_word : (d : List ℕ) (n place : ℕ) → place + 2 ≤ 26 → word_in (slice_range d (26 * n) (26 * n + 26)) place ≡ word_in d (26 * n + place)
unfolding word_in
slot_word d n place below =
    let at : 26 * n + (place + 1) ≡ (26 * n + place) + 1 = omega arith in
    rw (slot_byte d n place (omega arith), slot_byte d n (place + 1) (omega arith), at) refl

-- If files are in order, and one entry is replaced by an entry with the same end that is valid wherever the old entry
-- is, then the files are in order.
pub order-named : (blocks from : ℕ) (xs : List Entry) (e e' : Entry) (ys : List Entry) → ((f : ℕ) → IsSoundEntry f e → IsSoundEntry f e')
    → e'.end ≡ e.end → AreInOrder blocks from (xs ++ e ∷ ys) → AreInOrder blocks from (xs ++ e' ∷ ys)
unfolding AreInOrder
order-named blocks from [] e e' ys sound end order = (sound from order.0, omega (arith, end, order.1), rw end order.2)
order-named blocks from (x ∷ xs) e e' ys sound end order = (order.0, order.1, order-named blocks x.end xs e e' ys sound end order.2)

-- The list of files is the files before slot `n`, the file in slot `n`, and the files after it.
pub files-split : (d : List ℕ) (n : ℕ) → 1 ≤ n → n ≤ file_count d
    → files_in d ≡ entries_from d 1 (n - 1) ++ entry_in d n ∷ entries_from d (n + 1) (file_count d - n)
files-split d n from within =
    let count : file_count d ≡ (n - 1) + (1 + (file_count d - n)) = omega arith in
    let mid : 1 + (n - 1) ≡ n = omega arith in
    ap (entries_from d 1) count ∙ entries_from-add d (n - 1) (1 + (file_count d - n)) 1
    ∙ ap (λ (i : ℕ). entries_from d 1 (n - 1) ++ entries_from d i (1 + (file_count d - n))) mid
    ∙ ap (λ (es : List Entry). entries_from d 1 (n - 1) ++ es) (first_entry d n (file_count d - n))

module _ (d name : List ℕ) (n : ℕ) (whole : length d ≡ 2048) (short : length name ≤ 15) (from : 1 ≤ n) (to : n ≤ 77) where
  field : List ℕ
  field = name_field 15 name

  length-field : length field ≡ 16
  unfolding field
  length-field = length-name_field 15 name short

  named : List ℕ
  named = written d (26 * n + 6) field

  room : 26 * n + 6 + length field ≤ length d
  room = omega (arith, length-field, whole, to)

  length-own : length named ≡ 2048
  unfolding named
  length-own = length-written d (26 * n + 6) field room ∙ whole

  pub length-named : length (written d (26 * n + 6) (name_field 15 name)) ≡ 2048
  unfolding named field
  length-named = length-own

  word_before : (p : ℕ) → p + 2 ≤ 6 → word_in (slice_range named (26 * n) (26 * n + 26)) p ≡ word_in (slice_range d (26 * n) (26 * n + 26)) p
  unfolding named
  word_before p below =
      slot_word named n p (omega arith) ∙ word_in-below d (26 * n + 6) field (26 * n + p) room (omega arith)
      ∙ sym (slot_word d n p (omega arith))

  word_behind : (p : ℕ) → 22 ≤ p → p + 2 ≤ 26 → word_in (slice_range named (26 * n) (26 * n + 26)) p ≡ word_in (slice_range d (26 * n) (26 * n + 26)) p
  unfolding named
  word_behind p above below =
      slot_word named n p below ∙ word_in-above d (26 * n + 6) field (26 * n + p) room (omega (arith, length-field))
      ∙ sym (slot_word d n p below)

  name_read : slice_range (slice_range named (26 * n) (26 * n + 26)) 6 22 ≡ field
  unfolding named
  name_read =
      let slot = slice_range named (26 * n) (26 * n + 26) in
      let size : 26 * n + 26 - 26 * n ≡ 26 = omega arith in
      let long : length slot ≡ 26 = rw size (omega (arith, length-own, to, length-take 26 (drop (26 * n) named), length-drop (26 * n) named)) in
      same_parts slot field 6 0 16 (omega arith) (omega (arith, length-field)) (λ k below.
      let at : (26 * n + (6 + k)) - (26 * n + 6) ≡ 0 + k = omega arith in
      slot_byte named n (6 + k) (omega arith)
      ∙ get_written_in d (26 * n + 6) field (26 * n + (6 + k)) room (omega arith) (omega (arith, length-field))
      ∙ ap (λ (i : ℕ). get_or field i 0) at)
      ∙ take_all 16 field (omega (arith, length-field))

  entry-named : entry_in named n ≡ record (entry_in d n) { name = field }
  unfolding entry_of
  entry-named =
      rw (
        name_read,
        word_before 4 (omega arith),
        word_before 0 (omega arith),
        word_before 2 (omega arith),
        word_behind 22 (omega arith) (omega arith),
        word_behind 24 (omega arith) (omega arith),
      ) refl

  word_stays : (p : ℕ) → p + 2 ≤ 26 → word_in named p ≡ word_in d p
  unfolding named
  word_stays p below = word_in-below d (26 * n + 6) field p room (omega (arith, from))

  module _ (within : n ≤ file_count d) (few : file_count d ≤ 77) where
    split-named : files_in named ≡ entries_from d 1 (n - 1) ++ (record (entry_in d n) { name = field }) ∷ entries_from d (n + 1) (file_count d - n)
    unfolding named
    split-named =
        let count : file_count named ≡ (n - 1) + (1 + (file_count d - n)) = word_stays 16 (omega arith) ∙ omega arith in
        let mid : 1 + (n - 1) ≡ n = omega arith in
        let front : entries_from named 1 (n - 1) ≡ entries_from d 1 (n - 1) =
        entries_from-same named d (n - 1) 1 1 (λ k below. entry_in-before d (26 * n + 6) field room (1 + k) (omega arith)) in
        let back : entries_from named (n + 1) (file_count d - n) ≡ entries_from d (n + 1) (file_count d - n) =
        entries_from-same named d (file_count d - n) (n + 1) (n + 1) (λ k below.
        entry_in-behind d (26 * n + 6) field room ((n + 1) + k) (omega (arith, length-field)) (omega (arith, whole))) in
        ap (entries_from named 1) count ∙ entries_from-add named (n - 1) (1 + (file_count d - n)) 1
        ∙ ap (λ (i : ℕ). entries_from named 1 (n - 1) ++ entries_from named i (1 + (file_count d - n))) mid
        ∙ ap (λ (es : List Entry). entries_from named 1 (n - 1) ++ es) (first_entry named n (file_count d - n))
        ∙ rw (front, back, entry-named) refl

    pub files-named : files_in (written d (26 * n + 6) (name_field 15 name))
        ≡ slice_set (files_in d) (n - 1) (record (entry_in d n) { name = name_field 15 name })
    unfolding named field
    files-named =
        let front = entries_from d 1 (n - 1) in
        let size : length front ≡ n - 1 = length-entries_from d (n - 1) 1 in
        split-named ∙ sym (ap (λ (es : List Entry). slice_set es (n - 1) (record (entry_in d n) { name = field })) (files-split d n from within)
        ∙ ap (λ (i : ℕ). slice_set (front ++ entry_in d n ∷ entries_from d (n + 1) (file_count d - n)) i (record (entry_in d n) { name = field })) (sym size)
        ∙ set-append_seam front (entry_in d n) (entries_from d (n + 1) (file_count d - n)) (record (entry_in d n) { name = field }))

    pub IsDirectory-named : (blocks : ℕ) → 1 ≤ length name → IsDirectory d blocks → IsDirectory (written d (26 * n + 6) (name_field 15 name)) blocks
    unfolding named field name_field
    IsDirectory-named blocks some old =
        let title = get_written_below d (26 * n + 6) field 6 room (omega arith) in
        let begins = word_stays 2 (omega arith) in
        let total = word_stays 14 (omega arith) in
        let count = word_stays 16 (omega arith) in
        let order = rw (files-split d n from within) at old.in_order in
        record {
          named = omega (arith, title, old.named);
          short = omega (arith, title, old.short);
          begins = rw begins old.begins;
          holds_directory = omega (arith, total, begins, old.holds_directory);
          within = omega (arith, total, old.within);
          few = omega (arith, count, old.few);
          in_order =
              rw (total, begins, split-named)
              (order-named (block_count d) (files_begin d) (entries_from d 1 (n - 1)) (entry_in d n) (record (entry_in d n) { name = field })
              (entries_from d (n + 1) (file_count d - n)) (λ f s. record {
                named = some;
                short = short;
                after = s.after;
                ordered = s.ordered;
                some_bytes = s.some_bytes;
                one_block = s.one_block;
              }) refl order);
        }

module _ (image name : List ℕ) (n : ℕ) (v : IsVolume image) (some : 1 ≤ length name) (short : length name ≤ 15) (from : 1 ≤ n)
    (to : n ≤ file_count (directory_of image)) where
  few : n ≤ 77
  few = omega (arith, to, v.has_directory.few)

  pub IsVolume-named : IsVolume (with_name image n name)
  IsVolume-named =
      let d = directory_of image in
      let whole = length-directory image v.long in
      IsVolume-with image (written d (26 * n + 6) (name_field 15 name)) v (length-named d name n whole short from few)
      (IsDirectory-named d name n whole short from few to v.has_directory.few (length image / 512) some v.has_directory)

  pub files-renamed : files_of (with_name image n name)
      ≡ slice_set (files_of image) (n - 1) (record (entry_in (directory_of image) n) { name = name_field 15 name })
  files-renamed =
      let d = directory_of image in
      let whole = length-directory image v.long in
      ap files_in (directory-with image (written d (26 * n + 6) (name_field 15 name)) v.long (length-named d name n whole short from few))
      ∙ files-named d name n whole short from few to v.has_directory.few
