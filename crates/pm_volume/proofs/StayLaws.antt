-- What remains unchanged when a volume is changed.
use Rattle.byteorder.specs.Endian.{little_bytes}
use Rattle.std.proofs.Common.{◌≡◌, ◌<◌, ◌≤◌, ◌⊎◌, ℕ, ◌+◌, ◌-◌, ◌*◌, ◌/◌, List, [], ◌∷◌, ◌∙◌, ap, refl, inl, inr, length, drop, get_or, arith, Some}
use Rattle.std.proofs.lemmas.Bool.{cases_lt, le-leb, lt-leb}
use Rattle.std.proofs.lemmas.List.{get_or-drop, get_or-take}
use Rattle.std.proofs.lemmas.List.Elements.{All-weaker}
use Rattle.std.specs.List.{All}
use Rattle.pm_volume.specs.Changes.{kind_byte, with_directory, with_kind, with_name, without_file, without_slot}
use Rattle.pm_volume.specs.Directory.{IsVolume, block_count, directory_of, file_count, files_begin}
use Rattle.pm_volume.specs.Files.{file_bytes, files_of}
use Rattle.pm_volume.specs.Headers.{last_date_of, new_directory}
use Rattle.pm_volume.specs.Stays.{ChangesOnly, IsOutside, FileStays, FilesStay, Span, count_span, date_span, directory_span, kind_span, name_span, slots_span}
use Rattle.pm_volume.specs.Names.{name_field}
use Rattle.pm_volume.specs.Words.{with_word_in, written}
use Rattle.pm_volume.specs.declared.entry.Entry.{Entry}
use Rattle.pm_volume.proofs.DirectoryLaws.{past_directory}
use Rattle.pm_volume.proofs.HeaderLaws.{dated_first, length-dated, length-new_directory, zeroed_first}
use Rattle.pm_volume.proofs.KindLaws.{length-kinded}
use Rattle.pm_volume.proofs.NameLaws.{length-name_field}
use Rattle.pm_volume.proofs.OrderLaws.{IsWithin, all_within}
use Rattle.pm_volume.proofs.RenameLaws.{length-named}
use Rattle.pm_volume.proofs.SlotRemoval.{length-without_slot, without_slot_outside}
use Rattle.pm_volume.proofs.WrittenLaws.{get_written_above, get_written_below, get_written_in, get_written_outside, length-directory, length-written}
use Rattle.pm_volume.proofs.WrittenLaws.{same_parts, shifted}

-- Byte `k` of the directory is byte `1024 + k` of the image.
pub directory_byte : (image : List ℕ) (k : ℕ) → k < 2048 → get_or (directory_of image) k 0 ≡ get_or image (1024 + k) 0
directory_byte image k below = get_or-take 2048 (drop 1024 image) k 0 below ∙ get_or-drop 1024 image k 0

-- If the directory is replaced, then each byte outside the directory is unchanged.
pub with_directory_outside : (image d : List ℕ) (place : ℕ) → 3072 ≤ length image → length d ≡ 2048 → (place < 1024) ⊎ (3072 ≤ place)
    → get_or (with_directory image d) place 0 ≡ get_or image place 0
with_directory_outside image d place long size (inl below) = get_written_below image 1024 d place (omega arith) below
with_directory_outside image d place long size (inr above) = get_written_above image 1024 d place (omega arith) (omega arith)

-- If the directory is replaced by `d`, then the byte at `place` is unchanged if `d` has the same byte there as the old
-- directory, or if `place` is outside the directory.
pub with_directory_same : (image d : List ℕ) (place : ℕ) → 3072 ≤ length image → length d ≡ 2048
    → (1024 ≤ place → place < 3072 → get_or d (place - 1024) 0 ≡ get_or (directory_of image) (place - 1024) 0)
    → get_or (with_directory image d) place 0 ≡ get_or image place 0
with_directory_same image d place long size same = elim (cases_lt place 1024) [
  | inl below ↦ with_directory_outside image d place long size (inl below)
  | inr from ↦
      elim (cases_lt place 3072) [
        | inl inside ↦
            let at : 1024 + (place - 1024) ≡ place = omega arith in
            get_written_in image 1024 d place (omega arith) from (omega arith) ∙ same from inside
            ∙ directory_byte image (place - 1024) (omega arith) ∙ ap (λ (i : ℕ). get_or image i 0) at
        | inr above ↦ with_directory_outside image d place long size (inr above)
      ]
]

pub length-with_directory : (image d : List ℕ) → 3072 ≤ length image → length d ≡ 2048 → length (with_directory image d) ≡ length image
length-with_directory image d long size = length-written image 1024 d (omega arith)

-- If no byte of the blocks of a file changes, then the file has the same bytes.
pub FileStays-from_outside : (old new : List ℕ) (e : Entry) → length new ≡ length old → 512 * e.end ≤ length old
    → e.first ≤ e.end → (e.first < e.end → e.last_bytes ≤ 512)
    → ((place : ℕ) → 512 * e.first ≤ place → place < 512 * e.end → get_or new place 0 ≡ get_or old place 0)
    → FileStays old new e
unfolding file_bytes
FileStays-from_outside old new e size within ordered one_block same = record {
  bytes = elim (cases_lt e.first e.end) [
    | inl some ↦
        let more = lt-leb e.end e.first some in
        let last = one_block some in
        let end = 512 * (e.end - 1) + e.last_bytes in
        let inside = le-leb end (length old) (omega arith) in
        rw (more, size, inside) (ap Some (same_parts new old (512 * e.first) (512 * e.first) (end - 512 * e.first) (omega arith) (omega arith)
        (λ k below. same (512 * e.first + k) (omega arith) (omega arith))))
    | inr none ↦ let over = le-leb e.end e.first none in rw over refl
  ];
  blocks = same_parts new old (512 * e.first) (512 * e.first) (512 * e.end - 512 * e.first) (omega arith) (omega arith)
      (λ k below. same (512 * e.first + k) (omega arith) (omega arith));
}

-- The blocks of each file of a volume are within the volume, and after the copies of the directory.
pub files_within : (image : List ℕ) → IsVolume image → All (IsWithin (files_begin (directory_of image)) (block_count (directory_of image))) (files_of image)
files_within image v = all_within (block_count (directory_of image)) (files_begin (directory_of image)) (files_of image) v.has_directory.in_order

-- If only the directory of a volume changes, then all files have the same bytes.
pub FilesStay-with_directory : (image d : List ℕ) → IsVolume image → length d ≡ 2048 → FilesStay image (with_directory image d)
FilesStay-with_directory image d v size =
    All-weaker (IsWithin (files_begin (directory_of image)) (block_count (directory_of image))) (FileStays image (with_directory image d))
    (λ e w. FileStays-from_outside image (with_directory image d) e (length-with_directory image d v.long size)
    (omega (arith, w.within, v.has_directory.within, v.whole)) w.ordered w.one_block
    (λ place from to.
    with_directory_outside image d place v.long size
    (inr (omega (arith, w.after, past_directory (directory_of image) (length image / 512) v.has_directory)))))
    (files_of image) (files_within image v)

-- If the directory is replaced by `d`, and `d` differs from the old directory only in `spans`, then the image changes
-- only in `spans`.
pub ChangesOnly-with_directory : (image d : List ℕ) (spans : List Span) → 3072 ≤ length image → length d ≡ 2048
    → ((place : ℕ) → IsOutside place spans → 1024 ≤ place → place < 3072 → get_or d (place - 1024) 0 ≡ get_or (directory_of image) (place - 1024) 0)
    → ChangesOnly spans image (with_directory image d)
ChangesOnly-with_directory image d spans long size same = record {
  size = length-with_directory image d long size;
  rest = λ place out. with_directory_same image d place long size (same place out);
}

-- The bytes that removing a file changes, without those of the second copy of the directory.
abbrev pub removed_first : List ℕ → ℕ → List Span
removed_first directory n = count_span ∷ slots_span n (file_count directory + 1) ∷ []

module _ (image : List ℕ) (v : IsVolume image) where
  -- A new last date changes only the word of the last date.
  pub ChangesOnly-dated : (date : ℕ) → ChangesOnly (date_span ∷ []) image (dated_first image date)
  ChangesOnly-dated date =
      let d = directory_of image in
      let whole = length-directory image v.long in
      ChangesOnly-with_directory image (with_word_in d 20 date) (date_span ∷ []) v.long (length-dated d date whole)
      (λ place out from to. get_written_outside d 20 (little_bytes 2 date) (place - 1024) (omega arith) (shifted 1024 20 22 place from out.0))

  -- A new directory without files changes only the bytes of the directory.
  pub ChangesOnly-zeroed : (name : List ℕ) → length name ≤ 7 → ChangesOnly (directory_span ∷ []) image (zeroed_first image name)
  ChangesOnly-zeroed name short =
      let d = directory_of image in
      ChangesOnly-with_directory image (new_directory (files_begin d) name (block_count d) (last_date_of d)) (directory_span ∷ []) v.long
      (length-new_directory (files_begin d) name (block_count d) (last_date_of d) short)
      (λ place out from to. nowhere place from to out.0)
    where
      nowhere : {A : Type 0} (place : ℕ) → 1024 ≤ place → place < 3072 → (place < 1024) ⊎ (3072 ≤ place) → A
      nowhere place from to (inl below) = absurd (omega arith)
      nowhere place from to (inr above) = absurd (omega arith)

  module _ (n : ℕ) (from : 1 ≤ n) (to : n ≤ file_count (directory_of image)) where
    -- Facts about the change of a file's name.
    module _ (name : List ℕ) (short : length name ≤ 15) where
      length-with_name : length (written (directory_of image) (26 * n + 6) (name_field 15 name)) ≡ 2048
      length-with_name = length-named (directory_of image) name n (length-directory image v.long) short from (omega (arith, v.has_directory.few))

      pub ChangesOnly-named : ChangesOnly (name_span n ∷ []) image (with_name image n name)
      ChangesOnly-named =
          let d = directory_of image in
          let whole = length-directory image v.long in
          let field = name_field 15 name in
          let size : length field ≡ 16 = length-name_field 15 name short in
          let end : 26 * n + 6 + length field ≡ 26 * n + 22 = omega arith in
          ChangesOnly-with_directory image (written d (26 * n + 6) field) (name_span n ∷ []) v.long length-with_name
          (λ place out after below. get_written_outside d (26 * n + 6) field (place - 1024) (omega (arith, whole, v.has_directory.few))
          (rw end (shifted 1024 (26 * n + 6) (26 * n + 22) place after out.0)))

      pub FilesStay-named : FilesStay image (with_name image n name)
      FilesStay-named = FilesStay-with_directory image (written (directory_of image) (26 * n + 6) (name_field 15 name)) v length-with_name

    -- Facts about the change of a file's kind.
    module _ (kind : ℕ) where
      length-with_kind : length (written (directory_of image) (26 * n + 4) (kind_byte (get_or (directory_of image) (26 * n + 4) 0) kind ∷ [])) ≡ 2048
      length-with_kind = length-kinded (directory_of image) n kind (length-directory image v.long) from (omega (arith, v.has_directory.few))

      pub ChangesOnly-kinded : ChangesOnly (kind_span n ∷ []) image (with_kind image n kind)
      ChangesOnly-kinded =
          let d = directory_of image in
          let whole = length-directory image v.long in
          let byte = kind_byte (get_or d (26 * n + 4) 0) kind ∷ [] in
          ChangesOnly-with_directory image (written d (26 * n + 4) byte) (kind_span n ∷ []) v.long length-with_kind
          (λ place out after below. get_written_outside d (26 * n + 4) byte (place - 1024) (omega (arith, whole, v.has_directory.few))
          (shifted 1024 (26 * n + 4) (26 * n + 4 + 1) place after out.0))

      pub FilesStay-kinded : FilesStay image (with_kind image n kind)
      FilesStay-kinded =
          FilesStay-with_directory image (written (directory_of image) (26 * n + 4) (kind_byte (get_or (directory_of image) (26 * n + 4) 0) kind ∷ [])) v
          length-with_kind

    -- Removing a file changes only the bytes of `removed_first`.
    pub ChangesOnly-removed : ChangesOnly (removed_first (directory_of image) n) image (without_file image n)
    ChangesOnly-removed =
        let d = directory_of image in
        let whole = length-directory image v.long in
        let few = v.has_directory.few in
        ChangesOnly-with_directory image (without_slot d n) (removed_first d n) v.long (length-without_slot d n whole few from to)
        (λ place out after below. without_slot_outside d n whole few from to (place - 1024)
        (shifted 1024 16 18 place after out.0) (shifted 1024 (26 * n) (26 * (file_count d + 1)) place after out.1.0))

    pub FilesStay-removed : FilesStay image (without_file image n)
    FilesStay-removed =
        let d = directory_of image in
        FilesStay-with_directory image (without_slot d n) v (length-without_slot d n (length-directory image v.long) v.has_directory.few from to)
