-- Laws of a volume whose files were moved together.
use Rattle.std.proofs.Common.{◌≡◌, ◌<◌, ◌≤◌, ℕ, ◌+◌, ◌-◌, ◌*◌, ◌/◌, List, [], ◌∷◌, ◌∙◌, ap, sym, refl, inl, inr, length, drop, get_or, slice_range, Some, arith}
use Rattle.std.proofs.lemmas.Bool.{cases_lt, le-leb, lt-leb}
use Rattle.std.proofs.lemmas.List.{get_or-drop, get_or-take}
use Rattle.std.specs.List.{AllZip}
use Rattle.pm_volume.specs.Changes.{gaps}
use Rattle.pm_volume.specs.Copies.{CopiesStay}
use Rattle.pm_volume.specs.Directory.{IsVolume, block_count, directory_of, entries_from, file_count, files_begin}
use Rattle.pm_volume.specs.Entries.{AreInOrder}
use Rattle.pm_volume.specs.Files.{file_bytes, files_of}
use Rattle.pm_volume.specs.Stays.{ChangesOnly, blocks_of}
use Rattle.pm_volume.specs.Packing.{Krunches, MovesFile, krunched_image, moved_entry, new_place, packed, packed_image, packed_spans}
use Rattle.pm_volume.specs.Space.{gaps_in}
use Rattle.pm_volume.specs.Words.{word_in}
use Rattle.pm_volume.specs.declared.entry.Entry.{Entry}
use Rattle.pm_volume.proofs.CopyLaws.{ChangesOnly-mirrored, IsVolume-mirrored, CopiesStay-mirrored, FilesStay-own, directory-mirrored, files-mirrored}
use Rattle.pm_volume.proofs.CopyLaws.{moved-mirrored}
use Rattle.pm_volume.proofs.DirectoryLaws.{past_directory}
use Rattle.pm_volume.proofs.StayLaws.{directory_byte}
use Rattle.pm_volume.proofs.PackedLaws.{Packs, SameBlocks, new_place-down, order-packed, packs, spans-outside}
use Rattle.pm_volume.proofs.SlotChanges.{length-entries_from}
use Rattle.pm_volume.proofs.SlotRemoval.{earlier}
use Rattle.pm_volume.proofs.WrittenLaws.{same_parts}

part_byte : (xs : List ℕ) (begin end k : ℕ) → k < end - begin → get_or (slice_range xs begin end) k 0 ≡ get_or xs (begin + k) 0
part_byte xs begin end k below = get_or-take (end - begin) (drop begin xs) k 0 below ∙ get_or-drop begin xs k 0

-- If the blocks of a file were moved without change, then the moved file has the same bytes.
MovesFile-from_blocks : (old new : List ℕ) (e : Entry) (to : ℕ) → blocks_of new (moved_entry e to) ≡ blocks_of old e → to ≤ e.first → e.first ≤ e.end
    → (e.first < e.end → e.last_bytes ≤ 512) → 512 * e.end ≤ length old → length new ≡ length old → MovesFile old new e (moved_entry e to)
unfolding file_bytes
MovesFile-from_blocks old new e to same down ordered one_block within size = record {
  blocks = same;
  bytes = elim (cases_lt e.first e.end) [
    | inl some ↦
        let last = one_block some in
        let more = lt-leb e.end e.first some in
        let more' = lt-leb (to + (e.end - e.first)) to (omega arith) in
        let end = 512 * (e.end - 1) + e.last_bytes in
        let end' = 512 * ((to + (e.end - e.first)) - 1) + e.last_bytes in
        let inside = le-leb end (length old) (omega arith) in
        let inside' = le-leb end' (length old) (omega arith) in
        let width : end' - 512 * to ≡ end - 512 * e.first = omega arith in
        rw (more, more', size, inside, inside', width) (ap Some (same_parts new old (512 * to) (512 * e.first) (end - 512 * e.first) (omega arith) (omega arith)
        (λ k below. sym (part_byte new (512 * to) (512 * (to + (e.end - e.first))) k (omega arith))
        ∙ ap (λ (xs : List ℕ). get_or xs k 0) same
        ∙ part_byte old (512 * e.first) (512 * e.end) k (omega arith))))
    | inr none ↦
        let over = le-leb e.end e.first none in
        let over' = le-leb (to + (e.end - e.first)) to (omega arith) in
        rw (over, over') refl
  ];
}

moves : (old new : List ℕ) (blocks from : ℕ) (es : List Entry) → AreInOrder blocks from es → 512 * blocks ≤ length old → length new ≡ length old
    → AllZip (SameBlocks old new) es (packed from es) → AllZip (MovesFile old new) es (packed from es)
unfolding AreInOrder packed
moves old new blocks from [] order room size zip = zip
moves old new blocks from (e ∷ es) order room size zip =
    let s = order.0 in
    let to = new_place from e in
    let down = new_place-down from e s.after in
    let end : to + (e.end - e.first) ≤ e.end = omega (arith, s.ordered) in (
      MovesFile-from_blocks old new e to zip.0 down s.ordered s.one_block (omega (arith, order.1)) size,
      moves old new blocks (to + (e.end - e.first)) es (earlier blocks (to + (e.end - e.first)) e.end es end order.2) room size zip.1,
    )

module _ (image : List ℕ) (v : IsVolume image) (fits : block_count (directory_of image) < 65536) where
  new : List ℕ
  new = packed_image image 1 (files_begin (directory_of image)) (file_count (directory_of image))

  begin : 6 ≤ files_begin (directory_of image)
  begin = past_directory (directory_of image) (length image / 512) v.has_directory

  room : 512 * block_count (directory_of image) ≤ length image
  room = omega (arith, v.has_directory.within, v.whole)

  moved : Packs 1 (file_count (directory_of image)) (files_of image) (packed (files_begin (directory_of image)) (files_of image)) image new
  unfolding new
  moved = packs (file_count (directory_of image)) 1 (files_begin (directory_of image)) (block_count (directory_of image)) image v.long room fits
      (omega (arith, v.has_directory.few)) begin
      v.has_directory.in_order

  size : length new ≡ length image
  size = moved.rest.size

  -- The bytes of the header are unchanged.
  header : (k : ℕ) → k < 26 → get_or (directory_of new) k 0 ≡ get_or (directory_of image) k 0
  header k below =
      directory_byte new k (omega arith)
      ∙ moved.rest.rest (1024 + k)
      (spans-outside (block_count (directory_of image)) (1024 + k) 1 (files_begin (directory_of image)) (files_of image) v.has_directory.in_order
      (omega (arith, length-entries_from (directory_of image) (file_count (directory_of image)) 1, v.has_directory.few)) (inl (omega arith))
      (omega (arith, begin)))
      ∙ sym (directory_byte image k (omega arith))

  word : (place : ℕ) → place + 2 ≤ 26 → word_in (directory_of new) place ≡ word_in (directory_of image) place
  unfolding word_in
  word place below = rw (header place (omega arith), header (place + 1) (omega arith)) refl

  begins : files_begin (directory_of new) ≡ files_begin (directory_of image)
  begins = word 2 (omega arith)

  files : files_of new ≡ packed (files_begin (directory_of image)) (files_of image)
  files = ap (entries_from (directory_of new) 1) (word 16 (omega arith)) ∙ moved.entries

  pub IsVolume-packed : IsVolume (packed_image image 1 (files_begin (directory_of image)) (file_count (directory_of image)))
  unfolding new
  IsVolume-packed =
      let h = v.has_directory in
      record {
        whole = rw size v.whole;
        long = rw size v.long;
        has_directory = record {
          named = omega (arith, header 6 (omega arith), h.named);
          short = omega (arith, header 6 (omega arith), h.short);
          begins = rw (word 2 (omega arith)) h.begins;
          holds_directory = omega (arith, word 14 (omega arith), word 2 (omega arith), h.holds_directory);
          within = omega (arith, word 14 (omega arith), h.within, size);
          few = omega (arith, word 16 (omega arith), h.few);
          in_order =
              rw (word 14 (omega arith), word 2 (omega arith), files)
              (order-packed (block_count (directory_of image)) (files_begin (directory_of image)) (files_of image) h.in_order);
        };
      }

  zip : AllZip (MovesFile image new) (files_of image) (files_of new)
  zip = rw files
      (moves image new (block_count (directory_of image)) (files_begin (directory_of image)) (files_of image) v.has_directory.in_order room size moved.blocks)

  only : ChangesOnly (packed_spans 1 (files_of new)) image new
  only = rw files moved.rest

  volume : IsVolume new
  unfolding new
  volume = IsVolume-packed

  -- If `image` is a volume, then `krunched_image image` satisfies `Krunches`.
  pub Krunches-krunched : Krunches image (krunched_image image)
  unfolding new
  Krunches-krunched =
      let same = files-mirrored new volume in
      record {
        files = same ∙ files;
        moved = rw same (moved-mirrored image new (files_of image) (files_of new) (FilesStay-own new volume) zip);
        rest = rw same (ChangesOnly-mirrored (packed_spans 1 (files_of new)) image new v volume begins only);
      }

  -- The gaps after the files were moved are the gaps between their new entries.
  pub gaps-krunched : gaps_in (directory_of (krunched_image image))
      ≡ gaps (block_count (directory_of image)) 1 (files_begin (directory_of image)) (packed (files_begin (directory_of image)) (files_of image))
  unfolding new
  gaps-krunched = rw (directory-mirrored new volume, word 14 (omega arith), begins, files) refl

  pub CopiesStay-krunched : CopiesStay image (krunched_image image)
  unfolding new
  CopiesStay-krunched = CopiesStay-mirrored [] image new v volume begins

  pub IsVolume-krunched : IsVolume (krunched_image image)
  unfolding new
  IsVolume-krunched = IsVolume-mirrored new volume
