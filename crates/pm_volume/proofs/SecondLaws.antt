-- For each change of a volume: facts about the image after its second copy is overwritten with the first.
use Rattle.std.proofs.Common.{◌≡◌, ◌<◌, ◌≤◌, ℕ, ◌-◌, ◌%◌, List, [], ◌∷◌, ◌∙◌, ap, inl, length, slice_set, Some, arith}
use Rattle.std.specs.List.{insert, remove}
use Rattle.pm_volume.specs.Changes.{FitsSlot, blocks_for, new_entry, with_file, with_kind, with_name, without_file}
use Rattle.pm_volume.specs.Copies.{mirrored}
use Rattle.pm_volume.specs.Directory.{IsVolume, block_count, directory_of, entry_in, file_count, files_begin}
use Rattle.pm_volume.specs.Files.{file_bytes, files_of}
use Rattle.pm_volume.specs.Headers.{dated_image, last_date_of, new_directory, zeroed_image}
use Rattle.pm_volume.specs.Stays.{date_span, directory_span, kind_span, name_span}
use Rattle.pm_volume.specs.Names.{name_field}
use Rattle.pm_volume.specs.Words.{with_word_in}
use Rattle.pm_volume.specs.declared.gap.Gap.{Gap}
use Rattle.pm_volume.proofs.AddStays.{ChangesOnly-added, FilesStay-added, added_first}
use Rattle.pm_volume.proofs.AddLaws.{bytes-added, files-added}
use Rattle.pm_volume.proofs.CopyLaws.{Changed, Changed-mirrored, FileStays-mirrored, begins-stay}
use Rattle.pm_volume.proofs.HeaderLaws.{IsVolume-dated, IsVolume-zeroed, begins-new, dated_first, files-dated_first, files-zeroed, length-dated}
use Rattle.pm_volume.proofs.HeaderLaws.{length-new_directory, zeroed_first}
use Rattle.pm_volume.proofs.ImageLaws.{directory-with}
use Rattle.pm_volume.proofs.KindLaws.{IsVolume-kinded, files-rekinded}
use Rattle.pm_volume.proofs.StayLaws.{ChangesOnly-dated, ChangesOnly-kinded, ChangesOnly-named, ChangesOnly-removed, ChangesOnly-zeroed, FilesStay-kinded}
use Rattle.pm_volume.proofs.StayLaws.{FilesStay-named, FilesStay-removed}
use Rattle.pm_volume.proofs.StayLaws.{FilesStay-with_directory, removed_first}
use Rattle.pm_volume.proofs.PlaceLaws.{IsPlaced, IsRoomFor-placed, IsVolume-added, gap_in}
use Rattle.pm_volume.proofs.RenameLaws.{IsVolume-named, files-renamed}
use Rattle.pm_volume.proofs.SlotRemoval.{IsVolume-removed, files-removed}
use Rattle.pm_volume.proofs.WrittenLaws.{length-directory}

module _ (image name bytes : List ℕ) (kind date : ℕ) (g : Gap) (v : IsVolume image)
    (p : IsPlaced image name (blocks_for (length bytes)) g) (fit : FitsSlot (new_entry g name kind (length bytes) date)) where
  begins-added : files_begin (directory_of (with_file image g.place (new_entry g name kind (length bytes) date) bytes)) ≡ files_begin (directory_of image)
  begins-added =
      let e = new_entry g name kind (length bytes) date in
      let r = IsRoomFor-placed image name (blocks_for (length bytes)) g v p in
      begins-stay (added_first (directory_of image) g e) image (with_file image g.place e bytes) (ChangesOnly-added image name bytes kind date g v p fit)
      (inl (omega arith), (inl (omega (arith, r.first)), (inl (omega (arith, r.past_directory)), tt)))
      (inl (omega arith), (inl (omega (arith, r.first)), (inl (omega (arith, r.past_directory)), tt)))

  pub Changed-added : Changed (added_first (directory_of image) g (new_entry g name kind (length bytes) date))
      (insert (files_of image) (g.place - 1) (new_entry g name kind (length bytes) date)) image
      (mirrored (with_file image g.place (new_entry g name kind (length bytes) date) bytes))
  Changed-added =
      let e = new_entry g name kind (length bytes) date in
      Changed-mirrored (added_first (directory_of image) g e) (insert (files_of image) (g.place - 1) e) image (with_file image g.place e bytes) v
      (IsVolume-added image name bytes kind date g v p fit) begins-added (files-added image name bytes kind date g v p fit)
      (FilesStay-added image name bytes kind date g v p fit) (ChangesOnly-added image name bytes kind date g v p fit)

  pub bytes-added_second : file_bytes (mirrored (with_file image g.place (new_entry g name kind (length bytes) date) bytes))
      (new_entry g name kind (length bytes) date)
      ≡ Some bytes
  bytes-added_second =
      let e = new_entry g name kind (length bytes) date in
      let m = with_file image g.place e bytes in
      let r = IsRoomFor-placed image name (blocks_for (length bytes)) g v p in
      let k = gap_in image name (blocks_for (length bytes)) g v p in
      let size = (ChangesOnly-added image name bytes kind date g v p fit).size in
      let stay = FileStays-mirrored m (IsVolume-added image name bytes kind date g v p fit) e (omega (arith, begins-added, k.after)) (omega arith)
      (omega (arith, size, r.within, r.fits)) (λ some. omega arith) in
      stay.bytes ∙ bytes-added image name bytes kind date g v p fit

module _ (image : List ℕ) (v : IsVolume image) where
  pub Changed-removed : (n : ℕ) → 1 ≤ n → n ≤ file_count (directory_of image)
      → Changed (removed_first (directory_of image) n) (remove (files_of image) (n - 1)) image (mirrored (without_file image n))
  Changed-removed n from to =
      let only = ChangesOnly-removed image v n from to in
      Changed-mirrored (removed_first (directory_of image) n) (remove (files_of image) (n - 1)) image (without_file image n) v
      (IsVolume-removed image n v from to)
      (begins-stay (removed_first (directory_of image) n) image (without_file image n) only (inl (omega arith), (inl (omega arith), tt))
      (inl (omega arith), (inl (omega arith), tt)))
      (files-removed image n v from to) (FilesStay-removed image v n from to) only

  pub Changed-named : (name : List ℕ) (n : ℕ) → 1 ≤ length name → length name ≤ 15 → 1 ≤ n → n ≤ file_count (directory_of image)
      → Changed (name_span n ∷ []) (slice_set (files_of image) (n - 1) (record (entry_in (directory_of image) n) { name = name_field 15 name })) image
      (mirrored (with_name image n name))
  Changed-named name n some short from to =
      let only = ChangesOnly-named image v n from to name short in
      Changed-mirrored (name_span n ∷ []) (slice_set (files_of image) (n - 1) (record (entry_in (directory_of image) n) { name = name_field 15 name })) image
      (with_name image n name) v
      (IsVolume-named image name n v some short from to)
      (begins-stay (name_span n ∷ []) image (with_name image n name) only (inl (omega arith), tt) (inl (omega arith), tt))
      (files-renamed image name n v some short from to) (FilesStay-named image v n from to name short) only

  pub Changed-kinded : (kind n : ℕ) → 1 ≤ n → n ≤ file_count (directory_of image)
      → Changed (kind_span n ∷ []) (slice_set (files_of image) (n - 1) (record (entry_in (directory_of image) n) { kind = kind % 16 })) image
      (mirrored (with_kind image n kind))
  Changed-kinded kind n from to =
      let only = ChangesOnly-kinded image v n from to kind in
      Changed-mirrored (kind_span n ∷ []) (slice_set (files_of image) (n - 1) (record (entry_in (directory_of image) n) { kind = kind % 16 })) image
      (with_kind image n kind) v
      (IsVolume-kinded image n kind v from to)
      (begins-stay (kind_span n ∷ []) image (with_kind image n kind) only (inl (omega arith), tt) (inl (omega arith), tt))
      (files-rekinded image n kind v from to) (FilesStay-kinded image v n from to kind) only

  pub Changed-dated : (date : ℕ) → Changed (date_span ∷ []) (files_of image) image (dated_image image date)
  Changed-dated date =
      let d = directory_of image in
      let only = ChangesOnly-dated image v date in
      Changed-mirrored (date_span ∷ []) (files_of image) image (dated_first image date) v (IsVolume-dated image v date)
      (begins-stay (date_span ∷ []) image (dated_first image date) only (inl (omega arith), tt) (inl (omega arith), tt))
      (files-dated_first image v date) (FilesStay-with_directory image (with_word_in d 20 date) v (length-dated d date (length-directory image v.long))) only

  pub Changed-zeroed : (name : List ℕ) → 1 ≤ length name → length name ≤ 7 → block_count (directory_of image) < 65536
      → Changed (directory_span ∷ []) [] image (zeroed_image image name)
  Changed-zeroed name some short fits =
      let d = directory_of image in
      let h = v.has_directory in
      let new = new_directory (files_begin d) name (block_count d) (last_date_of d) in
      let size = length-new_directory (files_begin d) name (block_count d) (last_date_of d) short in
      Changed-mirrored (directory_span ∷ []) [] image (zeroed_first image name) v (IsVolume-zeroed image v name some short fits)
      (ap files_begin (directory-with image new v.long size) ∙ begins-new (files_begin d) name (block_count d) (last_date_of d) short
      (omega (arith, h.holds_directory, fits)))
      (files-zeroed image v name some short) (FilesStay-with_directory image new v size) (ChangesOnly-zeroed image v name short)
