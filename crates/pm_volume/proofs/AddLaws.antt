-- The volume after a file is added: its list of files, and the bytes of the new file.
use Rattle.std.proofs.Common.{◌≡◌, ◌≤◌, ℕ, ◌+◌, ◌-◌, ◌*◌, List, [], ◌∷◌, ◌∙◌, ap, sym, refl, inl, inr, length, Some, arith}
use Rattle.std.proofs.lemmas.Bool.{cases_lt, le-leb, lt-leb}
use Rattle.std.proofs.lemmas.List.{take_all}
use Rattle.std.specs.List.{insert}
use Rattle.pm_volume.specs.Changes.{FitsSlot, blocks_for, new_entry, entry_slot, with_file, with_slot}
use Rattle.pm_volume.specs.Directory.{IsVolume, directory_of}
use Rattle.pm_volume.specs.Files.{file_bytes, files_of}
use Rattle.pm_volume.specs.declared.gap.Gap.{Gap}
use Rattle.pm_volume.proofs.EntryLaws.{entry_of-slot_of, length-slot_of}
use Rattle.pm_volume.proofs.FileLaws.{directory-with_file, file_byte, length-with_file}
use Rattle.pm_volume.proofs.PlaceLaws.{IsPlaced, IsRoomFor-placed}
use Rattle.pm_volume.proofs.SlotChanges.{count-with_slot, entries-with_slot, length-with_slot}
use Rattle.pm_volume.proofs.WrittenLaws.{length-directory, same_parts}

empty : (bytes : List ℕ) → length bytes ≡ 0 → bytes ≡ []
empty [] h = refl
empty (x ∷ xs) h = absurd (omega arith)

module _ (image name bytes : List ℕ) (kind date : ℕ) (g : Gap) (v : IsVolume image)
    (p : IsPlaced image name (blocks_for (length bytes)) g) (fit : FitsSlot (new_entry g name kind (length bytes) date)) where
  -- The new list of files is the old list with the new entry inserted.
  pub files-added : files_of (with_file image g.place (new_entry g name kind (length bytes) date) bytes)
      ≡ insert (files_of image) (g.place - 1) (new_entry g name kind (length bytes) date)
  files-added =
      let e = new_entry g name kind (length bytes) date in
      let d = directory_of image in
      let slot = entry_slot e in
      let r = IsRoomFor-placed image name (blocks_for (length bytes)) g v p in
      let whole : length d ≡ 2048 = length-directory image v.long in
      let size = length-slot_of e fit in
      let new = length-with_slot d slot g.place whole size r.few r.first r.last in
      let listed = directory-with_file image g.place e bytes (with_slot d g.place slot) v.long refl new r.past_directory (omega (arith, r.within, r.fits)) in
      let count = count-with_slot d slot g.place whole size r.few r.first r.last in
      rw (listed, count) (entries-with_slot d slot g.place whole size r.few r.first r.last
      ∙ ap (insert (files_of image) (g.place - 1)) (entry_of-slot_of e fit))

  -- The new file has the bytes that were given.
  pub bytes-added : file_bytes (with_file image g.place (new_entry g name kind (length bytes) date) bytes) (new_entry g name kind (length bytes) date)
      ≡ Some bytes
  unfolding file_bytes
  bytes-added =
      let e = new_entry g name kind (length bytes) date in
      let d = directory_of image in
      let slot = entry_slot e in
      let r = IsRoomFor-placed image name (blocks_for (length bytes)) g v p in
      let whole : length d ≡ 2048 = length-directory image v.long in
      let new = length-with_slot d slot g.place whole (length-slot_of e fit) r.few r.first r.last in
      let room : 512 * g.begin + 512 * blocks_for (length bytes) ≤ length image = omega (arith, r.within, r.fits) in
      let long = length-with_file image g.place e bytes (with_slot d g.place slot) v.long refl new r.past_directory room in
      let need = blocks_for (length bytes) in
      elim (cases_lt g.begin (g.begin + need)) [
        | inl some ↦
            let more = lt-leb (g.begin + need) g.begin some in
            let end : 512 * ((g.begin + need) - 1) + (512 - (512 * need - length bytes)) ≡ 512 * g.begin + length bytes = omega arith in
            let inside = le-leb (512 * g.begin + length bytes) (length image) (omega arith) in
            let cut : (512 * g.begin + length bytes) - 512 * g.begin ≡ length bytes = omega arith in
            rw (more, end, long, inside, cut) (ap Some (
            same_parts (with_file image g.place e bytes) bytes (512 * g.begin) 0 (length bytes) (omega arith) (omega arith)
            (λ k below. file_byte image g.place e bytes (with_slot d g.place slot) v.long refl new r.past_directory room k below)
            ∙ take_all (length bytes) bytes (omega arith)))
        | inr none ↦
            let over = le-leb (g.begin + need) g.begin none in
            rw over (ap Some (sym (empty bytes (omega arith))))
      ]
