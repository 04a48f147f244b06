-- What remains unchanged when a file is added.
use Rattle.std.proofs.Common.{◌≡◌, ◌<◌, ◌≤◌, ◌⊎◌, ℕ, ◌+◌, ◌-◌, ◌*◌, ◌/◌, List, [], ◌∷◌, ◌∙◌, inl, inr, length, get_or, refl, arith}
use Rattle.pm_volume.specs.Changes.{FitsSlot, blocks_for, new_entry, entry_slot, with_directory, with_file, with_slot}
use Rattle.pm_volume.specs.Directory.{IsVolume, directory_of, file_count}
use Rattle.pm_volume.specs.Files.{files_of}
use Rattle.pm_volume.specs.Stays.{ChangesOnly, FilesStay, Span, blocks_span, count_span, slots_span}
use Rattle.pm_volume.specs.declared.entry.Entry.{Entry}
use Rattle.pm_volume.specs.declared.gap.Gap.{Gap}
use Rattle.pm_volume.proofs.DirectoryLaws.{past_directory}
use Rattle.pm_volume.proofs.EntryLaws.{length-slot_of}
use Rattle.pm_volume.proofs.FileLaws.{length-with_file, outside_file}
use Rattle.pm_volume.proofs.StayLaws.{FileStays-from_outside, files_within, with_directory_outside, with_directory_same}
use Rattle.pm_volume.proofs.PlaceLaws.{IsPlaced, IsRoomFor, IsRoomFor-placed, gap_in}
use Rattle.pm_volume.proofs.SlotChanges.{length-with_slot, with_slot_outside}
use Rattle.pm_volume.proofs.WrittenLaws.{length-directory, shifted}

-- The bytes that adding a file changes, without those of the second copy of the directory.
abbrev pub added_first : List ℕ → Gap → Entry → List Span
added_first directory g e = count_span ∷ slots_span g.place (file_count directory + 2) ∷ blocks_span e ∷ []

module _ (image name bytes : List ℕ) (kind date : ℕ) (g : Gap) (v : IsVolume image)
    (p : IsPlaced image name (blocks_for (length bytes)) g) (fit : FitsSlot (new_entry g name kind (length bytes) date)) where
  entry : Entry
  entry = new_entry g name kind (length bytes) date

  d : List ℕ
  d = with_slot (directory_of image) g.place (entry_slot entry)

  r : IsRoomFor image (blocks_for (length bytes)) g
  r = IsRoomFor-placed image name (blocks_for (length bytes)) g v p

  size : length d ≡ 2048
  unfolding d entry
  size = length-with_slot (directory_of image) (entry_slot entry) g.place (length-directory image v.long) (length-slot_of entry fit) r.few r.first r.last

  room : 512 * g.begin + 512 * blocks_for (length bytes) ≤ length image
  room = omega (arith, r.within, r.fits)

  long : length (with_file image g.place entry bytes) ≡ length image
  unfolding d entry
  long = length-with_file image g.place entry bytes d v.long refl size r.past_directory room

  outside : (place : ℕ) → (place < 512 * g.begin) ⊎ (512 * g.begin + 512 * blocks_for (length bytes) ≤ place)
      → get_or (with_file image g.place entry bytes) place 0 ≡ get_or (with_directory image d) place 0
  unfolding d entry
  outside place out = outside_file image g.place entry bytes d v.long refl size r.past_directory room place out

  pub ChangesOnly-added : ChangesOnly (added_first (directory_of image) g (new_entry g name kind (length bytes) date)) image
      (with_file image g.place (new_entry g name kind (length bytes) date) bytes)
  unfolding d entry
  ChangesOnly-added =
      let end : 512 * (g.begin + blocks_for (length bytes)) ≡ 512 * g.begin + 512 * blocks_for (length bytes) = omega arith in
      record {
        size = long;
        rest = λ place out.
            outside place (rw (← end) out.1.1.0)
            ∙ with_directory_same image d place v.long size (λ from to.
            with_slot_outside (directory_of image) (entry_slot entry) g.place (length-directory image v.long) (length-slot_of entry fit) r.few r.first r.last
            (place - 1024)
            (shifted 1024 16 18 place from out.0) (shifted 1024 (26 * g.place) (26 * (file_count (directory_of image) + 2)) place from out.1.0));
      }

  -- If an offset is in the blocks of an existing file, then it is not in the blocks of the new file.
  apart : (e : Entry) (place : ℕ) → (e.end ≤ g.begin) ⊎ (g.end ≤ e.first) → 512 * e.first ≤ place → place < 512 * e.end
      → (place < 512 * g.begin) ⊎ (512 * g.begin + 512 * blocks_for (length bytes) ≤ place)
  apart e place (inl before) from to = inl (omega arith)
  apart e place (inr behind) from to = inr (omega (arith, r.fits))

  pub FilesStay-added : FilesStay image (with_file image g.place (new_entry g name kind (length bytes) date) bytes)
  unfolding d entry
  FilesStay-added = λ k e h.
      let w = files_within image v k e h in
      let out = (gap_in image name (blocks_for (length bytes)) g v p).apart k e h in
      FileStays-from_outside image (with_file image g.place entry bytes) _ long (omega (arith, w.within, v.has_directory.within, v.whole)) w.ordered w.one_block
      (λ place from to. outside place (apart (get_or (files_of image) k e) place out from to)
      ∙ with_directory_outside image d place v.long size
      (inr (omega (arith, w.after, past_directory (directory_of image) (length image / 512) v.has_directory))))
