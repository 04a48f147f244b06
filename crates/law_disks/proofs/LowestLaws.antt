-- Lemmas: a file is put into the lowest range of free blocks that is large enough.
use Rattle.std.proofs.Common.{◌≡◌, ◌≤◌, ◌⊎◌, ℕ, ◌+◌, List, ◌∙◌, sym, refl, inl, inr, length, Some, Result, Ok, Err, arith, subst}
use Rattle.std.proofs.lemmas.List.Elements.{All-weaker}
use Rattle.pm_volume.specs.Changes.{blocks_for, new_entry, place_for}
use Rattle.pm_volume.specs.Directory.{block_count, directory_of, file_count, files_begin, files_in}
use Rattle.pm_volume.specs.Files.{file_named}
use Rattle.pm_volume.specs.Headers.{last_date_of}
use Rattle.pm_volume.specs.Made.{added, added_in}
use Rattle.pm_volume.specs.declared.entry.Entry.{Entry}
use Rattle.pm_volume.specs.declared.fault.VolumeFault.{VolumeFault}
use Rattle.pm_volume.specs.declared.fault.VolumeFault.TheVariants.{NoRoom}
use Rattle.pm_volume.proofs.LowestLaws.{lowest_gap, no_gap}
use Rattle.pm_volume.proofs.PlaceLaws.{IsPlaced-from_ok, IsRoomFor-placed, gap_in, no_gap-from_err}
use Rattle.pm_filer.specs.Filed.{changed, filed}
use Rattle.pm_filer.specs.Laws.{IsLowest, IsVolumeOfBytes, PutFindsRoom, PutIsLowest}
use Rattle.pm_filer.specs.declared.fault.FilerFault.TheVariants as faults
use Rattle.law_disks.proofs.GivenLaws.{added-ok, changed-ok, put_found, word_fits}
use Rattle.law_disks.proofs.SameNames.{same-from_upper}

some-same : {A : Type 0} (x y : A) → Some x ≡ Some y → x ≡ y
some-same x y h = cc

module _ (image name : List ℕ) (kind date : ℕ) (bytes : List ℕ) (g : _) (b : IsVolumeOfBytes image)
    (found : place_for image name (blocks_for (length bytes)) ≡ Ok g) (some : 1 ≤ length bytes) where
  shorter : g.begin + blocks_for (length bytes) ≤ g.end → (e : Entry) → (e.end ≤ g.begin) ⊎ (g.end ≤ e.first)
      → (e.end ≤ g.begin) ⊎ (g.begin + blocks_for (length bytes) ≤ e.first)
  shorter fits e (inl before) = inl before
  shorter fits e (inr behind) = inr (omega (arith, fits, behind))

  IsLowest-placed : IsLowest (directory_of image) (blocks_for (length bytes)) (new_entry g name kind (length bytes) date)
  IsLowest-placed =
      let need = blocks_for (length bytes) in
      let d = directory_of image in
      let p = IsPlaced-from_ok image name need g found in
      let k = gap_in image name need g b.volume p in
      let fits = (IsRoomFor-placed image name need g b.volume p).fits in
      record {
        blocks = refl;
        free = record {
          after = k.after;
          within = omega (arith, fits, k.within);
          apart = All-weaker (λ (e : Entry). (e.end ≤ g.begin) ⊎ (g.end ≤ e.first)) (λ (e : Entry). (e.end ≤ g.begin) ⊎ (g.begin + need ≤ e.first))
              (λ e. shorter fits e) (files_in d) k.apart;
        };
        lowest = λ begin free.
            lowest_gap need (file_count d) (block_count d) 1 (files_begin d) (files_in d) g (omega (arith, some)) p.gap begin free.after free.within free.apart;
      }

pub put_is_lowest : PutIsLowest
unfolding filed added
put_is_lowest image name kind bytes f b done some e told =
    let day = last_date_of (directory_of image) in
    let parts = added-ok image name kind bytes day (place_for image name (blocks_for (length bytes))) f.image (changed-ok _ f done) in
    let there = put_found image name kind bytes day parts.0 b parts.1 (word_fits image b 20 (omega arith)) name (same-from_upper name name refl) in
    let found : file_named f.image name ≡ Some (new_entry parts.0 name kind (length bytes) day) =
    subst (λ new. file_named new name ≡ Some (new_entry parts.0 name kind (length bytes) day)) parts.2 there in
    let same : new_entry parts.0 name kind (length bytes) day ≡ e = some-same _ e (sym found ∙ told) in
    subst (IsLowest (directory_of image) (blocks_for (length bytes))) same (IsLowest-placed image name kind day bytes parts.0 b parts.1 some)

changed-err : (r : Result (List ℕ) VolumeFault) (fault : VolumeFault) → changed r ≡ Err (faults.Volume fault) → r ≡ Err fault
changed-err (Ok image) fault h = cc
changed-err (Err other) fault h = cc

added-err : (image name : List ℕ) (kind : ℕ) (bytes : List ℕ) (day : ℕ) (r : Result _ VolumeFault) (fault : VolumeFault)
    → added_in image name kind bytes day r ≡ Err fault → r ≡ Err fault
added-err image name kind bytes day (Ok g) fault h = cc
added-err image name kind bytes day (Err other) fault h = cc

pub put_finds_room : PutFindsRoom
unfolding filed added
put_finds_room image name kind bytes refused some begin free =
    let d = directory_of image in
    let need = blocks_for (length bytes) in
    let place = added-err image name kind bytes (last_date_of d) (place_for image name need) NoRoom (changed-err _ NoRoom refused) in
    no_gap need (file_count d) (block_count d) 1 (files_begin d) (files_in d) (omega (arith, some)) (no_gap-from_err image name need place)
    begin free.after free.within free.apart
