-- Adding a file to the new volume, with success or failure.
use Rattle.std.proofs.Common.{◌≡◌, ◌<◌, ◌≤◌, ℕ, zero, suc, ◌+◌, List, [], ◌∷◌, ◌++◌, length, drop, get_or, Result, Ok, Err, None}
use Rattle.std.proofs.Common.{add-one, arith, refl}
use Rattle.std.proofs.Math.Seq.{drop-cons}
use Rattle.pm_check.specs.declared.believing.Taken.{Taken}
use Rattle.pm_check.specs.declared.report.Doubt.{Doubt}
use Rattle.pm_check.specs.declared.report.Doubt.TheVariants.{Sure, Shares, Behind}
use Rattle.pm_check.specs.Believing.{sharing}
use Rattle.pm_check.specs.Naming.{free_name}
use Rattle.pm_check.specs.Report.{counted, doubt_of, taken_line}
use Rattle.pm_check.specs.Report.{left_line}
use Rattle.pm_check.specs.Saving.{Saved, finished, room_for, saved, saved_from, saved_one}
use Rattle.pm_check.specs.declared.believing.Left.{Left}
use Rattle.pm_volume.specs.Headers.{blank_fault, blank_image}
use Rattle.std.specs.List.{flat_map}
use Rattle.pm_volume.specs.Names.{characters_of}
use Rattle.pm_volume.specs.Changes.{AddsFile, blocks_for, place_for}
use Rattle.pm_volume.specs.Made.{added}
use Rattle.pm_volume.specs.declared.entry.Entry.{Entry}
use Rattle.pm_volume.specs.declared.fault.VolumeFault.{VolumeFault}

pub made-added : (old new name : List ℕ) (kind : ℕ) (bytes : List ℕ) (date : ℕ) (e : Entry) → AddsFile old new name kind bytes date e →
    added old name kind bytes date ≡ Ok new
unfolding added
made-added old new name kind bytes date e a = rw (a.placed, a.image, a.entry) refl

pub made-unadded : (image name : List ℕ) (kind : ℕ) (bytes : List ℕ) (date : ℕ) (fault : VolumeFault) →
    place_for image name (blocks_for (length bytes)) ≡ Err fault → added image name kind bytes date ≡ Err fault
unfolding added
made-unadded image name kind bytes date fault e = rw e refl

-- ---- the files one by one

-- The value that is used where a list has no file.
abbrev pub no_file : Taken
no_file = record { slot = 0; entry = record { name = []; kind = 0; first = 0; end = 0; last_bytes = 0; date = 0 } }

module _ (image : List ℕ) (all : List Taken) (count : ℕ) (ts : List Taken) (i : ℕ) (s : Saved) where
  pub saved-more : (d : Taken) (volume : List ℕ) → i < length ts → saved_one image s.volume (get_or ts i d).entry ≡ Ok volume
      → saved_from image all count (drop i ts) s ≡ saved_from image all count (drop (i + 1) ts) (record {
        volume = volume;
        text = s.text ++ taken_line (get_or ts i d).slot (free_name s.volume (characters_of (get_or ts i d).entry.name))
            (doubt_of count (get_or ts i d).slot (sharing (get_or ts i d) all));
        doubted = counted s.doubted (doubt_of count (get_or ts i d).slot (sharing (get_or ts i d) all));
      })
  unfolding saved_from
  saved-more d volume h done = rw (add-one, drop-cons ts i d h, done) refl

  pub saved-fault : (d : Taken) (fault : VolumeFault) → i < length ts → saved_one image s.volume (get_or ts i d).entry ≡ Err fault
      → saved_from image all count (drop i ts) s ≡ Err fault
  unfolding saved_from
  saved-fault d fault h bad = rw (drop-cons ts i d h, bad) refl

pub saved-done : (image : List ℕ) (all : List Taken) (count : ℕ) (ts : List Taken) (i : ℕ) (s : Saved) → length ts ≤ i
    → saved_from image all count (drop i ts) s ≡ Ok s
unfolding saved_from
saved-done image all count [] zero s h = refl
saved-done image all count [] (suc i) s h = refl
saved-done image all count (t ∷ ts) zero s h = absurd (omega arith)
saved-done image all count (t ∷ ts) (suc i) s h = saved-done image all count ts i s (omega arith)

pub counted_most : (n : ℕ) (doubt : Doubt) → counted n doubt ≤ n + 1
counted_most n Sure = omega arith
counted_most n (Shares slot) = omega arith
counted_most n Behind = omega arith

-- If a new volume can be created, then the result of the salvage is the result of adding the files to this volume, with
-- the last line of the report added.
pub saved-all : (image name : List ℕ) (blocks count : ℕ) (taken : List Taken) (left : List Left) (volume text : List ℕ) (r : Result Saved VolumeFault)
    → blank_fault name (room_for blocks taken) ≡ None → volume ≡ blank_image name (room_for blocks taken) → text ≡ flat_map left_line left
    → saved_from image taken count taken (record { volume = volume; text = text; doubted = 0 }) ≡ r
    → saved image name blocks count taken left ≡ finished (length taken) (length left) r
unfolding saved
saved-all image name blocks count taken left volume text r none is_volume is_text e =
    let whole = rw (is_volume, is_text) at e in
    rw (none, whole) refl
