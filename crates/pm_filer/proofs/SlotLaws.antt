-- Laws of the file in a slot of the directory.
use Rattle.std.proofs.Common.{◌≡◌, ◌<◌, ◌≤◌, ℕ, zero, suc, ◌+◌, List, [], ◌∷◌, ◌++◌, length, Option, Some, None, option_map, refl, sym, ◌∙◌, arith}
use Rattle.std.specs.Prelude.{slice_get}
use Rattle.pm_volume.specs.Files.{files_of}
use Rattle.pm_volume.specs.declared.entry.Entry.{Entry}
use Rattle.pm_filer.specs.Filed.{file_in_slot}
use Rattle.pm_filer.specs.Laws.{SlotsCountFiles, SlotsEnd}

same_option : (r : Option Entry) → option_map (λ e. e) r ≡ r
same_option (Some e) = refl
same_option None = refl

-- If a file has index `place` in the list of files, then it is in slot `place + 1`.
pub slot_at : (image : List ℕ) (slot place : ℕ) (r : Option Entry) → slot ≡ place + 1
    → option_map (λ e. e) r ≡ slice_get (files_of image) place → r ≡ file_in_slot image slot
slot_at image zero place r is at = absurd (omega (arith, is))
slot_at image (suc before) place r is at =
    let same : before ≡ place = omega (arith, is) in
    rw same (sym (same_option r) ∙ at)

-- If `n` equals `place`, then the file with index `n` is the file with index `place`.
pub file_at : (image : List ℕ) (place n : ℕ) (r : Option Entry) → n ≡ place → option_map (λ e. e) r ≡ slice_get (files_of image) n
    → r ≡ slice_get (files_of image) place
file_at image place n r same at = rw (← same) (sym (same_option r) ∙ at)

behind : (before after : List Entry) (e : Entry) → slice_get (before ++ e ∷ after) (length before) ≡ Some e
behind [] after e = refl
behind (x ∷ before) after e = behind before after e

past : (es : List Entry) (n : ℕ) → length es ≤ n → slice_get es n ≡ None
past [] n h = refl
past (e ∷ es) zero h = absurd (omega (arith, h))
past (e ∷ es) (suc n) h = past es n (omega (arith, h))

pub slots_count_files : SlotsCountFiles
slots_count_files image before after e files =
    sym (slot_at image (length before + 1) (length before) (Some e) refl (rw files (sym (behind before after e))))

pub slots_end : SlotsEnd
slots_end image = (refl, beyond)
  where
    beyond : (slot : ℕ) → length (files_of image) < slot → file_in_slot image slot ≡ None
    beyond zero h = refl
    beyond (suc before) h = past (files_of image) before (omega (arith, h))
