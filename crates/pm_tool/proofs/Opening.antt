-- Images that are opened one after the other, up to the first image that is no volume.
use Rattle.std.proofs.Common.{◌≡◌, ◌<◌, ℕ, ◌+◌, List, [], ◌∷◌, ◌++◌, Option, None, Some, Vec, vec_items, option_map}
use Rattle.std.proofs.Common.{length, take, set, refl, sym, ap, ◌∙◌, append_assoc, append-nil, arith}
use Rattle.std.proofs.lemmas.List.{take_more_set}
use Rattle.std.specs.Option.{option_or}
use Rattle.std.proofs.Math.Seq.{take-length}
use Rattle.pm_volume.specs.declared.fault.VolumeFault.{VolumeFault}
use Rattle.pm_tool.specs.Disks.{disk_fault, first_bad, first_disk_fault, here_or, images_of}

module _ {Z : Type 0} (rest rest' : List (Option (Vec ℕ Z))) (image : Option (Vec ℕ Z)) (next : rest ≡ image ∷ rest') where
  -- If `image` is still to be opened and its index is `place`, then `place` is below 6, the number of images.
  pub place_below : (place : ℕ) → place + length rest ≡ 6 → place < 6
  place_below place count =
      let one = ap length next in
      omega arith

  pub place_next : (place : ℕ) → place + length rest ≡ 6 → place + 1 + length rest' ≡ 6
  place_next place count =
      let one = ap length next in
      omega arith

  -- If the next image is a volume, then the first fault is that of the images after it.
  pub fault_later : (fault : Option VolumeFault) → fault ≡ first_disk_fault (images_of rest) → disk_fault (option_map vec_items image) ≡ None
      → fault ≡ first_disk_fault (images_of rest')
  fault_later fault so_far sound =
      so_far ∙ ap (λ images. first_disk_fault (images_of images)) next ∙ ap (λ f. option_or f (first_disk_fault (images_of rest'))) sound

  -- If the next image is no volume, then the first fault is the fault of this image.
  pub fault_here : (fault : Option VolumeFault) (this : VolumeFault) → fault ≡ first_disk_fault (images_of rest)
      → disk_fault (option_map vec_items image) ≡ Some this → fault ≡ Some this
  fault_here fault this so_far found =
      so_far ∙ ap (λ images. first_disk_fault (images_of images)) next ∙ ap (λ f. option_or f (first_disk_fault (images_of rest'))) found

  -- If the next image is a volume, then the index of the first bad image is that among the images after it.
  pub place_later : (found : Option ℕ) (place : ℕ) → found ≡ first_bad place (images_of rest)
      → disk_fault (option_map vec_items image) ≡ None → found ≡ first_bad (place + 1) (images_of rest')
  place_later found place so_far sound =
      so_far ∙ ap (λ images. first_bad place (images_of images)) next
      ∙ ap (λ f. here_or place f (first_bad (place + 1) (images_of rest'))) sound

  pub place_here : (found : Option ℕ) (place : ℕ) (this : VolumeFault) → found ≡ first_bad place (images_of rest)
      → disk_fault (option_map vec_items image) ≡ Some this → found ≡ Some place
  place_here found place this so_far bad =
      so_far ∙ ap (λ images. first_bad place (images_of images)) next
      ∙ ap (λ f. here_or place f (first_bad (place + 1) (images_of rest'))) bad

  pub opened_next : (whole volumes : List (Option (List ℕ))) (place : ℕ) (volume : Option (List ℕ)) → whole ≡ take place volumes ++ images_of rest
      → place < length volumes
      → volume ≡ option_map vec_items image → whole ≡ take (place + 1) (set volumes place volume) ++ images_of rest'
  opened_next whole volumes place volume so_far below same =
      so_far ∙ ap (λ images. take place volumes ++ images_of images) next ∙ ap (λ v. take place volumes ++ v ∷ images_of rest') (sym same)
      ∙ sym (append_assoc (take place volumes) (volume ∷ []) (images_of rest'))
      ∙ ap (λ l. l ++ images_of rest') (sym (take_more_set volumes place volume below))

module _ {Z : Type 0} (rest : List (Option (Vec ℕ Z))) (none : length rest ≡ 0) where
  no_more : rest ≡ []
  no_more = elim rest as (λ r. length r ≡ 0 → r ≡ []) [ [] ↦ λ e. refl | x ∷ xs ↦ λ e. absurd (omega arith) ] none

  pub fault_none : (fault : Option VolumeFault) → fault ≡ first_disk_fault (images_of rest) → fault ≡ None
  fault_none fault so_far = so_far ∙ ap (λ images. first_disk_fault (images_of images)) no_more

  pub place_none : (found : Option ℕ) (place : ℕ) → found ≡ first_bad place (images_of rest) → found ≡ None
  place_none found place so_far = so_far ∙ ap (λ images. first_bad place (images_of images)) no_more

  pub opened_all : (whole volumes : List (Option (List ℕ))) (place : ℕ) → whole ≡ take place volumes ++ images_of rest → place + length rest ≡ 6
      → length volumes ≡ 6 → volumes ≡ whole
  opened_all whole volumes place so_far count size =
      let e : place ≡ length volumes = omega arith in
      sym (so_far ∙ ap (λ images. take place volumes ++ images_of images) no_more ∙ append-nil (take place volumes) ∙ ap (λ k. take k volumes) e
      ∙ take-length volumes)
