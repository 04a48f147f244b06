-- Proofs of the laws that the second copy of the directory saves the files of a volume.
use Rattle.std.proofs.Common.{◌≡◌, ◌<◌, ◌≤◌, ◌⊎◌, ◌&&◌, ◌==◌, true, leb, ℕ, ◌+◌, ◌-◌, ◌/◌, ◌%◌, List, ◌∙◌, ap, refl, inl, inr, length, get_or, drop, Option}
use Rattle.std.proofs.Common.{Some, None, Ok, arith, length-take, length-drop}
use Rattle.std.proofs.lemmas.Bool.{and_parts, cases_lt, eqb-true, le-ltb, leb-true}
use Rattle.std.proofs.lemmas.Bool.Decides.{nat_tests}
use Rattle.std.proofs.lemmas.List.{ext_get_or}
use Rattle.std.proofs.lemmas.List.Elements.{All-weaker}
use Rattle.std.specs.List.{All}
use Rattle.std.specs.Option.{is_none}
use Rattle.pm_volume.specs.Changes.{with_directory}
use Rattle.pm_volume.specs.Copies.{HasCopies, repaired, restored}
use Rattle.pm_volume.specs.Directory.{IsVolume, block_count, directory_fault, directory_of, fault_beside, files_begin, files_in, image_fault, is_second_good}
use Rattle.pm_volume.specs.Directory.{second_of}
use Rattle.pm_volume.specs.Faults.{number_of}
use Rattle.pm_volume.specs.Stays.{FileStays}
use Rattle.pm_volume.specs.Laws.{DamageIsUndone, GoodImagesStay, IsSaved, SecondCopySaves}
use Rattle.pm_volume.specs.Words.{written}
use Rattle.pm_volume.specs.declared.copies.Copies.TheVariants.{Same}
use Rattle.pm_volume.specs.declared.fault.VolumeFault.{VolumeFault}
use Rattle.pm_volume.specs.declared.fault.VolumeFault.TheVariants.{FirstCopyBad}
use Rattle.pm_volume.proofs.Faults.{IsDirectory-from_none, IsFirstBad, none-from_directory, none-from_volume, none_from_test}
use Rattle.pm_volume.proofs.ImageLaws.{directory-with}
use Rattle.pm_volume.proofs.StayLaws.{FileStays-from_outside, directory_byte, with_directory_outside, length-with_directory}
use Rattle.pm_volume.proofs.OrderLaws.{IsWithin, all_within}
use Rattle.pm_volume.proofs.SingledLaws.{IsVolume-restored}
use Rattle.pm_volume.proofs.WrittenLaws.{get_written_above, get_written_below, get_written_in, length-directory, length-written, same_parts}

-- If an image of whole blocks has a valid second copy, then the second copy can replace the first.
IsFirstBad-from_good : (image : List ℕ) → length image % 512 ≡ 0 → is_second_good image ≡ true → IsFirstBad image
unfolding is_second_good
IsFirstBad-from_good image whole good =
    let parts =
    and_parts (leb 5120 (length image) && (files_begin (second_of image) == 10)) (is_none (directory_fault (second_of image) (length image / 512))) good in
    let front = and_parts (leb 5120 (length image)) (files_begin (second_of image) == 10) parts.0 in
    record {
      whole = whole;
      long = leb-true 5120 (length image) front.0;
      second = IsDirectory-from_none (second_of image) (length image / 512) (none_from_test _ parts.1);
      begins = eqb-true _ _ front.1;
    }

-- If the second copy is valid, then the image has no fault or the fault `FirstCopyBad`.
fault-first : (image : List ℕ) → IsFirstBad image → is_second_good image ≡ true
    → (image_fault image ≡ None) ⊎ ((number : ℕ) × (image_fault image ≡ Some (FirstCopyBad number)))
unfolding image_fault
fault-first image b good =
    let whole : (length image % 512 == 0) ≡ true = grind (arith, nat_tests, b.whole) in
    let long = le-ltb (length image) 3072 (omega (arith, b.long)) in
    rw (whole, long, good) (cases (directory_fault (directory_of image) (length image / 512)))
  where
    cases : (o : Option VolumeFault) → (fault_beside true o ≡ None) ⊎ ((number : ℕ) × (fault_beside true o ≡ Some (FirstCopyBad number)))
    cases None = inl refl
    cases (Some fault) = inr (number_of fault, refl)

repaired-first : (image : List ℕ) (number : ℕ) → image_fault image ≡ Some (FirstCopyBad number) → repaired image ≡ Ok (restored image)
unfolding repaired
repaired-first image number e = rw e refl

-- Facts about an image in which the second copy is copied over the first.
module _ (image : List ℕ) (b : IsFirstBad image) where
  size : length (second_of image) ≡ 2048
  size = omega (arith, b.long, length-take 2048 (drop 3072 image), length-drop 3072 image)

  directory : directory_of (restored image) ≡ second_of image
  unfolding restored
  directory = directory-with image (second_of image) (omega (arith, b.long)) size

  stay : All (FileStays image (restored image)) (files_in (second_of image))
  unfolding restored
  stay =
      All-weaker (IsWithin (files_begin (second_of image)) (block_count (second_of image))) (FileStays image (with_directory image (second_of image)))
      (λ e w. FileStays-from_outside image (with_directory image (second_of image)) e
      (length-with_directory image (second_of image) (omega (arith, b.long)) size)
      (omega (arith, w.within, b.second.within, b.whole)) w.ordered w.one_block
      (λ place from to. with_directory_outside image (second_of image) place (omega (arith, b.long)) size (inr (omega (arith, w.after, b.begins)))))
      (files_in (second_of image)) (all_within (block_count (second_of image)) (files_begin (second_of image)) (files_in (second_of image)) b.second.in_order)

  saved : (number : ℕ) → image_fault image ≡ Some (FirstCopyBad number) → IsSaved image
  saved number e = record {
    number = number;
    fault = e;
    new = restored image;
    repaired = repaired-first image number e;
    volume = IsVolume-restored image b;
    files = ap files_in directory;
    stay = rw directory stay;
  }

pub second_copy_saves : SecondCopySaves
second_copy_saves image whole good =
    let b = IsFirstBad-from_good image whole good in
    cases b (fault-first image b good)
  where
    cases : IsFirstBad image → (image_fault image ≡ None) ⊎ ((number : ℕ) × (image_fault image ≡ Some (FirstCopyBad number))) → (image_fault image ≡ None) ⊎
        IsSaved image
    cases b (inl none) = inl none
    cases b (inr first) = inr (saved image b first.0 first.1)

pub good_images_stay : GoodImagesStay
unfolding repaired
good_images_stay image v = let none = none-from_volume image v in rw none refl

-- Facts about a volume with two equal copies of the directory, after `bytes` overwrite the first copy.
module _ (image bytes : List ℕ) (v : IsVolume image) (copies : HasCopies image Same) (whole : length bytes ≡ 2048) where
  long : 5120 ≤ length image
  long = omega (arith, copies.0, v.has_directory.holds_directory, v.has_directory.within, v.whole)

  bad-size : length (written image 1024 bytes) ≡ length image
  bad-size = length-written image 1024 bytes (omega (arith, whole, long))

  second-bad : second_of (written image 1024 bytes) ≡ directory_of image
  second-bad =
      same_parts (written image 1024 bytes) image 3072 3072 2048 (omega (arith, bad-size, long)) (omega (arith, long))
      (λ k below. get_written_above image 1024 bytes (3072 + k) (omega (arith, whole, long)) (omega (arith, whole)))
      ∙ copies.1

  good : is_second_good (written image 1024 bytes) ≡ true
  unfolding is_second_good
  good =
      let none : directory_fault (directory_of image) (length image / 512) ≡ None = none-from_directory _ _ v.has_directory in
      let far : leb 5120 (length image) ≡ true = grind (arith, nat_tests, long) in
      let ten : (files_begin (directory_of image) == 10) ≡ true = grind (arith, nat_tests, copies.0) in
      rw (bad-size, second-bad, none, far, ten) refl

-- If bytes are overwritten, and then the old bytes are written back, then the list is as before.
written-again : (xs ys d : List ℕ) (i n : ℕ) → length ys ≡ n → length d ≡ n → i + n ≤ length xs
    → ((k : ℕ) → k < n → get_or d k 0 ≡ get_or xs (i + k) 0) → written (written xs i ys) i d ≡ xs
written-again xs ys d i n size size' room same =
    let once = length-written xs i ys (omega arith) in
    let twice = length-written (written xs i ys) i d (omega arith) in
    ext_get_or 0 (written (written xs i ys) i d) xs (twice ∙ once) (λ k _. elim (cases_lt k i) [
      | inl below ↦ get_written_below (written xs i ys) i d k (omega arith) below ∙ get_written_below xs i ys k (omega arith) below
      | inr from ↦
          elim (cases_lt k (i + n)) [
            | inl inside ↦
                let at : i + (k - i) ≡ k = omega arith in
                get_written_in (written xs i ys) i d k (omega arith) from (omega arith) ∙ same (k - i) (omega arith) ∙ ap (λ (p : ℕ). get_or xs p 0) at
            | inr above ↦ get_written_above (written xs i ys) i d k (omega arith) (omega arith) ∙ get_written_above xs i ys k (omega arith) (omega arith)
          ]
    ])

-- If the first of two equal copies is overwritten by `bytes`, and then the second is copied over it, then the image is
-- as before.
module _ (image bytes : List ℕ) (v : IsVolume image) (copies : HasCopies image Same) (whole : length bytes ≡ 2048) where
  back : restored (written image 1024 bytes) ≡ image
  unfolding restored
  back =
      let d = directory_of image in
      rw (second-bad image bytes v copies whole)
      (written-again image bytes d 1024 2048 whole (length-directory image v.long) (omega (arith, long image bytes v copies whole))
      (λ k below. directory_byte image k below))

  pub undone : (image_fault (written image 1024 bytes) ≡ None) ⊎ (repaired (written image 1024 bytes) ≡ Ok image)
  undone = cases
      (fault-first (written image 1024 bytes)
      (IsFirstBad-from_good (written image 1024 bytes) (rw (bad-size image bytes v copies whole) v.whole) (good image bytes v copies whole))
      (good image bytes v copies whole))
    where
      cases : (image_fault (written image 1024 bytes) ≡ None) ⊎ ((number : ℕ) × (image_fault (written image 1024 bytes) ≡ Some (FirstCopyBad number)))
          → (image_fault (written image 1024 bytes) ≡ None) ⊎ (repaired (written image 1024 bytes) ≡ Ok image)
      cases (inl none) = inl none
      cases (inr first) = inr (repaired-first (written image 1024 bytes) first.0 first.1 ∙ ap Ok back)

pub damage_is_undone : DamageIsUndone
damage_is_undone image bytes v copies whole = undone image bytes v copies whole
