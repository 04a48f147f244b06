-- Laws of removing a second copy, and of copying it over the first.
use Rattle.std.proofs.Common.{◌≡◌, ◌<◌, ◌≤◌, ◌⊎◌, false, true, ℕ, ◌+◌, List, [], ◌∷◌, ◌∙◌, inl, inr, refl, length, drop, get_or, arith, length-take}
use Rattle.std.proofs.Common.{length-drop}
use Rattle.std.proofs.lemmas.Bool.{cases_Bool}
use Rattle.std.proofs.lemmas.List.Elements.{All-weaker}
use Rattle.std.specs.List.{All}
use Rattle.pm_volume.specs.Copies.{HasCopies, has_second, restored}
use Rattle.pm_volume.specs.Directory.{IsVolume, block_count, directory_of, files_begin, second_of}
use Rattle.pm_volume.specs.Entries.{AreInOrder}
use Rattle.pm_volume.specs.Files.{files_of}
use Rattle.pm_volume.specs.Stays.{ChangesOnly, FileStays, FilesStay, past_span}
use Rattle.pm_volume.specs.Made.{begun_at, singled}
use Rattle.pm_volume.specs.Words.{written, zeros}
use Rattle.pm_volume.specs.declared.copies.Copies.TheVariants.{Single}
use Rattle.pm_volume.proofs.BegunLaws.{ChangesOnly-begun, IsVolume-begun, FilesStay-begun, Recopied, begins-image, files-image, both_stay, second_said}
use Rattle.pm_volume.proofs.BegunLaws.{second_unsaid}
use Rattle.pm_volume.proofs.Faults.{IsFirstBad}
use Rattle.pm_volume.proofs.HeaderLaws.{length-zeros}
use Rattle.pm_volume.proofs.ImageLaws.{IsVolume-from_directory}
use Rattle.pm_volume.proofs.StayLaws.{FileStays-from_outside, files_within}
use Rattle.pm_volume.proofs.OrderLaws.{IsWithin}
use Rattle.pm_volume.proofs.SlotRemoval.{earlier}
use Rattle.pm_volume.proofs.WrittenLaws.{get_written_above, get_written_below, length-written, same_parts}

-- Facts about a volume with a second copy, and about the image after the second copy is removed.
module _ (image : List ℕ) (v : IsVolume image) (said : has_second image ≡ true) where
  ten : files_begin (directory_of image) ≡ 10
  ten = second_said image v said

  m : List ℕ
  m = begun_at image 6

  order : AreInOrder (block_count (directory_of image)) 6 (files_of image)
  order = earlier (block_count (directory_of image)) 6 (files_begin (directory_of image)) (files_of image) (omega (arith, ten)) v.has_directory.in_order

  blocks : 6 ≤ block_count (directory_of image)
  blocks = omega (arith, ten, v.has_directory.holds_directory)

  volume : IsVolume m
  unfolding m
  volume = IsVolume-begun image v 6 (inl refl) (omega arith) blocks order

  six : files_begin (directory_of m) ≡ 6
  unfolding m
  six = begins-image image v 6 (inl refl) (omega arith) blocks order

  files : files_of m ≡ files_of image
  unfolding m
  files = files-image image v 6 (inl refl) (omega arith) blocks order

  stay : FilesStay image m
  unfolding m
  stay = FilesStay-begun image v 6 (inl refl) (omega arith) blocks order

  only : ChangesOnly (past_span ∷ []) image m
  unfolding m
  only = ChangesOnly-begun image v 6 (inl refl) (omega arith) blocks order

  long : 5120 ≤ length m
  long = omega (arith, only.size, ten, v.has_directory.holds_directory, v.has_directory.within, v.whole)

  new : List ℕ
  new = written m 3072 (zeros 2048)

  size : length new ≡ length m
  unfolding new
  size = length-written m 3072 (zeros 2048) (omega (arith, length-zeros 2048, long))

  outside : (place : ℕ) → (place < 3072) ⊎ (5120 ≤ place) → get_or new place 0 ≡ get_or m place 0
  unfolding new
  outside place (inl below) = get_written_below m 3072 (zeros 2048) place (omega (arith, length-zeros 2048, long)) below
  outside place (inr above) = get_written_above m 3072 (zeros 2048) place (omega (arith, length-zeros 2048, long)) (omega (arith, length-zeros 2048, above))

  directory : directory_of new ≡ directory_of m
  directory = same_parts new m 1024 1024 2048 (omega (arith, size, long)) (omega (arith, long)) (λ k below. outside (1024 + k) (inl (omega arith)))

  own : All (FileStays m new) (files_of image)
  own =
      All-weaker (IsWithin (files_begin (directory_of image)) (block_count (directory_of image))) (FileStays m new)
      (λ e w. FileStays-from_outside m new e size (omega (arith, w.within, v.has_directory.within, v.whole, only.size)) w.ordered w.one_block
      (λ place from to. outside place (inr (omega (arith, w.after, from, ten))))) (files_of image) (files_within image v)

  same : singled image ≡ new
  unfolding new m singled
  same = rw said refl

  pub Recopied-dropped : Recopied image (singled image)
  Recopied-dropped = rw same (record {
    volume = record {
      whole = rw size volume.whole;
      long = rw size volume.long;
      has_directory = rw (directory, size) volume.has_directory;
    };
    files = rw directory files;
    stay = both_stay image m new (files_of image) stay own;
    only = record {
      size = size ∙ only.size;
      rest = λ place out. outside place out.1.0 ∙ only.rest place (out.0, tt);
    };
  })

  pub HasCopies-dropped : HasCopies (singled image) Single
  HasCopies-dropped = rw (same, directory) six

-- Facts about a volume without a second copy.
module _ (image : List ℕ) (v : IsVolume image) (none : has_second image ≡ false) where
  pub singled-none : singled image ≡ image
  unfolding singled
  singled-none = rw none refl

  pub Recopied-none : Recopied image (singled image)
  Recopied-none = rw singled-none (record {
    volume = v;
    files = refl;
    stay = λ k e h. record { bytes = refl; blocks = refl };
    only = record { size = refl; rest = λ place out. refl };
  })

  pub HasCopies-none : HasCopies (singled image) Single
  HasCopies-none = rw singled-none (second_unsaid image v none)

pub Recopied-singled : (image : List ℕ) → IsVolume image → Recopied image (singled image)
Recopied-singled image v = elim (cases_Bool (has_second image)) [
  | inl said ↦ Recopied-dropped image v said
  | inr none ↦ Recopied-none image v none
]

pub HasCopies-singled : (image : List ℕ) → IsVolume image → HasCopies (singled image) Single
HasCopies-singled image v = elim (cases_Bool (has_second image)) [
  | inl said ↦ HasCopies-dropped image v said
  | inr none ↦ HasCopies-none image v none
]

-- If only the first copy is damaged, then the image in which the second copy is copied over it is a volume.
pub IsVolume-restored : (image : List ℕ) → IsFirstBad image → IsVolume (restored image)
unfolding restored
IsVolume-restored image b =
    IsVolume-from_directory image (second_of image) b.whole (omega (arith, b.long))
    (omega (arith, b.long, length-take 2048 (drop 3072 image), length-drop 3072 image)) b.second
