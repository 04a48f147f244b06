-- Laws of adding a second copy of the directory.
use Rattle.std.proofs.Common.{◌≡◌, ◌<◌, ◌≤◌, ◌⊎◌, false, ℕ, ◌*◌, List, [], ◌∷◌, ◌∙◌, inl, inr, refl, arith, subst}
use Rattle.std.specs.List.{All}
use Rattle.pm_volume.specs.Copies.{HasCopies, mirrored}
use Rattle.pm_volume.specs.Directory.{IsVolume, block_count, directory_of, files_begin}
use Rattle.pm_volume.specs.Entries.{AreInOrder}
use Rattle.pm_volume.specs.Files.{files_of}
use Rattle.pm_volume.specs.Stays.{ChangesOnly, FileStays, FilesStay, past_span}
use Rattle.pm_volume.specs.Made.{begun_at, is_occupied}
use Rattle.pm_volume.specs.declared.copies.Copies.TheVariants.{Same}
use Rattle.pm_volume.proofs.BegunLaws.{ChangesOnly-begun, IsVolume-begun, FilesStay-begun, Recopied, begins-image, files-image, both_stay, order-free}
use Rattle.pm_volume.proofs.CopyLaws.{HasCopies-same, IsVolume-mirrored, FilesStay-own, files-mirrored, length-mirrored, mirrored_outside}

-- Facts about a volume to which a second copy of the directory can be added.
module _ (image : List ℕ) (v : IsVolume image) (blocks : 10 ≤ block_count (directory_of image)) (free : is_occupied image ≡ false) where
  m : List ℕ
  m = begun_at image 10

  order : AreInOrder (block_count (directory_of image)) 10 (files_of image)
  order = order-free (block_count (directory_of image)) (files_begin (directory_of image)) (files_of image) v.has_directory.in_order free

  volume : IsVolume m
  unfolding m
  volume = IsVolume-begun image v 10 (inr refl) (omega arith) blocks order

  ten : files_begin (directory_of m) ≡ 10
  unfolding m
  ten = begins-image image v 10 (inr refl) (omega arith) blocks order

  files : files_of m ≡ files_of image
  unfolding m
  files = files-image image v 10 (inr refl) (omega arith) blocks order

  stay : FilesStay image m
  unfolding m
  stay = FilesStay-begun image v 10 (inr refl) (omega arith) blocks order

  only : ChangesOnly (past_span ∷ []) image m
  unfolding m
  only = ChangesOnly-begun image v 10 (inr refl) (omega arith) blocks order

  mirrored_files : All (FileStays m (mirrored m)) (files_of image)
  mirrored_files = subst (All (FileStays m (mirrored m))) files (FilesStay-own m volume)

  beside : (place : ℕ) → (place < 3072) ⊎ (5120 ≤ place) → (place < 3072) ⊎ (512 * files_begin (directory_of m) ≤ place)
  beside place (inl below) = inl below
  beside place (inr above) = inr (omega (arith, ten, above))

  pub Recopied-doubled : Recopied image (mirrored (begun_at image 10))
  unfolding m
  Recopied-doubled = record {
    volume = IsVolume-mirrored m volume;
    files = files-mirrored m volume ∙ files;
    stay = both_stay image m (mirrored m) (files_of image) stay mirrored_files;
    only = record {
      size = length-mirrored m volume ∙ only.size;
      rest = λ place out. mirrored_outside m volume place (beside place out.1.0) ∙ only.rest place (out.0, tt);
    };
  }

  pub HasCopies-doubled : HasCopies (mirrored (begun_at image 10)) Same
  unfolding m
  HasCopies-doubled = HasCopies-same m volume ten
