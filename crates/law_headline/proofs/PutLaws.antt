-- Lemmas: an assembled code file that is put on a volume is found and booted.
use Rattle.std.proofs.Common.{◌≡◌, ℕ, List, Some, Ok, length, true, refl, sym, ap, ◌∙◌, arith, subst}
use Rattle.pm_filer.specs.Filed.{Filed, Put, bytes_of_file, filed}
use Rattle.pm_filer.specs.Laws.{IsVolumeOfBytes, file_given}
use Rattle.pm_machine.specs.Boot.{code_file}
use Rattle.pm_volume.specs.Changes.{new_entry}
use Rattle.pm_volume.specs.Directory.{directory_of}
use Rattle.pm_volume.specs.Headers.{last_date_of}
use Rattle.pm_volume.specs.Files.{file_bytes, file_named}
use Rattle.pm_volume.specs.Names.{is_same_name}
use Rattle.pm_volume.specs.declared.entry.Entry.{Entry}
use Rattle.law_disks.proofs.GivenLaws.{added_found, changed-ok, put_is_got, word_fits}
use Rattle.law_disks.proofs.SameNames.{same-from_upper}
use Rattle.law_engine.proofs.LoadedSegments.{found}
use Rattle.law_engine.proofs.ShapeLaws.{booted}
use Rattle.law_jobs.proofs.Accepted.{assembled_is_found}
use Rattle.law_jobs.proofs.Listed.{assembled_boots_listed}
use Rattle.law_headline.specs.Put.{PutProgramIsBooted, PutProgramIsFound}

some_same : (a b : List ℕ) → Some a ≡ Some b → a ≡ b
some_same a b h = cc

-- If `entry` is the first file with the name `name`, then the name gives the bytes of this entry.
given_bytes : (image name : List ℕ) (entry : Entry) → file_named image name ≡ Some entry → file_given image name ≡ file_bytes image entry
given_bytes image name entry named = ap (bytes_of_file image) named

-- If the bytes `file` were put under `name`, then the name gives these bytes.
put_given : (image name file : List ℕ) (f : Filed) → IsVolumeOfBytes image → filed image (Put name 2 file) ≡ Ok f → file_given f.image name ≡ Some file
put_given image name file f b done =
    let same : is_same_name name name ≡ true = same-from_upper name name refl in
    rw same at (put_is_got image name 2 file f b done name)

-- If a file was put under `name`, then the first file with this name is the new entry.
put_entry : (image name file : List ℕ) (f : Filed) → IsVolumeOfBytes image → filed image (Put name 2 file) ≡ Ok f
    → (g : _) × (file_named f.image name ≡ Some (new_entry g name 2 (length file) (last_date_of (directory_of image))))
unfolding filed
put_entry image name file f b done =
    added_found image name 2 file (last_date_of (directory_of image)) f.image b (word_fits image b 20 (omega arith)) (changed-ok _ f done)

pub put_program_is_found : PutProgramIsFound
put_program_is_found text shown file program segment image name f images unit h spells has b done on =
    let e = put_entry image name file f b done in
    let entry : Entry = new_entry e.0 name 2 (length file) (last_date_of (directory_of image)) in
    let bytes : file_bytes f.image entry ≡ Some file = sym (given_bytes f.image name entry e.1) ∙ put_given image name file f b done in
    (entry, assembled_is_found text shown file program segment images f.image name entry unit h spells has on e.1 refl bytes)

pub put_program_is_booted : PutProgramIsBooted
put_program_is_booted text shown file image name f images unit clock s h b done img on boot =
    let is = booted images unit name clock s boot in
    let at = found images f.image name is.file is.entry unit on is.found in
    let same : is.file ≡ file =
    some_same is.file file (sym at.bytes ∙ sym (given_bytes f.image name is.entry at.named) ∙ put_given image name file f b done) in
    assembled_boots_listed text shown file images f.image name is.entry unit clock s h img on
    (subst (λ bytes. code_file images unit name ≡ Ok (is.entry, bytes)) same is.found) boot
