-- What a file of a folder is on the volume.
use Rattle.std.specs.Prelude.{ℕ, ◌&&◌, nat_le, Bool, false, List, length, Option, None, Some}
use Rattle.std.specs.Prelude.{Result, Ok, Err, if◌then◌else◌}
use Rattle.std.specs.Str.{bytes_eq}
use Rattle.percent_encoding.specs.Percent.{percent_decode}
use Rattle.pm_filer.specs.Filed.{bytes_of_file}
use Rattle.pm_filer.specs.declared.fault.FilerFault.{FilerFault}
use Rattle.pm_filer.specs.declared.fault.FilerFault.TheVariants as faults
use Rattle.pm_folder.specs.declared.contents.Ends.{Ends}
use Rattle.pm_folder.specs.declared.contents.How.{How}
use Rattle.pm_folder.specs.declared.contents.How.TheVariants as how
use Rattle.pm_import.specs.Feeds.{with_feeds}
use Rattle.pm_import.specs.Listed.{Listed, utf8_of}
use Rattle.pm_textfile.specs.Laying.{text_file}
use Rattle.pm_textfile.specs.Reading.{text_of_file}
use Rattle.pm_textfile.specs.Writing.{text_fault}
use Rattle.pm_textfile.specs.declared.fault.TextFault.{TextFault}
use Rattle.pm_volume.specs.Files.{file_named}
use Rattle.pm_volume.specs.Made.{added}
use Rattle.pm_volume.specs.declared.fault.VolumeFault.{VolumeFault}
use Rattle.pm_volume.specs.declared.fault.VolumeFault.TheVariants.{BadName}

-- ---- the bytes of the file on the volume

abbrev pub encoded : List ℕ → Option TextFault → Result (List ℕ) FilerFault
encoded text None = Ok (text_file text)
encoded text (Some fault) = Err (faults.Text fault)

-- The bytes of a file on the volume, from its contents in the folder. A text becomes the text file of that text.
abbrev pub stored_for : How → Ends → List ℕ → Result (List ℕ) FilerFault
stored_for how.Bytes ends contents = Ok contents
stored_for how.Text ends contents = encoded (with_feeds ends contents) (text_fault (with_feeds ends contents))

-- Whether two files have the same contents: the same text, or the same bytes.
abbrev pub is_same : How → List ℕ → List ℕ → Bool
is_same how.Bytes old new = bytes_eq old new
is_same how.Text old new =
    nat_le 1024 (length old) && (nat_le 1024 (length new) && bytes_eq (text_of_file old) (text_of_file new))

abbrev pub is_same_file : How → Option (List ℕ) → List ℕ → Bool
is_same_file how None new = false
is_same_file how (Some old) new = is_same how old new

-- Whether the volume has a file of this name with the same contents.
abbrev pub has_same : List ℕ → List ℕ → How → List ℕ → Bool
has_same image name how bytes = is_same_file how (bytes_of_file image (file_named image name)) bytes

abbrev pub of_volume : Result (List ℕ) VolumeFault → Result (List ℕ) FilerFault
of_volume (Ok image) = Ok image
of_volume (Err fault) = Err (faults.Volume fault)

abbrev pub placed_named : List ℕ → Option (List ℕ) → Listed → List ℕ → Result (List ℕ) FilerFault
placed_named image None l bytes = Err (faults.Volume BadName)
placed_named image (Some name) l bytes = if has_same image name l.how bytes then Ok image
    else of_volume (added image name l.kind bytes l.date)

abbrev pub placed_bytes : List ℕ → Listed → Result (List ℕ) FilerFault → Result (List ℕ) FilerFault
placed_bytes image l (Err fault) = Err fault
placed_bytes image l (Ok bytes) = placed_named image (utf8_of (percent_decode l.name)) l bytes

-- The image after a file of a folder was added, with the name, kind and date of its line. It is unchanged if it has a
-- file of this name with the same contents. `contents` is what the file in the folder contains.
unfoldable pub placed : Ends → List ℕ → Listed → List ℕ → Result (List ℕ) FilerFault
placed ends image l contents = placed_bytes image l (stored_for l.how ends contents)
