-- Adding the system segment to the code file of a program on a volume.
use Rattle.std.specs.Prelude.{ℕ, ◌==◌, List, Option, Some, None, Result, Ok, Err, if◌then◌else◌}
use Rattle.pm_codefile.specs.declared.file.Slot.{Slot}
use Rattle.pm_filer.specs.SystemSegments.{given, system_slot}
use Rattle.pm_filer.specs.declared.system_fault.SystemFault.{SystemFault}
use Rattle.pm_filer.specs.declared.system_fault.SystemFault.TheVariants.{Volume}
use Rattle.pm_volume.specs.Directory.{directory_of}
use Rattle.pm_volume.specs.Files.{file_bytes, file_named}
use Rattle.pm_volume.specs.Headers.{last_date_of}
use Rattle.pm_volume.specs.Made.{added, file_removed}
use Rattle.pm_volume.specs.declared.entry.Entry.{Entry}
use Rattle.pm_volume.specs.declared.fault.VolumeFault.{VolumeFault}
use Rattle.pm_volume.specs.declared.kinds.TheConstants.{CODE}

-- The bytes of the file of the entry `entry`, if the entry exists and its kind is code.
abbrev pub code_of : List ℕ → Option Entry → Option (List ℕ)
code_of image None = None
code_of image (Some entry) = if entry.kind == CODE then file_bytes image entry else None

abbrev pub program_file : List ℕ → List ℕ → Option (List ℕ)
program_file image name = code_of image (file_named image name)

-- The image with the code file `file` added: in the lowest gap that is large enough, with the last date of the volume.
abbrev pub put_code : List ℕ → List ℕ → List ℕ → Result (List ℕ) VolumeFault
put_code image name file = added image name CODE file (last_date_of (directory_of image))

abbrev pub put_anew : List ℕ → List ℕ → Result (List ℕ) VolumeFault → Result (List ℕ) VolumeFault
put_anew name file (Err fault) = Err fault
put_anew name file (Ok image) = put_code image name file

-- The result of a change that a volume accepts or refuses.
abbrev pub changed : Result (List ℕ) VolumeFault → Result (List ℕ) SystemFault
changed (Ok image) = Ok image
changed (Err fault) = Err (Volume fault)

-- The image in which the first file with the name `name` is removed and the new code file is added. A fault in the new
-- file comes first.
abbrev pub exchanged : List ℕ → List ℕ → Result (List ℕ) SystemFault → Result (List ℕ) SystemFault
exchanged image name (Err fault) = Err fault
exchanged image name (Ok file) = changed (put_anew name file (file_removed image name))

-- The image in which the code file with the name `name` has the new segment. If no such code file exists, the image is
-- unchanged.
abbrev pub exchanged_if : List ℕ → List ℕ → Slot → List ℕ → Option (List ℕ) → Result (List ℕ) SystemFault
exchanged_if image name slot segment None = Ok image
exchanged_if image name slot segment (Some file) = exchanged image name (given file slot segment)

abbrev pub put_in : List ℕ → List ℕ → Result (Slot × List ℕ) SystemFault → Result (List ℕ) SystemFault
put_in image name (Err fault) = Err fault
put_in image name (Ok (slot, segment)) = exchanged_if image name slot segment (program_file image name)

-- The image in which the code file with the name `name` has the segment of the system file `system`, or a fault. A
-- fault of the system file comes first, then a fault of the program file, then a fault of the volume.
unfoldable pub image_with_system : List ℕ → List ℕ → List ℕ → Result (List ℕ) SystemFault
image_with_system image name system = put_in image name (system_slot system)
