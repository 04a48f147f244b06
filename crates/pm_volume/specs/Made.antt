-- For each change of a volume: the image after the change, or the fault for which the change is refused.
use Rattle.std.specs.Prelude.{Bool, nat_lt, ℕ, List, length, Option, Some, None, Result, Ok, Err, if◌then◌else◌}
use Rattle.std.specs.List.{list_any}
use Rattle.pm_volume.specs.Changes.{blocks_for, new_entry, place_for, slot_named, slot_numbered, slot_to_rename}
use Rattle.pm_volume.specs.Changes.{with_directory, with_file, with_kind, with_name, without_file}
use Rattle.pm_volume.specs.Copies.{has_second, mirrored}
use Rattle.pm_volume.specs.Directory.{block_count, directory_of}
use Rattle.pm_volume.specs.Files.{files_of}
use Rattle.pm_volume.specs.Headers.{zeroed_image}
use Rattle.pm_volume.specs.Words.{with_word_in, written, zeros}
use Rattle.pm_volume.specs.declared.entry.Entry.{Entry}
use Rattle.pm_volume.specs.Names.{is_new_name}
use Rattle.pm_volume.specs.declared.fault.VolumeFault.{VolumeFault}
use Rattle.pm_volume.specs.declared.fault.VolumeFault.TheVariants.{BadHeader, BadName, NoFile, Occupied}
use Rattle.pm_volume.specs.declared.gap.Gap.{Gap}
use Rattle.pm_volume.specs.declared.fields.TheConstants.{DIRECTORY_SIZE, HEADER_FILES_BEGIN, LONGEST_VOLUME_NAME}
use Rattle.pm_volume.specs.declared.fields.TheConstants.{PAST_DIRECTORY, PAST_SECOND, SECOND}

-- The image with a new file in the gap, or the fault `fault` if the search for a gap returned it.
abbrev pub added_in : List ℕ → List ℕ → ℕ → List ℕ → ℕ → Result Gap VolumeFault → Result (List ℕ) VolumeFault
added_in image name kind bytes date (Ok gap) =
    Ok (mirrored (with_file image gap.place (new_entry gap name kind (length bytes) date) bytes))
added_in image name kind bytes date (Err fault) = Err fault

-- The image with a new file that has the name `name`, the kind `kind`, the bytes `bytes` and the date `date`.
unfoldable pub added : List ℕ → List ℕ → ℕ → List ℕ → ℕ → Result (List ℕ) VolumeFault
added image name kind bytes date =
    added_in image name kind bytes date (place_for image name (blocks_for (length bytes)))

abbrev pub removed_at : List ℕ → Option ℕ → Result (List ℕ) VolumeFault
removed_at image (Some slot) = Ok (mirrored (without_file image slot))
removed_at image None = Err NoFile

-- The image without the first file with the name `name`.
unfoldable pub file_removed : List ℕ → List ℕ → Result (List ℕ) VolumeFault
file_removed image name = removed_at image (slot_named (directory_of image) name)

-- The image without the file in directory slot `slot`.
unfoldable pub slot_removed : List ℕ → ℕ → Result (List ℕ) VolumeFault
slot_removed image slot = removed_at image (slot_numbered (directory_of image) slot)

abbrev pub renamed_at : List ℕ → List ℕ → Result ℕ VolumeFault → Result (List ℕ) VolumeFault
renamed_at image name (Ok slot) = Ok (mirrored (with_name image slot name))
renamed_at image name (Err fault) = Err fault

-- The image in which the first file with the name `old` has the name `new`.
unfoldable pub renamed : List ℕ → List ℕ → List ℕ → Result (List ℕ) VolumeFault
renamed image old new =
    renamed_at image new (slot_to_rename (directory_of image) (slot_named (directory_of image) old) new)

-- The image in which the file in directory slot `slot` has the name `new`.
unfoldable pub slot_renamed : List ℕ → ℕ → List ℕ → Result (List ℕ) VolumeFault
slot_renamed image slot new =
    renamed_at image new (slot_to_rename (directory_of image) (slot_numbered (directory_of image) slot) new)

abbrev pub kind_set_at : List ℕ → ℕ → Option ℕ → Result (List ℕ) VolumeFault
kind_set_at image kind (Some slot) = Ok (mirrored (with_kind image slot kind))
kind_set_at image kind None = Err NoFile

-- The image in which the first file with the name `name` has the kind `kind`.
unfoldable pub kind_set : List ℕ → List ℕ → ℕ → Result (List ℕ) VolumeFault
kind_set image name kind = kind_set_at image kind (slot_named (directory_of image) name)

-- The image in which the file in directory slot `slot` has the kind `kind`.
unfoldable pub slot_kind_set : List ℕ → ℕ → ℕ → Result (List ℕ) VolumeFault
slot_kind_set image slot kind = kind_set_at image kind (slot_numbered (directory_of image) slot)

-- The image with a new directory that has the name `name` and no files.
unfoldable pub zeroed : List ℕ → List ℕ → Result (List ℕ) VolumeFault
zeroed image name = if is_new_name LONGEST_VOLUME_NAME name then Ok (zeroed_image image name) else Err BadName

-- The image whose header states that files begin at block `past`.
abbrev pub begun_at : List ℕ → ℕ → List ℕ
begun_at image past = with_directory image (with_word_in (directory_of image) HEADER_FILES_BEGIN past)

-- Is true if a file begins before block 10, the block after the second copy of the directory.
abbrev pub is_occupied : List ℕ → Bool
is_occupied image = list_any (λ (e : Entry). nat_lt e.first PAST_SECOND) (files_of image)

-- The image with a second copy of its directory in blocks 6 to 9.
unfoldable pub doubled : List ℕ → Result (List ℕ) VolumeFault
doubled image =
    if nat_lt (block_count (directory_of image)) PAST_SECOND then Err BadHeader
    else (if is_occupied image then Err Occupied else Ok (mirrored (begun_at image PAST_SECOND)))

-- The image without a second copy of its directory; the blocks of the copy are zero. An image without a second copy is
-- unchanged.
unfoldable pub singled : List ℕ → List ℕ
singled image =
    if has_second image then written (begun_at image PAST_DIRECTORY) SECOND (zeros DIRECTORY_SIZE) else image
