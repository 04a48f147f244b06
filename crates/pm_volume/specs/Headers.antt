-- The header of a directory: a new directory without files, and a change of the last date.
use Rattle.std.specs.Prelude.{not, nat_lt, ℕ, ◌*◌, List, Option, Some, None, if◌then◌else◌}
use Rattle.pm_volume.specs.Directory.{block_count, directory_of, files_begin}
use Rattle.pm_volume.specs.Changes.{with_directory}
use Rattle.pm_volume.specs.Copies.{mirrored}
use Rattle.pm_volume.specs.Names.{is_new_name, name_field}
use Rattle.pm_volume.specs.Words.{with_word_in, word_in, written, zeros}
use Rattle.pm_volume.specs.declared.fault.VolumeFault.{VolumeFault}
use Rattle.pm_volume.specs.declared.fault.VolumeFault.TheVariants.{BadHeader, BadName}
use Rattle.pm_volume.specs.declared.fields.TheConstants.{DIRECTORY_SIZE, HEADER_BLOCKS, HEADER_DATE, HEADER_FILES_BEGIN}
use Rattle.pm_volume.specs.declared.fields.TheConstants.{HEADER_NAME, LONGEST_VOLUME_NAME, PAST_DIRECTORY}
use Rattle.pm_bytes.specs.declared.blocks.TheConstants.{BLOCK}

-- The last date that was set, as the header of `directory` states it.
abbrev pub last_date_of : List ℕ → ℕ
last_date_of directory = word_in directory HEADER_DATE

-- A directory without files. Its header states that files begin at block `past`, and the volume's name `name`, its
-- number of blocks `blocks` and its last date `date`. All other bytes are zero.
unfoldable pub new_directory : ℕ → List ℕ → ℕ → ℕ → List ℕ
new_directory past name blocks date =
    with_word_in
    (with_word_in
    (written (with_word_in (zeros DIRECTORY_SIZE) HEADER_FILES_BEGIN past) HEADER_NAME
    (name_field LONGEST_VOLUME_NAME name))
    HEADER_BLOCKS blocks)
    HEADER_DATE date

-- The image of a new volume with the name `name` and `blocks` blocks. All bytes are zero, except for the directory in
-- blocks 2 to 5.
abbrev pub blank_image : List ℕ → ℕ → List ℕ
blank_image name blocks = with_directory (zeros (BLOCK * blocks)) (new_directory PAST_DIRECTORY name blocks 0)

-- The fault for which a volume with the name `name` and `blocks` blocks cannot be created, or `None`.
unfoldable pub blank_fault : List ℕ → ℕ → Option VolumeFault
blank_fault name blocks =
    if not (is_new_name LONGEST_VOLUME_NAME name) then Some BadName
    else (if nat_lt blocks PAST_DIRECTORY then Some BadHeader else None)

-- The image with a new directory that has the name `name` and no files. The block at which files begin, the number of
-- blocks and the last date are unchanged.
abbrev pub zeroed_image : List ℕ → List ℕ → List ℕ
zeroed_image image name =
    let directory = directory_of image in
    mirrored (with_directory image
    (new_directory (files_begin directory) name (block_count directory) (last_date_of directory)))

-- The image with the last date `date`.
abbrev pub dated_image : List ℕ → ℕ → List ℕ
dated_image image date = mirrored (with_directory image (with_word_in (directory_of image) HEADER_DATE date))
