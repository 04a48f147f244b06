-- Salvage: a new volume with the files of a damaged image.
use Rattle.std.specs.Prelude.{◌≡◌, ℕ, ◌+◌, ◌/◌, Bool, nat_lt, List, [], ◌∷◌, ◌++◌, length, max, min, Option, None, Some}
use Rattle.std.specs.Prelude.{Result, Ok, Err, if◌then◌else◌}
use Rattle.std.specs.List.{flat_map}
use Rattle.pm_bytes.specs.declared.blocks.TheConstants.{BLOCK}
use Rattle.pm_check.specs.Notes.{header_name}
use Rattle.pm_volume.specs.Directory.{directory_of, file_count, second_of}
use Rattle.pm_volume.specs.Files.{bytes_of}
use Rattle.pm_volume.specs.Headers.{blank_fault, blank_image}
use Rattle.pm_volume.specs.Made.{added}
use Rattle.pm_volume.specs.Names.{characters_of}
use Rattle.pm_volume.specs.declared.entry.Entry.{Entry}
use Rattle.pm_volume.specs.declared.fault.VolumeFault.{VolumeFault}
use Rattle.pm_volume.specs.declared.fault.VolumeFault.TheVariants.{TooShort}
use Rattle.pm_volume.specs.declared.fields.TheConstants.{DIRECTORY_END, PAST_DIRECTORY, PAST_SECOND, SECOND_END}
use Rattle.pm_check.specs.Believing.{blocks_of, left_from, sharing, taken_from}
use Rattle.pm_check.specs.Naming.{free_name, volume_name}
use Rattle.pm_check.specs.Report.{counted, doubt_of, last_line, left_line, taken_line}
use Rattle.pm_check.specs.declared.believing.Left.{Left}
use Rattle.pm_check.specs.declared.believing.Taken.{Taken}

-- ---- the files

-- The volume `volume` with the file of the entry `e` of `image` added. The new file has the kind, bytes and date of the
-- old one, and a name that no file of `volume` has.
unfoldable pub saved_one : List ℕ → List ℕ → Entry → Result (List ℕ) VolumeFault
saved_one image volume e =
    added volume (free_name volume (characters_of e.name)) e.kind (bytes_of image e) e.date

-- A volume, the text of the report, and the number of suspect files.
pub record Saved : Type 0 where
  pub volume : List ℕ
  pub text : List ℕ
  pub doubted : ℕ

-- The result of `next` for the volume, or the fault if no volume was created.
abbrev pub behind : Result (List ℕ) VolumeFault → (List ℕ → Result Saved VolumeFault) → Result Saved VolumeFault
behind (Ok volume) next = next volume
behind (Err fault) next = Err fault

-- The result after the files of the list are added to `s`, one after the other. `all` are all files to copy, and
-- `count` is the number of files that the header states.
unfoldable pub saved_from : List ℕ → List Taken → ℕ → List Taken → Saved → Result Saved VolumeFault
saved_from image all count [] s = Ok s
saved_from image all count (t ∷ ts) s =
    behind (saved_one image s.volume t.entry) (λ volume. saved_from image all count ts (record {
      volume = volume;
      text = s.text
          ++ taken_line t.slot (free_name s.volume (characters_of t.entry.name))
          (doubt_of count t.slot (sharing t all));
      doubted = counted s.doubted (doubt_of count t.slot (sharing t all));
    }))

-- ---- the volume

-- The number of blocks of the new volume: `blocks`, or more if the files of `taken` need more, but at most 65,535.
unfoldable pub room_for : ℕ → List Taken → ℕ
room_for blocks taken = min (max blocks (PAST_DIRECTORY + blocks_of taken)) 65535

-- A new volume with the name `name` and `blocks` blocks, or the fault for which it cannot be created.
abbrev pub blank : Option VolumeFault → List ℕ → ℕ → Result (List ℕ) VolumeFault
blank None name blocks = Ok (blank_image name blocks)
blank (Some fault) name blocks = Err fault

abbrev pub new_volume : List ℕ → ℕ → Result (List ℕ) VolumeFault
new_volume name blocks = blank (blank_fault name blocks) name blocks

-- The result with the last line of the report added. `files` files were copied, and `left` entries are invalid.
abbrev pub finished : ℕ → ℕ → Result Saved VolumeFault → Result Saved VolumeFault
finished files left (Ok s) = Ok (record {
  volume = s.volume;
  text = s.text ++ last_line files left s.doubted;
  doubted = s.doubted;
})
finished files left (Err fault) = Err fault

-- The new volume with the files of the entries `taken` of `image`, and the report.
unfoldable pub saved : List ℕ → List ℕ → ℕ → ℕ → List Taken → List Left → Result Saved VolumeFault
saved image name blocks count taken left =
    finished (length taken) (length left) (behind (new_volume name (room_for blocks taken)) (λ volume.
    saved_from image taken count taken
    (record { volume = volume; text = flat_map left_line left; doubted = 0 })))

-- The new volume with the files of the valid entries of the directory `d` of `image`. The image has `blocks` blocks,
-- and its files begin at block `lowest` or later.
unfoldable pub saved_by : List ℕ → List ℕ → ℕ → ℕ → Result Saved VolumeFault
saved_by image d lowest blocks =
    saved image (volume_name (header_name d)) blocks (file_count d) (taken_from d lowest blocks 1 77 [])
    (left_from d lowest blocks 1 77)

-- The number of whole blocks of `image`, at most 65,535.
abbrev pub image_blocks : List ℕ → ℕ
image_blocks image = min (length image / BLOCK) 65535

-- The new volume with the files of `image`. If `second` is true, the second copy of the directory is used, and
-- otherwise the first. The fault is `TooShort` if `image` is too short to have this copy.
unfoldable pub salvaged : List ℕ → Bool → Result Saved VolumeFault
salvaged image second =
    if second then (if nat_lt (length image) SECOND_END then Err TooShort
    else saved_by image (second_of image) PAST_SECOND (image_blocks image))
    else (if nat_lt (length image) DIRECTORY_END then Err TooShort
    else saved_by image (directory_of image) PAST_DIRECTORY (image_blocks image))

-- The image `image` and the text `text` are those of the result of a salvage.
abbrev pub IsSaved : List ℕ → List ℕ → Result Saved VolumeFault → Type 0
IsSaved image text (Ok s) = (image ≡ s.volume) × (text ≡ s.text)
IsSaved image text (Err fault) = ⊥
