-- Name patterns, and the files whose names match a pattern.
use Rattle.std.specs.Prelude.{◌==◌, ◌&&◌, Bool, false, nat_le, ℕ, zero, suc, ◌+◌, ◌-◌, List, drop, length, take, Option}
use Rattle.std.specs.Prelude.{Some, None, Result, Ok, Err, if◌then◌else◌, slice_get}
use Rattle.std.specs.List.{list_any, filter, position}
use Rattle.pm_volume.specs.Files.{files_of}
use Rattle.pm_volume.specs.Made.{slot_removed}
use Rattle.pm_volume.specs.Names.{characters_of, is_same_name}
use Rattle.pm_volume.specs.declared.entry.Entry.{Entry}
use Rattle.pm_volume.specs.declared.fault.VolumeFault.{VolumeFault}
use Rattle.pm_volume.specs.declared.fault.VolumeFault.TheVariants.{NoFile}

-- Is true if `name` begins with `begin` and ends with `end`, and the two do not overlap in `name`. Case is ignored.
abbrev pub is_around : List ℕ → List ℕ → List ℕ → Bool
is_around begin end name =
    nat_le (length begin + length end) (length name) && (is_same_name begin (take (length begin) name)
    && is_same_name end (drop (length name - length end) name))

abbrev pub fits_at : Option ℕ → List ℕ → List ℕ → Bool
fits_at (Some place) pattern name = is_around (take place pattern) (drop (place + 1) pattern) name
fits_at None pattern name = is_same_name pattern name

-- Is true if `name` matches `pattern`. The name must begin with the characters before the first equals sign of the
-- pattern, and end with those after it. A pattern without an equals sign matches only the equal name. Case is ignored.
unfoldable pub fits : List ℕ → List ℕ → Bool
fits pattern name = fits_at (position (λ c. c == 61) pattern) pattern name

-- Is true if the name of the file of the entry `e` matches `pattern`.
abbrev pub is_fitting : List ℕ → Entry → Bool
is_fitting pattern e = fits pattern (characters_of e.name)

-- The entries of the files of `image` whose names match `pattern`, in block order.
abbrev pub fitting_files : List ℕ → List ℕ → List Entry
fitting_files image pattern = filter (is_fitting pattern) (files_of image)

-- Is true if the given entry exists, and the name of its file matches `pattern`.
abbrev pub is_fitting_there : List ℕ → Option Entry → Bool
is_fitting_there pattern None = false
is_fitting_there pattern (Some e) = is_fitting pattern e

-- The image after a change, or the old image if the change is refused.
abbrev pub changed_or : List ℕ → Result (List ℕ) VolumeFault → List ℕ
changed_or image (Ok new) = new
changed_or image (Err fault) = image

-- The image without the file that has `before` files before it, if its name matches `pattern`.
abbrev pub without_fitting : List ℕ → ℕ → List ℕ → List ℕ
without_fitting pattern before image =
    if is_fitting_there pattern (slice_get (files_of image) before)
    then changed_or image (slot_removed image (before + 1)) else image

-- The image without those of its first files, of the given number, whose names match `pattern`. The last file is
-- removed first.
abbrev pub without_first : List ℕ → ℕ → List ℕ → List ℕ
without_first pattern zero image = image
without_first pattern (suc before) image = without_first pattern before (without_fitting pattern before image)

-- The image without the files whose names match `pattern`, or `NoFile` if no name matches.
unfoldable pub fitting_removed : List ℕ → List ℕ → Result (List ℕ) VolumeFault
fitting_removed image pattern =
    if list_any (is_fitting pattern) (files_of image) then Ok (without_first pattern (length (files_of image)) image)
    else Err NoFile
