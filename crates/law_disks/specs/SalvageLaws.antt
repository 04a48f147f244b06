-- Laws of the files in a volume that `salvage` creates.
use Rattle.std.specs.Prelude.{◌≡◌, ◌<◌, ℕ, true, Bool, List, map, is_some, Some, Ok}
use Rattle.std.specs.List.{All, AllZip, IsDistinct}
use Rattle.std.specs.List.Sorted.{IsPermutation}
use Rattle.std.specs.Str.{bytes_eq}
use Rattle.pm_volume.specs.Files.{file_bytes, file_named, files_of}
use Rattle.pm_volume.specs.Names.{characters_of, is_same_name}
use Rattle.pm_volume.specs.declared.entry.Entry.{Entry}
use Rattle.pm_check.specs.Contents.{believed_of}
use Rattle.pm_check.specs.Naming.{good_name, numbered}
use Rattle.pm_check.specs.Saving.{Saved, salvaged}

-- The file `f` of `volume` is the file of the entry `e` of `image`: it has the kind and the date of `e`, and the bytes
-- that `e` has in `image`. Its name is the name of `e`, made valid, with a number. The number 0 adds nothing to the
-- name. For each lower number, a file of `volume` has the name with the lower number.
pub record IsFileOf (image volume : List ℕ) (e f : Entry) : Type 0 where
  pub kind : f.kind ≡ e.kind
  pub date : f.date ≡ e.date
  pub contents : List ℕ
  pub had : file_bytes image e ≡ Some contents
  pub has : file_bytes volume f ≡ Some contents
  pub number : ℕ
  pub name : characters_of f.name ≡ numbered (characters_of e.name) number
  pub lowest : (other : ℕ) → other < number
      → is_some (file_named volume (numbered (characters_of e.name) other)) ≡ true

-- Returns the characters of the name of the entry `f`.
abbrev pub name_of : Entry → List ℕ
name_of f = characters_of f.name

-- Returns the name of the entry `e`, made valid.
abbrev pub own_name : Entry → List ℕ
own_name e = good_name (name_of e)

-- Is true if the file `f` has the name of the entry `e`, made valid, without a number.
abbrev pub HasOwnName : Entry → Entry → Type 0
HasOwnName e f = name_of f ≡ own_name e

-- The files of `volume` are, in some order, the files of the `entries` of `image`: one file for each entry. No two
-- files have the same name, even if upper and lower case are considered equal. If the names of the entries, made valid,
-- all differ, then each file has the name of its entry without a number.
pub record HasFileOfEach (image volume : List ℕ) (entries : List Entry) : Type 0 where
  pub order : List Entry
  pub all : IsPermutation entries order
  pub files : AllZip (IsFileOf image volume) order (files_of volume)
  pub differ : IsDistinct is_same_name (map name_of (files_of volume))
  pub names : IsDistinct bytes_eq (map own_name entries) → AllZip HasOwnName order (files_of volume)

-- If `salvaged` creates a volume from an image whose elements are bytes, then the volume has one file for each entry
-- that is valid by itself in the selected copy of the directory.
abbrev pub EntriesAreSaved : Type 0
EntriesAreSaved = (image : List ℕ) (second : Bool) (s : Saved) → All (λ b. b < 256) image
    → salvaged image second ≡ Ok s → HasFileOfEach image s.volume (believed_of image second)
