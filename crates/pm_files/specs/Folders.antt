-- The contents of the files of a folder, by their names. `None` means that the contents are not known.
use Rattle.std.specs.Prelude.{◌≡◌, ◌≢◌, ◌⊎◌, ◌<◌, ℕ, List, [], ◌∷◌, ◌++◌, ⊤, Option, None, Some, length}
use Rattle.std.specs.List.{All}
use Rattle.pm_files.specs.Held.{Files}
use Rattle.pm_files.specs.declared.fault.DiskFault.{DiskFault}
use Rattle.pm_files.specs.declared.fault.DiskFault.TheVariants.{NoMemory}
use Rattle.pm_files.specs.declared.image.TheConstants.{IMAGE_LIMIT}

-- The folder has no files, if its contents are known.
abbrev pub IsEmptyFolder : Files → Type 0
IsEmptyFolder None = ⊤
IsEmptyFolder (Some files) = (name : List ℕ) → files name ≡ None

-- The file `name`, which did not exist, was created with the contents `bytes`. All other files are unchanged. If the
-- old contents are not known, then only one thing is stated: the new contents are not known either.
abbrev pub AddsFile : Files → Files → List ℕ → List ℕ → Type 0
AddsFile None None name bytes = ⊤
AddsFile None (Some after) name bytes = ⊥
AddsFile (Some files) None name bytes = ⊥
AddsFile (Some files) (Some after) name bytes = (files name ≡ None) × (after name ≡ Some bytes)
    × ((other : List ℕ) → other ≢ name → after other ≡ files other)

-- The folder was created or opened at this path.
abbrev pub IsAt : Option (List ℕ) → List ℕ → Type 0
IsAt None path = ⊤
IsAt (Some at) path = at ≡ path

-- A read of a file fails only if the file does not exist, if it has more than 33,554,432 bytes, or if memory runs out.
abbrev pub MayFail : Files → List ℕ → DiskFault → Type 0
MayFail None name fault = ⊤
MayFail (Some files) name fault = (files name ≡ None) ⊎ ((fault ≡ NoMemory)
    ⊎ ((bytes : List ℕ) × (files name ≡ Some bytes) × (IMAGE_LIMIT < length bytes)))

-- The bytes are the name of a file.
abbrev pub IsName : (List ℕ → Option (List ℕ)) → List ℕ → Type 0
IsName files name = (bytes : List ℕ) × (files name ≡ Some bytes)

-- The name does not begin with a full stop.
abbrev pub IsShownName : List ℕ → Type 0
IsShownName [] = ⊤
IsShownName (c ∷ rest) = c ≢ 46

-- The list has the name of each file of the folder that does not begin with a full stop, and no other bytes.
abbrev pub HasNames : Files → List (List ℕ) → Type 0
HasNames None names = ⊤
HasNames (Some files) names = All (IsName files) names × ((name : List ℕ) → IsName files name → IsShownName name
    → (before after : List (List ℕ)) × (names ≡ before ++ name ∷ after))
