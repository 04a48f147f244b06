-- The files of a volume that a folder gets when it is filled.
use Rattle.std.specs.Prelude.{◌≡◌, ◌⊎◌, ℕ, List, [], ◌∷◌, ◌++◌, codes, map, string_bytes}
use Rattle.pm_export.specs.declared.fill.Unwritten.{Unwritten}
use Rattle.pm_files.specs.Folders.{AddsFile, IsEmptyFolder}
use Rattle.pm_files.specs.Held.{Files}
use Rattle.pm_folder.specs.Folder.{HostFile, first_line}

-- Returns the names of the files that could not be written.
abbrev pub names_of : List Unwritten → List (List ℕ)
names_of unwritten = map (λ u. string_bytes u.host) unwritten

-- Each of the files, in their order, has one of two results. Either the file is added to the folder, and its line is
-- appended to the text; or its name is appended to the names of the files that could not be written. The folder changes
-- from `old` to `new`, the text from `before` to `text`, and the names from `earlier` to `names`.
abbrev pub Adds : Files → Files → List HostFile → List ℕ → List ℕ → List (List ℕ) → List (List ℕ) → Type 0
Adds old new [] before text earlier names = (new ≡ old) × (text ≡ before) × (names ≡ earlier)
Adds old new (f ∷ files) before text earlier names =
    ((next : Files) × AddsFile old next f.host f.contents × Adds next new files (before ++ f.line) text earlier names)
    ⊎ Adds old new files before text (earlier ++ f.host ∷ []) names

-- Either the file `host` is added to the folder with the contents `contents`; or the folder is unchanged, and `host` is
-- appended to the names.
abbrev pub AddsOne : Files → Files → List ℕ → List ℕ → List (List ℕ) → List (List ℕ) → Type 0
AddsOne old new host contents earlier names =
    (AddsFile old new host contents × (names ≡ earlier)) ⊎ ((new ≡ old) × (names ≡ earlier ++ host ∷ []))

-- Each of `files`, the files of the volume in `image`, is either added to an empty folder or named in `names`. Then the
-- file LIST is either added or named too. It has the lines of the files that were added, after a line for `image`.
abbrev pub FillsFolder : Files → List ℕ → List HostFile → List (List ℕ) → Type 0
FillsFolder new image files names = (empty : Files) × (filled : Files) × (list : List ℕ) × (earlier : List (List ℕ))
    × IsEmptyFolder empty × Adds empty filled files (first_line image) list [] earlier
    × AddsOne filled new (codes "LIST") list earlier names

-- Some of the files, in their order, are added to the folder.
abbrev pub AddsSome : Files → Files → List HostFile → Type 0
AddsSome old new [] = new ≡ old
AddsSome old new (f ∷ files) = ((next : Files) × AddsFile old next f.host f.contents × AddsSome next new files)
    ⊎ AddsSome old new files

-- The folder after a failed attempt to fill it with `files`. Either no folder was created, or the new folder has some
-- of the files, each of them whole.
abbrev pub IsBrokenOff : Files → Files → List HostFile → Type 0
IsBrokenOff old new files = (new ≡ old) ⊎ ((empty : Files) × IsEmptyFolder empty × AddsSome empty new files)
