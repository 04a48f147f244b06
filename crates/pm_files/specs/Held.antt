-- The contents of files, by their paths, and the paths of the locked files. `None` means that the contents or the locks
-- are not known.
use Rattle.std.specs.Prelude.{◌≡◌, ◌≢◌, ◌∷◌, ◌++◌, ℕ, List, [], ⊤, Option, None, Some}

-- The contents of the files, if they are known: a function from paths to bytes. It returns None for a path without a
-- file.
abbrev pub Files : Type 0
Files = Option (List ℕ → Option (List ℕ))

-- The file at `path` contains `bytes`, if the contents are known.
abbrev pub HoldsFile : Files → List ℕ → List ℕ → Type 0
HoldsFile None path bytes = ⊤
HoldsFile (Some files) path bytes = files path ≡ Some bytes

-- No file exists at `path`, if the contents are known.
abbrev pub HoldsNone : Files → List ℕ → Type 0
HoldsNone None path = ⊤
HoldsNone (Some files) path = files path ≡ None

-- The file at `path` now contains `bytes`. The file at each other path is unchanged. Nothing is stated if the old
-- contents are not known.
abbrev pub Puts : Files → Files → List ℕ → List ℕ → Type 0
Puts None new path bytes = ⊤
Puts (Some files) None path bytes = ⊥
Puts (Some files) (Some after) path bytes = (after path ≡ Some bytes)
    × ((other : List ℕ) → other ≢ path → after other ≡ files other)

-- If bytes to save are given, the file at `path` now contains them. The files at all other paths are unchanged.
abbrev pub Saves : Files → Files → List ℕ → Option (List ℕ) → Type 0
Saves old new path None = new ≡ old
Saves old new path (Some bytes) = Puts old new path bytes

-- The paths of the locked files, in the order in which they were locked, if they are known.
abbrev pub Locks : Type 0
Locks = Option (List (List ℕ))

-- Returns the locks after the file at `path` was locked in addition.
abbrev pub held_too : List ℕ → Locks → Locks
held_too path None = None
held_too path (Some held) = Some (held ++ (path ∷ []))
