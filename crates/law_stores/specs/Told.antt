-- The contents of a store in memory, as functions from a path to the bytes of a file. `told` is for a store with one
-- file.
use Rattle.std.specs.Prelude.{ℕ, List, Option, None, if◌then◌else◌}
use Rattle.std.specs.Str.{bytes_eq}

abbrev pub told : List ℕ → Option (List ℕ) → List ℕ → Option (List ℕ)
told name bytes path = if bytes_eq path name then bytes else None

-- Returns the contents of the file at `path` in a store with two files.
abbrev pub told_first : List ℕ → Option (List ℕ) → List ℕ → Option (List ℕ) → List ℕ → Option (List ℕ)
told_first first bytes second others path = if bytes_eq path first then bytes else told second others path
