-- The locks of files at paths.
use Rattle.std.specs.Prelude.{ℕ, Bool, true, false, List, Option, None, Some}
use Rattle.pm_files.specs.Held.{Locks, held_too}

-- Returns the locks `held` together with the lock of the file at the path, if there is a path.
abbrev pub held_at : Option (List ℕ) → Locks → Locks
held_at None held = held
held_at (Some path) held = held_too path held

-- Returns the locks after a verb: `held`, and the lock of the file at `path` if the first argument is true.
abbrev pub held_by : Bool → List ℕ → Locks → Locks
held_by true path held = held_too path held
held_by false path held = held
