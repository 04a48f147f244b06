-- The names that salvaged files and the new volume get.
use Rattle.std.specs.Prelude.{ℕ, zero, suc, ◌+◌, ◌==◌, List, ◌∷◌, ◌++◌, codes, length, map, take}
use Rattle.std.specs.Prelude.{if◌then◌else◌}
use Rattle.std.specs.Char.{to_ascii_uppercase}
use Rattle.std.specs.Option.{is_none}
use Rattle.pm_bytes.specs.Decimals.{padded}
use Rattle.pm_volume.specs.Files.{file_named}
use Rattle.pm_volume.specs.Names.{is_new_name_character}

-- The character `c` in upper case, or `-` if a new name cannot contain `c`.
abbrev pub good_character : ℕ → ℕ
good_character c = if is_new_name_character c then to_ascii_uppercase c else 45

unfoldable pub good_name : List ℕ → List ℕ
good_name name = map good_character name

-- The name `name` cut to 12 characters, with a period and the number `n` after it. If `n` is 0, the whole name without
-- a number. Each character is converted by `good_character`.
unfoldable pub numbered : List ℕ → ℕ → List ℕ
numbered name n = if n == 0 then good_name name else good_name (take 12 name) ++ (46 ∷ padded 2 n)

-- The first name with one of the given number of numbers, from `n` on, that no file of `volume` has. If files have all
-- of these names, the name with the next number.
unfoldable pub free_from : List ℕ → List ℕ → ℕ → ℕ → List ℕ
free_from volume name n zero = numbered name n
free_from volume name n (suc left) =
    if is_none (file_named volume (numbered name n)) then numbered name n else free_from volume name (n + 1) left

-- The name of the copy of a file with the name `name`.
abbrev pub free_name : List ℕ → List ℕ → List ℕ
free_name volume name = free_from volume name 0 77

-- The name of the new volume: the name `name` of the old header in valid characters, or `SALVAGE` if `name` is empty.
unfoldable pub volume_name : List ℕ → List ℕ
volume_name name = if length name == 0 then codes "SALVAGE" else good_name name
