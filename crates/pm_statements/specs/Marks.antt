-- A set of marked offsets.
use Rattle.std.specs.Prelude.{◌≡◌, ℕ, ◌-◌, Bool, false, ◌&&◌, nat_le, nat_lt, if◌then◌else◌, List, length}
use Rattle.std.specs.Prelude.{slice_index_or}
use Rattle.pm_code.specs.Program.{is_among}

-- A set of offsets. It has a flag for each offset from `start` on, and a list of the marked offsets that have no flag.
pub record Marks : Type 0 where
  pub start : ℕ
  pub flags : List Bool
  pub others : List ℕ

abbrev pub has_flag : Marks → ℕ → Bool
has_flag m place = nat_le m.start place && nat_lt (place - m.start) (length m.flags)

-- Is true if the set `m` contains the offset `place`.
unfoldable pub has : Marks → ℕ → Bool
has m place =
    if has_flag m place then slice_index_or m.flags (place - m.start) false else is_among m.others place

-- The set `m` contains exactly the offsets `places`.
abbrev pub AreMarked : Marks → List ℕ → Type 0
AreMarked m places = (p : ℕ) → has m p ≡ is_among places p
