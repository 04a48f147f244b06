-- A table of labels.
use Rattle.std.specs.Prelude.{◌≡◌, ℕ, List, map}
use Rattle.std.specs.Borrow.{Bor}
use Rattle.std.specs.BTreeMap.{BTreeMap, get_by}
use Rattle.std.specs.Cmp.Lexicographic.{slice_cmp}
use Rattle.std.specs.Ordering.{nat_cmp}
use Rattle.pm_line.specs.declared.item.Row.{Row}
use Rattle.pm_line.specs.Views.{row_seen}
use Rattle.pm_source.specs.Faults.{place_of}

-- Is true if `table` contains exactly the labels of the lines `rows`, with their offsets. The code begins at offset
-- `start`.
abbrev pub IsTable : BTreeMap (Bor (List ℕ)) ℕ → ℕ → List Row → Type 0
IsTable table start rows = (name : List ℕ)
    → get_by (λ key. slice_cmp nat_cmp name key.now) table ≡ place_of start (map row_seen rows) name
