use Rattle.std.proofs.Common.{◌≡◌, ℕ, List, map}
use Rattle.std.specs.BTreeMap.{get_by}
use Rattle.std.specs.Cmp.Lexicographic.{slice_cmp}
use Rattle.std.specs.Ordering.{nat_cmp}
use Rattle.pm_line.specs.Views.{row_seen}
use Rattle.pm_source.specs.Faults.{place_of}
use Rattle.pm_asm.proofs.Tables.{left, or_else}
use Rattle.pm_asm.proofs.table.table_of.Given as goal

-- The offset of a label is in the table, or else it is in the remaining rows.
abbrev pub invariant-loop-row : goal.invariant-loop-row
invariant-loop-row l =
    (name : List ℕ) → or_else (get_by (λ key. slice_cmp nat_cmp name key.now) l.table) (left l.at l.row-index l.rows name)
    ≡ place_of l.start (map row_seen l.rows) name
