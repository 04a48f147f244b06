use Rattle.std.proofs.Common.{◌≡◌, ℕ, drop, map}
use Rattle.std.specs.Prelude.{◌||◌}
use Rattle.pm_code.specs.Program.{is_among}
use Rattle.pm_code.specs.Views.{placed_item}
use Rattle.pm_statements.specs.BlockLabels.{table_places}
use Rattle.pm_statements.specs.Marks.{has}
use Rattle.pm_statements.proofs.block_labels.mark_tables.Given as goal

-- The offsets that are marked so far, and the offsets of the remaining items, are all offsets.
abbrev pub invariant-loop-item : goal.invariant-loop-item
invariant-loop-item l =
    (p : ℕ) → (has l.marks p || is_among (table_places (map placed_item (drop l.item-index l.items))) p)
    ≡ (has l.fn.marks p || is_among (table_places (map placed_item l.items)) p)
