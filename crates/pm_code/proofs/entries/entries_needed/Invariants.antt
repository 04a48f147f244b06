use Rattle.std.proofs.Common.{◌≡◌, drop, map, max}
use Rattle.pm_code.specs.Program.{entries_needed}
use Rattle.pm_code.specs.Views.{item_seen}
use Rattle.pm_code.proofs.entries.entries_needed.Given as goal

-- The maximum of `most` and the entries that the remaining items need is the number of entries that all items need.
abbrev pub invariant-loop-item : goal.invariant-loop-item
invariant-loop-item g l =
    max l.most (entries_needed (map (item_seen (λ p. p)) (drop l.item-index l.items))) ≡ entries_needed (map (item_seen (λ p. p)) l.items)
