use Rattle.std.proofs.Common.{◌≡◌, drop, map}
use Rattle.pm_code.specs.Program.{end_of}
use Rattle.pm_code.specs.Views.{item_seen}
use Rattle.pm_code.proofs.lengths.items_end.Given as goal

-- The remaining items, which begin at `end`, end at the offset at which all items end.
abbrev pub invariant-loop-item : goal.invariant-loop-item
invariant-loop-item g l = end_of l.end (map (item_seen (λ p. p)) (drop l.item-index l.items)) ≡ end_of l.at (map (item_seen (λ p. p)) l.items)
