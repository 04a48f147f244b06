use Rattle.std.proofs.Common.{◌≡◌, ◌++◌, drop, map}
use Rattle.pm_code.specs.Views.{placed_item}
use Rattle.pm_disasm.specs.Follow.{written_by}
use Rattle.pm_disasm.specs.Views.{has, part_seen}
use Rattle.pm_disasm.proofs.items.items_of.Given as goal

-- The items up to here, followed by those of the remaining parts, are all items.
abbrev pub invariant-loop-part : goal.invariant-loop-part
invariant-loop-part l =
    map placed_item l.items.items ++ written_by (has l.boundaries) l.allowed (map part_seen (drop l.part-index l.parts))
    ≡ written_by (has l.boundaries) l.allowed (map part_seen l.parts)
