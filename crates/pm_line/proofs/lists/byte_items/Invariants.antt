use Rattle.std.proofs.Common.{◌≡◌, ◌++◌, map, drop}
use Rattle.pm_code.specs.Item.Item.{OneByte}
use Rattle.pm_line.specs.Views.{items_seen}
use Rattle.pm_line.proofs.lists.byte_items.Given as goal

-- The items so far, followed by the items of the remaining bytes, are all items.
abbrev pub invariant-loop-byte : goal.invariant-loop-byte
invariant-loop-byte l = items_seen l.items ++ map OneByte (drop l.byte-index l.bytes) ≡ map OneByte l.bytes
