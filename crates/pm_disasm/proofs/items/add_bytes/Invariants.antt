use Rattle.std.proofs.Common.{◌≡◌, ◌++◌, drop, map}
use Rattle.pm_code.specs.Item.Item.{OneByte}
use Rattle.pm_code.specs.Views.{placed_item}
use Rattle.pm_disasm.proofs.items.add_bytes.Given as goal

-- The items up to here, followed by those of the remaining bytes, are all items.
abbrev pub invariant-loop-byte : goal.invariant-loop-byte
invariant-loop-byte l =
    map placed_item l.items.items ++ map OneByte (drop l.byte-index l.bytes) ≡ map placed_item l.fn.items.items ++ map OneByte l.bytes
