use Rattle.std.proofs.Common.{◌≡◌, ◌+◌, ◌++◌, drop, map, string_bytes}
use Rattle.pm_code.specs.Image.{listed_lines}
use Rattle.pm_code.specs.Item.Item.{OneByte}
use Rattle.pm_disasm.specs.Follow.{Items}
use Rattle.pm_disasm.specs.Listing.{stored_items}
use Rattle.pm_disasm.proofs.listed.list_bytes.Given as goal

-- The written text, followed by the lines of the remaining bytes, is the whole text.
abbrev pub invariant-loop-byte : goal.invariant-loop-byte
invariant-loop-byte l = record {
  place : l.place ≡ l.at + l.byte-index;
  written : (rest : Items) → string_bytes l.text ++ listed_lines l.from.slot
      (stored_items l.from.segment.now l.from.procedure l.place (map OneByte (drop l.byte-index l.bytes) ++ rest))
      ≡ string_bytes l.fn.text ++ listed_lines l.from.slot
      (stored_items l.from.segment.now l.from.procedure l.at (map OneByte l.bytes ++ rest));
}
