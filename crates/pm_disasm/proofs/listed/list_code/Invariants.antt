use Rattle.std.proofs.Common.{◌≡◌, ◌++◌, ℕ, drop, map, string_bytes}
use Rattle.pm_code.specs.Image.{listed_lines}
use Rattle.pm_disasm.specs.Follow.{Follow, written_by}
use Rattle.pm_disasm.specs.Listing.{stored_items}
use Rattle.pm_disasm.specs.Views.{has, part_seen}
use Rattle.pm_disasm.proofs.listed.list_code.Given as goal

-- The remaining parts follow the parts up to here. The written text, followed by their lines, is the whole text.
abbrev pub invariant-loop-part : goal.invariant-loop-part
invariant-loop-part l =
    (at : ℕ) × Follow at l.end (map part_seen (drop l.part-index l.code.parts.items))
    × (string_bytes l.text ++ listed_lines l.from.slot (stored_items l.from.segment.now l.from.procedure at
    (written_by (has l.code.boundaries) l.allowed (map part_seen (drop l.part-index l.code.parts.items))))
    ≡ string_bytes l.fn.text ++ listed_lines l.from.slot (stored_items l.from.segment.now l.from.procedure l.code.boundaries.begin
    (written_by (has l.code.boundaries) l.allowed (map part_seen l.code.parts.items))))
