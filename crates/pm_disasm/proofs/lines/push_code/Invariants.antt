use Rattle.std.proofs.Common.{◌≡◌, ◌++◌, ℕ, drop, map, string_bytes}
use Rattle.pm_disasm.specs.Follow.{Follow, code_lines_by, written_by}
use Rattle.pm_code.specs.Shown.{joined}
use Rattle.pm_disasm.specs.Views.{has, part_seen}
use Rattle.pm_disasm.proofs.lines.push_code.Given as goal

-- The remaining parts follow the parts up to here. The written text, followed by their lines, is the whole text.
abbrev pub invariant-loop-part : goal.invariant-loop-part
invariant-loop-part l =
    (at : ℕ) × Follow at l.end (map part_seen (drop l.part-index l.parts))
    × (string_bytes l.text ++ joined (code_lines_by (has l.marks.named.now) l.marks.exit at
    (written_by (has l.boundaries) l.allowed (map part_seen (drop l.part-index l.parts))))
    ≡ string_bytes l.fn.text ++ joined (code_lines_by (has l.marks.named.now) l.marks.exit l.boundaries.begin
    (written_by (has l.boundaries) l.allowed (map part_seen l.parts))))
