use Rattle.std.proofs.Common.{◌≡◌, max, true, drop, map}
use Rattle.pm_disasm.specs.Follow.{written_by}
use Rattle.pm_code.specs.Program.{entries_needed}
use Rattle.pm_disasm.specs.Views.{has, part_seen}
use Rattle.pm_disasm.proofs.written.entries_needed.Given as goal

-- The maximum of `needed` and the number for the remaining parts is the number for all parts.
abbrev pub invariant-loop-part : goal.invariant-loop-part
invariant-loop-part l =
    max l.needed (entries_needed (written_by (has l.boundaries) true (map part_seen (drop l.part-index l.parts))))
    ≡ entries_needed (written_by (has l.boundaries) true (map part_seen l.parts))
