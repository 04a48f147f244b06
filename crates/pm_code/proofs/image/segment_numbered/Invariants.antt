use Rattle.std.proofs.Common.{◌≡◌, drop}
use Rattle.pm_code.specs.Program.{segment_numbered}
use Rattle.pm_code.specs.Views.{program_seen}
use Rattle.pm_code.proofs.image.segment_numbered.Given as goal

-- The search in the remaining segments gives the same result as the search in all segments.
abbrev pub invariant-loop-segment : goal.invariant-loop-segment
invariant-loop-segment l =
    segment_numbered l.number (program_seen (drop l.segment-index l.program)) ≡ segment_numbered l.number (program_seen l.program)
