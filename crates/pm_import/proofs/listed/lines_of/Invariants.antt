use Rattle.std.proofs.Common.{◌≡◌, ◌++◌, length, map}
use Rattle.pm_import.specs.Listed.{lines_of}
use Rattle.pm_import.proofs.listed.lines_of.Given as goal

-- The lines so far, followed by those of the rest, are all lines.
abbrev pub invariant-loop-line : goal.invariant-loop-line
invariant-loop-line l = map (λ line. line.now) l.lines.items ++ lines_of l.rest ≡ lines_of l.text

abbrev pub decreases-loop-line : goal.decreases-loop-line
decreases-loop-line l = length l.rest
