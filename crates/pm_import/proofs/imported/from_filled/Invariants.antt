use Rattle.std.proofs.Common.{◌≡◌, ◌≤◌, length, map}
use Rattle.pm_import.specs.Imported.{from_filled}
use Rattle.pm_import.proofs.imported.from_filled.Given as goal

-- The remaining lines have the same first line that is not empty. There are not more of them.
abbrev pub invariant-loop-rest : goal.invariant-loop-rest
invariant-loop-rest l =
    (from_filled (map (λ line. line.now) l.rest) ≡ from_filled (map (λ line. line.now) l.lines)) × (length l.rest ≤ length l.lines)

abbrev pub decreases-loop-rest : goal.decreases-loop-rest
decreases-loop-rest l = length l.rest
