use Rattle.std.proofs.Common.{◌≡◌, length, reverse}
use Rattle.pm_statements.specs.Depths.{open_at}
use Rattle.pm_statements.proofs.spans.close_ended.Given as goal

-- The removed spans do not change which spans are open at `at`.
abbrev pub invariant-spans : goal.invariant-spans
invariant-spans l = open_at l.at (reverse l.ends.items) ≡ open_at l.at (reverse l.fn.ends.items)

abbrev pub decreases-spans : goal.decreases-spans
decreases-spans l = length l.ends.items
