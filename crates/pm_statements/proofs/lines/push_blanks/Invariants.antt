use Rattle.std.proofs.Common.{◌≡◌, ◌++◌, string_bytes}
use Rattle.pm_statements.specs.Texts.{blanks, two_each}
use Rattle.pm_statements.proofs.lines.push_blanks.Given as goal

-- The spaces so far, followed by the spaces of the remaining levels, are all spaces.
abbrev pub invariant-loop-rest : goal.invariant-loop-rest
invariant-loop-rest l = string_bytes l.out ++ two_each l.rest ≡ string_bytes l.fn.out ++ blanks l.fn.depth

-- The number of remaining levels decreases in each iteration.
abbrev pub decreases-loop-rest : goal.decreases-loop-rest
decreases-loop-rest l = l.rest
