use Rattle.std.proofs.Common.{◌≡◌, ◌++◌, drop}
use Rattle.pm_undelete.specs.Lines.{lines_of}
use Rattle.pm_undelete.proofs.lines.lines_of.Given as goal

-- The lines so far, and those of the remaining candidates, are together all lines.
abbrev pub invariant-loop-candidate : goal.invariant-loop-candidate
invariant-loop-candidate l = record {
  whole : l.text.items ++ lines_of (drop l.candidate-index l.candidates) ≡ lines_of l.candidates;
}
