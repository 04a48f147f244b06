use Rattle.std.proofs.Common.{◌≡◌, drop}
use Rattle.pm_source.specs.Words.{unindented}
use Rattle.pm_line.proofs.words.unindented.Given as goal

-- The first `i` characters are spaces and tabs.
abbrev pub invariant-loop-i : goal.invariant-loop-i
invariant-loop-i l = unindented (drop l.i l.text) ≡ unindented l.text
