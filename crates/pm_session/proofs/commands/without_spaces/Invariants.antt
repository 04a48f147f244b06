use Rattle.std.proofs.Common.{◌≡◌, ◌≤◌, length}
use Rattle.pm_session.specs.Words.{words_of_line}
use Rattle.pm_session.proofs.commands.without_spaces.Given as goal

-- The words of the rest are those of the line.
abbrev pub invariant-spaces : goal.invariant-spaces
invariant-spaces l = record {
  words : words_of_line l.rest ≡ words_of_line l.line;
  shorter : length l.rest ≤ length l.line;
}

abbrev pub decreases-spaces : goal.decreases-spaces
decreases-spaces l = length l.rest
