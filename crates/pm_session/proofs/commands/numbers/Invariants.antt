use Rattle.std.proofs.Common.{◌≡◌, ◌≤◌, ◌-◌, length}
use Rattle.pm_session.specs.Commands.{numbers}
use Rattle.pm_session.specs.Words.{words_of_line}
use Rattle.pm_session.proofs.CommandLaws.{behind}
use Rattle.pm_session.proofs.commands.numbers.Given as goal

-- The numbers up to here, followed by those of the remaining words, are the numbers of the line.
abbrev pub invariant-words : goal.invariant-words
invariant-words l = record {
  rest : numbers 4 (words_of_line l.line) ≡ behind l.numbers.items (numbers (4 - length l.numbers.items) (words_of_line l.rest));
  few : length l.numbers.items ≤ 4;
}

abbrev pub decreases-words : goal.decreases-words
decreases-words l = length l.rest
