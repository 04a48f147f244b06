use Rattle.std.proofs.Common.{◌≡◌, ◌≤◌, length}
use Rattle.pm_session.specs.Commands.{decimal_number, number_behind}
use Rattle.pm_session.proofs.commands.decimal.Given as goal

-- If the remaining digits follow `value`, then the number is that of the whole word.
abbrev pub invariant-digits : goal.invariant-digits
invariant-digits l = record {
  rest : decimal_number l.word ≡ number_behind l.value l.rest;
  small : l.value ≤ 4294967295;
}

abbrev pub decreases-digits : goal.decreases-digits
decreases-digits l = length l.rest
