use Rattle.std.proofs.Common.{◌≡◌, ◌+◌, length}
use Rattle.pm_session.proofs.WordLaws.{IsInWord}
use Rattle.pm_session.proofs.commands.word_and_rest.Given as goal

-- The bytes up to here are part of the first word.
abbrev pub invariant-bytes : goal.invariant-bytes
invariant-bytes l = record {
  under_way : IsInWord l.line l.end l.rest;
  size : l.end + length l.rest ≡ length l.line;
}

abbrev pub decreases-bytes : goal.decreases-bytes
decreases-bytes l = length l.rest
