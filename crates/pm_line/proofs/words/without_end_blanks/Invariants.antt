use Rattle.std.proofs.Common.{◌≡◌, ◌≤◌, length, reverse, take}
use Rattle.pm_source.specs.Words.{unindented}
use Rattle.pm_line.proofs.words.without_end_blanks.Given as goal

-- The characters after the first `count` are spaces and tabs.
abbrev pub invariant-blanks : goal.invariant-blanks
invariant-blanks l = record {
  within : l.count ≤ length l.text;
  text : reverse (unindented (reverse (take l.count l.text))) ≡ reverse (unindented (reverse l.text));
}

abbrev pub decreases-blanks : goal.decreases-blanks
decreases-blanks l = l.count
