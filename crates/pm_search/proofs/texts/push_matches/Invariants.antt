use Rattle.std.proofs.Common.{◌≡◌, ◌≤◌, ◌+◌, ◌-◌, ◌++◌, drop, length}
use Rattle.pm_textfile.specs.Writing.{text_lines}
use Rattle.pm_search.specs.Texts.{matches_from}
use Rattle.pm_search.proofs.texts.push_matches.Given as goal

-- The text so far, followed by the lines for the remaining lines, is the complete text.
abbrev pub invariant-loop-start : goal.invariant-loop-start
invariant-loop-start l = record {
  whole : l.text.items ++ matches_from l.finder l.front l.number (text_lines (drop l.start l.lines))
      ≡ l.fn.text.items ++ matches_from l.finder l.front 1 (text_lines l.lines);
  counted : l.number ≤ l.start + 1;
  within : l.start ≤ length l.lines + 1;
}

abbrev pub decreases-loop-start : goal.decreases-loop-start
decreases-loop-start l = length l.lines - l.start
