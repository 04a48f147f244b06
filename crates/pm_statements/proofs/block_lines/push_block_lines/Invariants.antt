use Rattle.std.proofs.Common.{◌≡◌, ◌++◌, drop, false, map, string_bytes}
use Rattle.pm_statements.specs.BlockLabels.{relabelled}
use Rattle.pm_statements.specs.BlockLines.{block_lines}
use Rattle.pm_statements.specs.Marks.{has}
use Rattle.pm_statements.proofs.block_lines.push_block_lines.Given as goal

-- The text so far, followed by the text of the remaining lines, is the whole text.
abbrev pub invariant-loop-line : goal.invariant-loop-line
invariant-loop-line l =
    string_bytes l.out ++ block_lines l.depth l.behind_call (drop l.line-index l.lines) (map (relabelled (has l.marks)) l.statements) l.texts
    ≡ string_bytes l.fn.out ++ block_lines 0 false l.lines (map (relabelled (has l.marks)) l.lefts) l.phrases
