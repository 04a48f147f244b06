use Rattle.std.proofs.Common.{◌≡◌, ℕ, drop}
use Rattle.std.specs.Prelude.{◌||◌}
use Rattle.pm_code.specs.Program.{is_among}
use Rattle.pm_statements.specs.BlockLabels.{line_places}
use Rattle.pm_statements.specs.Marks.{has}
use Rattle.pm_statements.proofs.block_labels.mark_lines.Given as goal

-- The offsets that are marked so far, and the offsets of the remaining lines, are all offsets.
abbrev pub invariant-loop-line : goal.invariant-loop-line
invariant-loop-line l =
    (p : ℕ) → (has l.marks p || is_among (line_places (drop l.line-index l.lines) l.statements) p)
    ≡ (has l.fn.marks p || is_among (line_places l.lines l.lefts) p)
