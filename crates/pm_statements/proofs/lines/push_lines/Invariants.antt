use Rattle.std.proofs.Common.{◌≡◌, ◌++◌, drop, false, string_bytes}
use Rattle.pm_statements.specs.Texts.{lines}
use Rattle.pm_statements.proofs.lines.push_lines.Given as goal

-- The text so far, followed by the text of the remaining statements, is the whole text.
abbrev pub invariant-loop-left : goal.invariant-loop-left
invariant-loop-left l =
    string_bytes l.out ++ lines l.depths l.behind_call (drop l.left-index l.lefts) l.rest
    ≡ string_bytes l.fn.out ++ lines l.depths false l.lefts l.phrases
