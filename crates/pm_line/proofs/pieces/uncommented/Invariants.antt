use Rattle.std.proofs.Common.{◌≡◌, ◌++◌, take, drop, false}
use Rattle.pm_source.specs.Line.{uncommented}
use Rattle.pm_line.proofs.pieces.uncommented.Given as goal

-- The first `i` characters do not belong to a comment.
abbrev pub invariant-loop-i : goal.invariant-loop-i
invariant-loop-i l = take l.i l.text ++ uncommented l.quoted (drop l.i l.text) ≡ uncommented false l.text
