use Rattle.std.proofs.Common.{◌≡◌, take, drop, false}
use Rattle.pm_source.specs.Line.{pieces}
use Rattle.pm_line.specs.Views.{onto_piece}
use Rattle.pm_line.proofs.pieces.first_piece.Given as goal

-- The first `i` characters belong to the first piece.
abbrev pub invariant-loop-i : goal.invariant-loop-i
invariant-loop-i l = onto_piece (take l.i l.text) (pieces l.quoted (drop l.i l.text)) ≡ pieces false l.text
