use Rattle.std.proofs.Common.{◌≡◌, ◌++◌, map, false, option_map}
use Rattle.pm_source.specs.Words.{trimmed}
use Rattle.pm_source.specs.Line.{pieces}
use Rattle.pm_line.specs.Views.{pieces_behind, text_seen, texts_seen, left}
use Rattle.pm_line.proofs.pieces.pieces.Given as goal

-- The pieces so far, followed by the pieces of the remaining text, are all pieces.
abbrev pub invariant-pieces : goal.invariant-pieces
invariant-pieces l = texts_seen l.list.items ++ map trimmed (pieces_behind (option_map text_seen l.rest)) ≡ map trimmed (pieces false l.text)

abbrev pub decreases-pieces : goal.decreases-pieces
decreases-pieces l = left (option_map text_seen l.rest)
