use Rattle.std.proofs.Common.{◌≡◌, length}
use Rattle.pm_source.specs.Line.{unescaped}
use Rattle.pm_line.specs.Views.{onto_bytes}
use Rattle.pm_line.proofs.operand.unescaped.Given as goal

-- The bytes so far, followed by the bytes of the remaining text, are all bytes.
abbrev pub invariant-bytes : goal.invariant-bytes
invariant-bytes l = onto_bytes l.bytes.items (unescaped l.rest) ≡ unescaped l.text

abbrev pub decreases-bytes : goal.decreases-bytes
decreases-bytes l = length l.rest
