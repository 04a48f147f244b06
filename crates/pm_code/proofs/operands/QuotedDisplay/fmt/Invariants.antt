use Rattle.std.proofs.Common.{◌∷◌, take}
use Rattle.std.specs.List.{flat_map}
use Rattle.std.specs.Fmt.{HasWritten, IsPlainFormatter}
use Rattle.pm_code.specs.Text.{escaped}
use Rattle.pm_code.proofs.operands.QuotedDisplay.fmt.Given as goal

-- The written text is the opening quote and the text of the bytes up to here.
abbrev pub invariant-loop-byte : goal.invariant-loop-byte
invariant-loop-byte g l =
    IsPlainFormatter l.fn.f → HasWritten g.W.Write.write_str_gives l.fn.f (34 ∷ flat_map escaped (take l.byte-index l.bytes)) l.f
