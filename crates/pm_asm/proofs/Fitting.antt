-- Segments that fit into the slots of a code file.
use Rattle.std.proofs.Common.{List, [], ◌∷◌, arith}
use Rattle.pm_code.specs.Program.{FitSlots, Segment}
use Rattle.pm_asm.specs.Lengths.{AreShort}

-- If no segment has more than 60,000 bytes, then each segment fits into a slot of a code file.
pub short_fits : (ss : List Segment) → AreShort ss → FitSlots ss
short_fits [] h = tt
short_fits (s ∷ ss) h = let short = h.0 in (omega (arith, short), short_fits ss h.1)
