use Rattle.std.proofs.Common.{◌≡◌}
use Rattle.pm_convert.specs.Big.{exchanged_front}
use Rattle.pm_convert.proofs.big.exchanged_with.Given as goal

-- The bytes so far are the first bytes of the converted image.
abbrev pub invariant-loop-place : goal.invariant-loop-place
invariant-loop-place l = record { whole : l.made.items ≡ exchanged_front l.has_second l.blocks l.image l.place }
