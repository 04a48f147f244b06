use Rattle.std.proofs.Common.{◌≡◌}
use Rattle.pm_convert.specs.Big.{directory_front}
use Rattle.pm_convert.proofs.big.turned_directory.Given as goal

-- The bytes so far are the first bytes of the converted directory.
abbrev pub invariant-loop-place : goal.invariant-loop-place
invariant-loop-place l = record { whole : l.made.items ≡ directory_front l.directory l.place }
