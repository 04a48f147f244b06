use Rattle.std.proofs.Common.{◌≡◌, false, take}
use Rattle.pm_statements.specs.Files.{is_sized}
use Rattle.pm_statements.proofs.sized.sized_as.Given as goal

-- No segment so far has the bytes.
abbrev pub invariant-loop-sized : goal.invariant-loop-sized
invariant-loop-sized l = is_sized (take l.sized-index l.segments) l.segment ≡ false
