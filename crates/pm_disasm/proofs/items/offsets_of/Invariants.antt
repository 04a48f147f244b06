use Rattle.std.proofs.Common.{◌≡◌, ◌++◌, drop}
use Rattle.pm_disasm.proofs.items.offsets_of.Given as goal

-- The offsets up to here, followed by the remaining ones, are all offsets.
abbrev pub invariant-loop-place : goal.invariant-loop-place
invariant-loop-place l = l.offsets.items ++ drop l.place-index l.places ≡ l.places
