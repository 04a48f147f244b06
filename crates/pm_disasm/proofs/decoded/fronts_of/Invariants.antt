use Rattle.std.proofs.Common.{◌≡◌, ◌++◌, drop, map, option_map}
use Rattle.pm_disasm.specs.Offsets as offsets
use Rattle.pm_disasm.specs.Views.{front_seen}
use Rattle.pm_disasm.proofs.decoded.fronts_of.Given as goal

-- The instructions up to here, followed by the remaining ones, are all instructions.
abbrev pub invariant-loop-at : goal.invariant-loop-at
invariant-loop-at l = map (option_map front_seen) l.fronts.items ++ offsets.fronts_of l.at (drop l.at l.segment) ≡ offsets.fronts_of 0 l.segment
