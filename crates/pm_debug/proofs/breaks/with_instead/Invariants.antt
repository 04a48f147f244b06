use Rattle.std.proofs.Common.{◌≡◌, map, take}
use Rattle.pm_debug.specs.Breaks.{instead}
use Rattle.pm_debug.proofs.breaks.with_instead.Given as goal

-- The list has the breakpoints up to here, with the replacement.
abbrev pub invariant-loop-known : goal.invariant-loop-known
invariant-loop-known l = record { so_far : l.all.items ≡ map (instead l.new) (take l.known-index l.breaks.items) }
