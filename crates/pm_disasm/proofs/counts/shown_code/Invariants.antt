use Rattle.std.proofs.Common.{◌≡◌, ◌-◌}
use Rattle.pm_disasm.specs.Split.{least_from}
use Rattle.pm_disasm.proofs.counts.shown_code.Given as goal

-- The lowest number that fits, from `count` on, is the lowest number that fits from 0 on. So no lower number fits.
abbrev pub invariant-loop-count : goal.invariant-loop-count
invariant-loop-count l = least_from l.segment l.a l.count (61 - l.count) ≡ least_from l.segment l.a 0 61
