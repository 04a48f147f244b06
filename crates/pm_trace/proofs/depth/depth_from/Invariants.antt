use Rattle.std.proofs.Common.{◌≡◌, ◌+◌, ◌-◌}
use Rattle.pm_trace.specs.Selected.{depth_from}
use Rattle.pm_trace.proofs.depth.depth_from.Given as goal

-- The number of frames up to here and that of the frames from here on is the whole number.
abbrev pub invariant-loop-count : goal.invariant-loop-count
invariant-loop-count l = record { rest : depth_from l.memory.words 64 l.first ≡ l.count + depth_from l.memory.words (64 - l.count) l.frame }
