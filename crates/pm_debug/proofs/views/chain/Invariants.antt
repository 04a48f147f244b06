use Rattle.std.proofs.Common.{◌≡◌, ◌-◌}
use Rattle.pm_debug.specs.Views.{chain}
use Rattle.pm_debug.proofs.ChainLaws.{behind}
use Rattle.pm_debug.proofs.views.chain.Given as goal

-- The frames up to here, followed by the rest of the chain, are the whole chain.
abbrev pub invariant-loop-count : goal.invariant-loop-count
invariant-loop-count l =
    record { rest : chain l.memory.words l.distance l.limit l.first ≡ behind l.frames.items (chain l.memory.words l.distance (l.limit - l.count) l.frame) }
