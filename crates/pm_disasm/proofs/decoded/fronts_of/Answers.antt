use Rattle.std.proofs.Common.{◌∙◌}
use Rattle.pm_disasm.proofs.Offsets.{next_front}
use Rattle.pm_disasm.proofs.decoded.fronts_of.Goals as goal

pub loop-at-preserved : goal.loop-at-preserved
loop-at-preserved c =
    next_front c.args.segment.now c.loop-at.at c.loop-at.fronts.items c.front_at.result _ c.loop-at-test.true c.in_ok-push.ensures.items
    c.front_at.ensures.front ∙ c.loop-at.invariant
