use Rattle.std.proofs.Common.{◌<◌, ◌≤◌, ◌+◌, arith, append-nil, append_assoc}
use Rattle.pm_check.proofs.Steps.{findings_from-more, findings_from-done}
use Rattle.pm_check.proofs.rules.push_slots.Goals as goal

pub loop-n-preserved : goal.loop-n-preserved
loop-n-preserved c =
    let below : c.loop-n.n < c.min-count.result + 1 = omega arith in
    let more = findings_from-more c.args.directory.now c.loop-n.n (c.min-count.result + 1) below in
    rw (c.in_ok-push_slot.ensures.more, append_assoc, ← more) c.loop-n.invariant

pub returns : goal.returns
returns c =
    let over : c.min-count.result + 1 ≤ c.loop-n.n = omega arith in
    let done = findings_from-done c.args.directory.now c.loop-n.n (c.min-count.result + 1) over in
    let whole = rw (done, append-nil) at c.loop-n.invariant in
    record { more = cc (whole, c.min-count.ensures) }
