use Rattle.std.proofs.Common.{◌<◌, ◌≤◌, arith, append-nil, append_assoc}
use Rattle.pm_check.proofs.Steps.{differing_from-more, differing_from-done}
use Rattle.pm_check.proofs.notes.push_differing.Goals as goal

pub loop-n-preserved : goal.loop-n-preserved
loop-n-preserved c =
    let below : c.loop-n.n < 78 = omega arith in
    let more = differing_from-more c.args.directory.now c.loop-n.n 78 c.args.other.now below in
    rw (c.in_ok-push_note.ensures.more, c.differs.ensures.value, c.differing.ensures.note, append_assoc, ← more) c.loop-n.invariant

pub returns : goal.returns
returns c =
    let over : 78 ≤ c.loop-n.n = omega arith in
    let done = differing_from-done c.args.directory.now c.loop-n.n 78 c.args.other.now over in
    let whole = rw (done, append-nil) at c.loop-n.invariant in
    record { more = whole }
