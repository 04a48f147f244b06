use Rattle.std.proofs.Common.{◌<◌, ◌≤◌, arith, append-nil, append_assoc}
use Rattle.pm_check.proofs.Steps.{pairs_from-more, pairs_from-done}
use Rattle.pm_check.proofs.notes.push_pairs.Goals as goal

pub loop-k-preserved : goal.loop-k-preserved
loop-k-preserved c =
    let below : c.loop-k.k < c.args.n = omega arith in
    let more = pairs_from-more c.args.directory.now c.loop-k.k c.args.n c.args.n below in
    rw (c.in_ok-push_pair.ensures.more, append_assoc, ← more) c.loop-k.invariant

pub returns : goal.returns
returns c =
    let over : c.args.n ≤ c.loop-k.k = omega arith in
    let done = pairs_from-done c.args.directory.now c.loop-k.k c.args.n c.args.n over in
    let whole = rw (done, append-nil) at c.loop-k.invariant in
    record { more = whole }
