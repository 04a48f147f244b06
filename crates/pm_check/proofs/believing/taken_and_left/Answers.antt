use Rattle.std.proofs.Common.{◌<◌, ◌≤◌, arith, sym, ◌∙◌, append-nil, append_assoc}
use Rattle.pm_check.proofs.SavingSteps.{left_from-more, left_from-done, taken_from-more, taken_from-done, taken_length}
use Rattle.pm_check.proofs.believing.taken_and_left.Goals as goal

pub loop-n-preserved : goal.loop-n-preserved
loop-n-preserved c =
    let below : c.loop-n.n < 78 = omega arith in
    let more = taken_from-more c.args.directory.now c.args.lowest c.args.blocks c.loop-n.n 78 c.loop-n.taken.items below in
    let size = taken_length c.loop-n.n c.entry_at-entry.result c.why_left-why.result c.loop-n.taken.items in
    let other = left_from-more c.args.directory.now c.args.lowest c.args.blocks c.loop-n.n 78 below in
    record {
      rest = rw (c.in_ok-push_taken.ensures.more, c.why_left-why.ensures.finding, c.entry_at-entry.ensures.entry, ← more) c.loop-n.invariant.rest;
      few = rw c.in_ok-push_taken.ensures.more (omega (arith, size, c.loop-n.invariant.few));
      left =
          rw (c.in_ok-push_left.ensures.more, c.why_left-why.ensures.finding, c.entry_at-entry.ensures.entry, append_assoc, ← other)
          c.loop-n.invariant.left;
    }

pub returns : goal.returns
returns c =
    let over : 78 ≤ c.loop-n.n = omega arith in
    let done = taken_from-done c.args.directory.now c.args.lowest c.args.blocks c.loop-n.n 78 c.loop-n.taken.items over in
    let none = left_from-done c.args.directory.now c.args.lowest c.args.blocks c.loop-n.n 78 over in
    let whole = rw (none, append-nil) at c.loop-n.invariant.left in
    record {
      taken = sym done ∙ c.loop-n.invariant.rest;
      few = omega (arith, c.loop-n.invariant.few);
      left = whole;
    }
