use Rattle.std.proofs.Common.{arith, string_bytes}
use Rattle.pm_statements.proofs.Filed.{next_text}
use Rattle.pm_statements.proofs.shown.file.Goals as goal

pub loop-n-preserved : goal.loop-n-preserved
loop-n-preserved c =
    let file = c.args.file.now in
    let n = c.loop-n.n in
    let before = string_bytes c.loop-n.text in
    next_text c.in_ok-sizes.sizes.callees.items c.args.layout file n (string_bytes c.push_slot.new.text) before _ (omega (arith, c.loop-n-test.true))
    c.in_ok-push_slot.ensures.text c.loop-n.invariant
