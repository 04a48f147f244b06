use Rattle.std.proofs.Common.{arith, string_bytes}
use Rattle.pm_c.proofs.ProcedureLaws.{next_slot}
use Rattle.pm_c.proofs.procedures.lines.Goals as goal

pub loop-n-preserved : goal.loop-n-preserved
loop-n-preserved c =
    next_slot c.args.file.now c.loop-n.n (string_bytes c.push_slot.new.text) (string_bytes c.loop-n.text) _
    (omega arith) c.in_ok-push_slot.ensures.text c.loop-n.invariant
