use Rattle.std.proofs.Common.{arith, string_bytes}
use Rattle.pm_disasm.proofs.Stores.{slot_listed}
use Rattle.pm_disasm.proofs.listed.listing.Goals as goal

pub loop-n-preserved : goal.loop-n-preserved
loop-n-preserved c =
    slot_listed c.args.file.now c.loop-n.n (string_bytes c.list_slot.new.text) (string_bytes c.loop-n.text) _
    (omega arith) c.in_ok-list_slot.ensures.text c.loop-n.invariant
