use Rattle.std.proofs.Common.{arith, string_bytes}
use Rattle.pm_codefile.specs.Segments.{procedures_in}
use Rattle.pm_c.proofs.ProcedureLaws.{next_procedure}
use Rattle.pm_c.proofs.procedures.push_procedures.Goals as goal

pub loop-done-preserved : goal.loop-done-preserved
loop-done-preserved c =
    next_procedure c.args.slot c.args.segment.now c.loop-done.done (procedures_in c.args.segment.now)
    (string_bytes c.push_numbered.new.text) (string_bytes c.loop-done.text) _
    (omega (arith, c.loop-done-test.true, c.procedures-done-end.ensures.count)) c.in_ok-push_numbered.ensures.text
    c.loop-done.invariant
