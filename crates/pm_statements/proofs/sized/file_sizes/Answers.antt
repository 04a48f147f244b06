use Rattle.std.proofs.Common.{◌≡◌, ◌-◌, ◌++◌, ◌∙◌, ap, append-nil, arith, sym}
use Rattle.pm_statements.specs.Files.{file_callees, slots_callees}
use Rattle.pm_statements.proofs.Filed.{next_slot}
use Rattle.pm_statements.proofs.sized.file_sizes.Goals as goal

pub loop-n-preserved : goal.loop-n-preserved
loop-n-preserved c = record {
  callees = next_slot c.args.file.now c.loop-n.n c.add_slot.new.callees.items c.loop-n.callees.items _
      (omega (arith, c.loop-n-test.true)) c.in_ok-add_slot.ensures.callees c.loop-n.invariant.callees;
  segments = c.in_ok-add_slot.ensures.sized;
}

pub returns : goal.returns
unfolding file_callees
returns c =
    let none : 0 ≡ 16 - c.loop-n.n = omega (arith, c.loop-n-test.false) in
    record {
      callees = sym (append-nil c.loop-n.callees.items)
          ∙ ap (λ k. c.loop-n.callees.items ++ slots_callees c.args.file.now c.loop-n.n k) none ∙ c.loop-n.invariant.callees;
      segments = c.loop-n.invariant.segments;
    }
