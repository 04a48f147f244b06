use Rattle.std.proofs.Common.{◌≡◌, Ok, true, false, refl, sym, ◌∙◌, arith, rules}
use Rattle.std.proofs.lemmas.Result.{err_from_is_err_and}
use borrow.Author.Count.{below_more}
use Rattle.pm_calls.specs.Exits.{frame_up, met}
use Rattle.pm_calls.proofs.WalkLaws.{frame_up-more}
use Rattle.pm_access.proofs.WritingLaws.{last_fails, last_none, last_there}
use Rattle.pm_access.proofs.written_exits.last_frame.Goals as goal

pub loop-count-init : goal.loop-count-init
unfolding frame_up
loop-count-init c = record { frame = refl; passed = λ i l. absurd (omega arith) }

pub returns-in_err-meet-clause-last : goal.returns-in_err-meet-clause-last
returns-in_err-meet-clause-last c =
    let p = err_from_is_err_and c.from_residual.result c.from_residual.ensures.1 in
    rw (p.1, p.2) (sym (last_fails _ _ _ _ _ (omega arith) c.loop-count.invariant.passed
    (rw (← c.loop-count.invariant.frame) (sym c.in_err-meet.ensures.met))))

pub returns-then-branch-clause-last : goal.returns-then-branch-clause-last
returns-then-branch-clause-last c =
    let here : met c.args.memory.now.words c.args.wanted (frame_up c.args.memory.now.words c.args.mp c.loop-count.count) ≡ Ok true =
    rw (← c.loop-count.invariant.frame, ← c.if-branch.true) (sym c.in_ok-meet.ensures.met) in
    sym (last_there _ _ _ _ (omega arith) c.loop-count.invariant.passed here)

pub loop-count-preserved : goal.loop-count-preserved
loop-count-preserved c =
    let goes : c.in_ok-meet.field-0 ≡ false = c.if-branch.false in
    let here : met c.args.memory.now.words c.args.wanted (frame_up c.args.memory.now.words c.args.mp c.loop-count.count) ≡ Ok false =
    rw (← c.loop-count.invariant.frame, ← goes) (sym c.in_ok-meet.ensures.met) in
    record {
      frame = sym (frame_up-more _ _ _ _ c.loop-count.invariant.frame ∙ search rules);
      passed = below_more _ _ c.loop-count.invariant.passed here;
    }

pub returns-clause-last : goal.returns-clause-last
returns-clause-last c = sym (last_none _ _ _ _ (omega arith) c.loop-count.invariant.passed)
