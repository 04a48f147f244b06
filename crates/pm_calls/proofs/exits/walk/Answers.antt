use Rattle.std.proofs.Common.{◌≡◌, Ok, false, true, rules, refl, sym, ◌∙◌, arith}
use Rattle.std.proofs.lemmas.Result.{err_from_is_err_and}
use Rattle.pm_words.proofs.WatchLaws.{WatchStays-refl, WatchStays-trans}
use borrow.Author.Count.{below_more}
use Rattle.pm_calls.specs.Exits.{frame_up, met, with_exits}
use Rattle.pm_calls.proofs.WalkLaws.{frame_up-more, walked-fails, walked-round, walked-there, with_exits-more}
use Rattle.pm_calls.proofs.exits.walk.Goals as goal

pub loop-count-init : goal.loop-count-init
unfolding frame_up with_exits
loop-count-init c = record { frame = refl; passed = λ i l. absurd (omega arith); written = c.requires.same; watch = WatchStays-refl _ }

pub loop-count-preserved : goal.loop-count-preserved
loop-count-preserved c =
    let goes : c.in_ok-is_last.is_last ≡ false = c.if-is_last.false in
    let here : met c.args.before.now.words c.args.wanted (frame_up c.args.before.now.words c.args.mp c.loop-count._count) ≡ Ok false =
    rw (← c.loop-count.invariant.frame, ← goes) (sym c.in_ok-is_last.ensures.met) in
    record {
      frame = sym (frame_up-more _ _ _ _ c.loop-count.invariant.frame ∙ search rules);
      passed = below_more _ _ c.loop-count.invariant.passed here;
      written = sym (with_exits-more _ _ _ _ c.loop-count.invariant.frame ∙ rw (← c.loop-count.invariant.written) (sym c.leave.ensures.written));
      watch = WatchStays-trans _ _ _ c.loop-count.invariant.watch c.leave.ensures.watch;
    }

pub returns-in_err-is_last-clause-watch : goal.returns-in_err-is_last-clause-watch
returns-in_err-is_last-clause-watch c = c.loop-count.invariant.watch

pub returns-then-is_last-clause-watch : goal.returns-then-is_last-clause-watch
returns-then-is_last-clause-watch c = WatchStays-trans _ _ _ c.loop-count.invariant.watch c.leave.ensures.watch

pub returns-clause-watch : goal.returns-clause-watch
returns-clause-watch c = c.loop-count.invariant.watch

pub returns-in_err-is_last-clause-refusal : goal.returns-in_err-is_last-clause-refusal
returns-in_err-is_last-clause-refusal c =
    let p = err_from_is_err_and c.from_residual.result c.from_residual.ensures.1 in
    rw (p.1, p.2) (walked-fails _ _ _ _ _ (omega arith) c.loop-count.invariant.passed
    (rw (← c.loop-count.invariant.frame) (sym c.in_err-is_last.ensures.met)))

pub returns-then-is_last-clause-walked : goal.returns-then-is_last-clause-walked
returns-then-is_last-clause-walked c =
    let here : met c.args.before.now.words c.args.wanted (frame_up c.args.before.now.words c.args.mp c.loop-count._count) ≡ Ok true =
    rw (← c.loop-count.invariant.frame, ← c.if-is_last.true) (sym c.in_ok-is_last.ensures.met) in
    walked-there _ _ _ _ (omega arith) c.loop-count.invariant.passed here
    ∙ rw (with_exits-more _ _ _ _ c.loop-count.invariant.frame, ← c.loop-count.invariant.written) (rw c.leave.ensures.written refl)

pub returns-clause-refusal : goal.returns-clause-refusal
returns-clause-refusal c = walked-round _ _ _ _ (omega arith) c.loop-count.invariant.passed
