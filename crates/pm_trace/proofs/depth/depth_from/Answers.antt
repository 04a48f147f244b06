use Rattle.std.proofs.Common.{◌≡◌, ◌+◌, ◌-◌, suc, sym, ap, ◌∙◌, arith}
use Rattle.pm_trace.specs.Selected.{depth_from}
use Rattle.pm_trace.proofs.Depths.{depth_ends, depth_goes, depth_none, one_more}
use Rattle.pm_trace.proofs.depth.depth_from.Goals as goal

pub returns-in_default-clause-depth : goal.returns-in_default-clause-depth
returns-in_default-clause-depth c =
    let k = c.loop-count.count in
    let none : k + 0 ≡ k = omega arith in
    sym (c.loop-count.invariant.rest
    ∙ ap (λ d. k + d) (depth_ends c.args.memory.now.words (64 - k) c.loop-count.frame c.in_default.ensures.next) ∙ none)

pub loop-count-preserved : goal.loop-count-preserved
loop-count-preserved c =
    let k = c.loop-count.count in
    let left : 64 - k ≡ suc (64 - (k + 1)) = omega arith in
    record {
      rest = c.loop-count.invariant.rest
          ∙ ap (λ n. k + depth_from c.args.memory.now.words n c.loop-count.frame) left
          ∙ ap (λ d. k + d) (depth_goes c.args.memory.now.words (64 - (k + 1)) c.loop-count.frame c.in-Some.next c.in-Some.ensures.next)
          ∙ one_more k (depth_from c.args.memory.now.words (64 - (k + 1)) c.in-Some.next);
    }

pub returns-clause-depth : goal.returns-clause-depth
returns-clause-depth c =
    let k = c.loop-count.count in
    let over : 64 - k ≡ 0 = omega arith in
    let all : k + 0 ≡ 64 = omega arith in
    sym (c.loop-count.invariant.rest
    ∙ ap (λ n. k + depth_from c.args.memory.now.words n c.loop-count.frame) over
    ∙ ap (λ d. k + d) (depth_none c.args.memory.now.words c.loop-count.frame) ∙ all)
