use Rattle.std.proofs.Common.{rules, ◌≡◌, ◌-◌, ◌+◌, arith, sym}
use Rattle.pm_debug.proofs.ChainLaws.{chain_ends, chain_more, chain_odd, chain_over}
use Rattle.pm_debug.proofs.views.chain.Goals as goal

pub returns-then-is_last-clause-frames : goal.returns-then-is_last-clause-frames
returns-then-is_last-clause-frames c =
    rw c.in_ok-push.ensures.items (chain_ends _ _ _ _ _ (c.args.limit - c.loop-count.count - 1) _ (omega arith) c.loop-count.invariant.rest
    (sym c.if-is_last.ensures.last))

pub returns-in_default : goal.returns-in_default
returns-in_default c =
    record {
      frames = chain_odd _ _ _ _ _ (c.args.limit - c.loop-count.count - 1) _ (omega arith) c.loop-count.invariant.rest
          (sym c.if-is_last.ensures.last) c.in_default.ensures.word;
      wanted = omega arith;
    }

pub loop-count-preserved : goal.loop-count-preserved
loop-count-preserved c =
    record {
      rest = rw c.in_ok-push.ensures.items (chain_more _ _ _ _ _ (c.args.limit - (c.loop-count.count + 1)) _ (omega arith) c.loop-count.invariant.rest
          (search rules) _ c.in-Some.ensures.word);
    }

pub returns-clause-frames : goal.returns-clause-frames
returns-clause-frames c =
    let none : c.args.limit - c.loop-count.count ≡ 0 = omega arith in
    chain_over _ c.args.distance _ _ _ (rw none at c.loop-count.invariant.rest)
