use Rattle.std.proofs.Common.{◌≤◌, length, arith}
use Rattle.std.proofs.lemmas.List.{append_assoc}
use Rattle.std.proofs.lemmas.Grind.{common_steps}
use Rattle.pm_codefile.specs.Layout.{pairs}
use Rattle.pm_codefile.proofs.Layouts.{pairs-more}
use Rattle.pm_codefile.proofs.layout.put_pairs.Goals as goal

pub loop-count-preserved : goal.loop-count-preserved
loop-count-preserved c =
    let step = pairs-more c.loop-count.block c.args.lengths.now c.loop-count.count-index (omega arith) in
    record {
      whole = rw (c.in_ok-put_pair.ensures.added, c.blocks_for-block.ensures.blocks, append_assoc, ← step) c.loop-count.invariant.whole;
      few = omega arith;
    }

pub returns : goal.returns
unfolding pairs
returns c =
    let past : length c.args.lengths.now ≤ c.loop-count.count-index = omega arith in
    grind (arith, common_steps, c.loop-count.invariant.whole)
