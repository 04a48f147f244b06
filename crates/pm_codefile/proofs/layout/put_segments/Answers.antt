use Rattle.std.proofs.Common.{◌≤◌, length, arith}
use Rattle.std.proofs.lemmas.List.{append_assoc}
use Rattle.std.proofs.lemmas.Grind.{common_steps}
use Rattle.pm_codefile.specs.Layout.{in_blocks}
use Rattle.pm_codefile.proofs.Layouts.{padded-more, sum-more}
use Rattle.pm_codefile.proofs.layout.put_segments.Goals as goal

pub loop-count-preserved : goal.loop-count-preserved
loop-count-preserved c =
    let step = padded-more c.args.lengths.now c.loop-count.rest.now c.loop-count.count-index (omega arith) in
    record {
      whole = rw (
        c.in_ok-put_segment.ensures.added,
        c.split_at.ensures.front_len,
        c.split_at.ensures.front,
        c.split_at.ensures.back,
        c.from.ensures,
        append_assoc,
        ←
            step,
      ) c.loop-count.invariant.whole;
      left = omega
          (arith, sum-more c.args.lengths.now c.loop-count.count-index (omega arith), c.split_at.ensures.back_len, c.loop-count.invariant.left, c.from.ensures);
    }

pub returns : goal.returns
unfolding in_blocks
returns c =
    let past : length c.args.lengths.now ≤ c.loop-count.count-index = omega arith in
    grind (arith, common_steps, c.loop-count.invariant.whole)
