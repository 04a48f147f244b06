use Rattle.std.proofs.Common.{sym, arith}
use Rattle.pm_values.proofs.SubsetLaws.{subset-more, subset-none, subset-not, subset-whole}
use Rattle.pm_values.proofs.comparisons.is_subset.Goals as goal

pub loop-i-init : goal.loop-i-init
loop-i-init c = record { none = subset-none _ }

pub loop-i-preserved : goal.loop-i-preserved
loop-i-preserved c =
    let word = rw c.word_or_zero.ensures.word at c.if-left-i-ne0.false in
    record {
      none = subset-more c.args.left.now c.args.right.now c.loop-i.i (c.type_inv.left c.loop-i.i).fits (c.type_inv.right c.loop-i.i).fits word
          c.loop-i.invariant.none;
    }

pub returns-then-left-i-ne0 : goal.returns-then-left-i-ne0
returns-then-left-i-ne0 c =
    let word = rw c.word_or_zero.ensures.word at c.if-left-i-ne0.true in
    record {
      subset = sym (subset-not c.args.left.now c.args.right.now c.loop-i.i (c.type_inv.left c.loop-i.i).fits (c.type_inv.right c.loop-i.i).fits
          c.loop-i-test.true word);
    }

pub returns : goal.returns
returns c = record { subset = sym (subset-whole c.args.left.now c.args.right.now c.loop-i.i (omega arith) c.loop-i.invariant.none) }
