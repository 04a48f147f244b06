use Rattle.std.proofs.Common.{◌≤◌, [], length, arith}
use Rattle.std.proofs.lemmas.List.{append_assoc}
use Rattle.std.proofs.lemmas.Grind.{common_steps}
use borrow.Author.Count.{below_more}
use Rattle.pm_codefile.specs.Layout.{names_for}
use Rattle.pm_codefile.proofs.Layouts.{names-more}
use Rattle.pm_codefile.proofs.layout.put_names.Goals as goal

pub loop-n-preserved : goal.loop-n-preserved
loop-n-preserved c =
    let step = names-more c.args.names.now c.args.lengths.now c.loop-n.n [] (omega arith) (omega (arith, c.requires.each)) in
    record {
      whole = rw (c.in_ok-put_name.ensures.added, append_assoc, ← step) c.loop-n.invariant.whole;
      eight = below_more _ _ c.loop-n.invariant.eight c.in_ok-put_name.ensures.eight;
    }

pub returns : goal.returns
unfolding names_for
returns c =
    let past : length c.args.names.now ≤ c.loop-n.n = omega arith in
    record {
      added = grind (arith, common_steps, c.loop-n.invariant.whole);
      eight = λ k l. c.loop-n.invariant.eight k (omega arith);
    }
