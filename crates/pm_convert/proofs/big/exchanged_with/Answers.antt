use Rattle.std.proofs.Common.{◌∙◌}
use Rattle.pm_convert.proofs.BigSteps.{front_more, front_none}
use Rattle.pm_convert.proofs.big.exchanged_with.Goals as goal

pub loop-place-init : goal.loop-place-init
loop-place-init c = record { whole = c.new-made.ensures.items ∙ front_none _ _ _ }

pub loop-place-preserved : goal.loop-place-preserved
loop-place-preserved c = record {
  whole = c.in_ok-push.ensures.items ∙ front_more c.args.has_second c.args.blocks.now c.args.image.now c.loop-place.made.items
      c.loop-place.place c.big_place.result c.loop-place.invariant.whole c.big_place.ensures.place;
}
