use Rattle.std.proofs.Common.{◌∙◌}
use Rattle.pm_check.proofs.OrderLaws.{front_more, front_none}
use Rattle.pm_check.proofs.order.Order.turned.Goals as goal

pub loop-place-init : goal.loop-place-init
loop-place-init c = record { whole = c.new-made.ensures.items ∙ front_none _ _ }

pub loop-place-preserved : goal.loop-place-preserved
loop-place-preserved c = record {
  whole = c.in_ok-push.ensures.items ∙ front_more c.args.self c.args.image.now c.loop-place.made.items c.loop-place.place
      c.place_in.result c.loop-place.invariant.whole c.place_in.ensures.value;
}
