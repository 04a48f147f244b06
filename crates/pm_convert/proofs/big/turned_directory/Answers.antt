use Rattle.std.proofs.Common.{◌∙◌}
use Rattle.pm_convert.proofs.BigSteps.{directory_more, directory_none}
use Rattle.pm_convert.proofs.big.turned_directory.Goals as goal

pub loop-place-init : goal.loop-place-init
loop-place-init c = record { whole = c.new-made.ensures.items ∙ directory_none _ }

pub loop-place-preserved : goal.loop-place-preserved
loop-place-preserved c = record {
  whole = c.in_ok-push.ensures.items ∙ directory_more c.args.directory.now c.loop-place.made.items c.loop-place.place
      c.directory_place.result c.loop-place.invariant.whole c.directory_place.ensures.place;
}
