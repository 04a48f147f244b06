use Rattle.std.proofs.Common.{arith}
use Rattle.std.proofs.lemmas.Iterator.Consumers.{YieldsList-from_first, nth_from_yields_List}
use Rattle.pm_filer.proofs.SlotLaws.{slot_at}
use Rattle.pm_filer.proofs.command.in_slot.Goals as goal

pub returns : goal.returns
returns c = record {
  file = slot_at c.args.volume.now c.args.slot c.in_ok-place.place c.nth.result
      (omega (arith, c.in_ok-place.ensures.0, c.in_ok-place.ensures.1, c.from.ensures))
      (nth_from_yields_List _ _ _ c.nth.ensures.ran (YieldsList-from_first _ _ _ c.entries.ensures.files));
}
