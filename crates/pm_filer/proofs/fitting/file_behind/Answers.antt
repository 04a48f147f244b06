use Rattle.std.proofs.lemmas.Iterator.Consumers.{YieldsList-from_first, nth_from_yields_List}
use Rattle.pm_filer.proofs.SlotLaws.{file_at}
use Rattle.pm_filer.proofs.fitting.file_behind.Goals as goal

pub returns : goal.returns
returns c = record {
  file = file_at c.args.volume.now c.args.before _ c.nth.result c.from.ensures
      (nth_from_yields_List _ _ _ c.nth.ensures.ran (YieldsList-from_first _ _ _ c.entries.ensures.files));
}
