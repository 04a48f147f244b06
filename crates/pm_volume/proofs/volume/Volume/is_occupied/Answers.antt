use Rattle.std.proofs.Common.{rules, tests, nat_lt}
use Rattle.std.proofs.lemmas.Iterator.Consumers.{YieldsList-from_first}
use Rattle.std.proofs.lemmas.Iterator.Search.{any_from_yields_List}
use Rattle.pm_volume.specs.declared.entry.Entry.{Entry}
use Rattle.pm_volume.proofs.volume.Volume.is_occupied.Goals as goal

pub returns : goal.returns
returns c =
    record {
      occupied =
          any_from_yields_List (λ (e : Entry). nat_lt e.first 10) _ _ c.any.result c.any.ensures.ran
          (YieldsList-from_first (λ x. x) (λ s. s) _ c.entries.ensures.files) (λ x b q k. search (rules, tests));
    }
