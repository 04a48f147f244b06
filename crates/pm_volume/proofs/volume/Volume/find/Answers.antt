use Rattle.std.proofs.Common.{◌∙◌, sym, rules, tests}
use Rattle.std.proofs.lemmas.Iterator.Adapters.{option_map_id}
use Rattle.std.proofs.lemmas.Iterator.Consumers.{YieldsList-from_first}
use Rattle.std.proofs.lemmas.Iterator.Search.{find_from_yields_List}
use Rattle.pm_volume.specs.Files.{is_named}
use Rattle.pm_volume.proofs.volume.Volume.find.Goals as goal

pub returns : goal.returns
returns c =
    record {
      first =
          sym (option_map_id _)
          ∙ find_from_yields_List (is_named c.args.name.now) _ _ c.find.result c.find.ensures.ran
          (YieldsList-from_first (λ x. x) (λ s. s) _ c.entries.ensures.files) (λ x b q k. search (rules, tests));
    }
