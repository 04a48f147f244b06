use Rattle.std.proofs.Common.{rules}
use Rattle.std.proofs.lemmas.Iterator.Consumers.{YieldsList-from_first}
use Rattle.std.proofs.lemmas.Iterator.Search.{any_from_yields_List}
use Rattle.pm_filer.specs.Fitting.{is_fitting}
use Rattle.pm_filer.proofs.fitting.has_fitting.Goals as goal

pub returns : goal.returns
returns c =
    record {
      some =
          any_from_yields_List (is_fitting c.args.pattern.now) _ _ c.any.result c.any.ensures.ran
          (YieldsList-from_first (λ x. x) (λ s. s) _ c.entries.ensures.files) (λ x b q k. search rules);
    }
