use Rattle.std.proofs.Common.{◌∙◌}
use Rattle.clap.proofs.WalkLemmas.{one_text-rows}
use Rattle.clap.specs.Words.{found_of}
use Rattle.pm_plan.proofs.words.flag.Goals as goal

pub returns : goal.returns
returns c = let is_row = one_text-rows (found_of c.args.matches.now) c.args.id.now in record {
  flag = record {
    absent = λ e. c.get_flag.ensures.none (is_row ∙ e);
    given = λ e. c.get_flag.ensures.value (is_row ∙ e);
    denied = λ e. c.get_flag.ensures.other (is_row ∙ e);
  };
}
