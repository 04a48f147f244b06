use Rattle.std.proofs.Common.{◌∙◌}
use Rattle.clap.proofs.WalkLemmas.{raw_values-rows}
use Rattle.clap.specs.Words.{found_of}
use Rattle.pm_plan.proofs.search_words.values.Goals as goal

pub returns : goal.returns
returns c = record { values = c.get_strs.ensures ∙ raw_values-rows (found_of c.args.matches.now) c.args.id.now }
