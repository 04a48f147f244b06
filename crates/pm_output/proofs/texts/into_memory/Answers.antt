use Rattle.std.proofs.Common.{rules}
use Rattle.pm_tool.specs.Said.{job_said}
use Rattle.pm_output.proofs.TextLaws.{known_written}
use Rattle.pm_output.proofs.texts.into_memory.Goals as goal

pub returns : goal.returns
returns g c = record {
  said = λ sound. known_written _ _ _ c.run-outcome.result _ (job_said c.args.job) (search rules) (search rules)
      (c.run-outcome.ensures.exact sound);
}
