use Rattle.pm_tool.specs.Said.{job_said}
use Rattle.pm_output.proofs.TextLaws.{known_text}
use Rattle.pm_output.proofs.texts.into_file.Goals as goal

pub returns-clause-said : goal.returns-clause-said
returns-clause-said g c = λ sound. known_text _ _ _ _ _ c.into_memory-outcome.result.0 _ _ (job_said c.args.job) c.hold.ensures.stays
    c.deref.ensures.value c.in_ok-keep.ensures.kept (c.into_memory-outcome.ensures.said sound)
