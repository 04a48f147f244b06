use Rattle.pm_tool.specs.declared.work.Work.TheVariants as works
use Rattle.pm_tool.specs.Work.{work_of}
use Rattle.pm_tool.proofs.ReadWhole.{broken_work}
use Rattle.pm_tool.proofs.engine.do_job.Goals as goal

pub returns-in-Raw-clause-broken : goal.returns-in-Raw-clause-broken
returns-in-Raw-clause-broken g c =
    broken_work (work_of c.args.job) (works.Raw c.in-Raw.limit c.in-Raw.selection) _ _ _ c.raw.ensures.broken (rw c.work_of.ensures.work at c.in-Raw.is)

pub returns-in-Talk-clause-broken : goal.returns-in-Talk-clause-broken
returns-in-Talk-clause-broken g c =
    broken_work (work_of c.args.job) (works.Talk c.in-Talk.start c.in-Talk.talk) _ _ _ c.do_talk.ensures.broken
    (rw c.work_of.ensures.work at c.in-Talk.is)

pub returns-in-Batch-clause-broken : goal.returns-in-Batch-clause-broken
returns-in-Batch-clause-broken g c =
    broken_work (work_of c.args.job) (works.Batch c.in-Batch.batch) _ _ _ c.do_batch.ensures.broken (rw c.work_of.ensures.work at c.in-Batch.is)

pub returns-in-Dis-clause-broken : goal.returns-in-Dis-clause-broken
returns-in-Dis-clause-broken g c =
    broken_work (work_of c.args.job) (works.Dis c.in-Dis.output) _ _ _ c.do_dis.ensures.broken (rw c.work_of.ensures.work at c.in-Dis.is)
