use Rattle.std.proofs.Common.{rules}
use Rattle.pm_jobs.proofs.Transfers.{Written-more}
use Rattle.pm_jobs.proofs.sink.write_all.Goals as goal

pub writing-preserved : goal.writing-preserved
writing-preserved g c = record {
  so_far = rw c.split_at.ensures.back (Written-more _ _ _ _ _ _ c.writing.invariant.so_far c.in-Ok-1-to-max.ensures.bytes);
  well = search rules;
}
