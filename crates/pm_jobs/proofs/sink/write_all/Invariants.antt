use Rattle.std.proofs.Common.{◌≡◌, false, length}
use Rattle.pm_jobs.proofs.Transfers.{Written}
use Rattle.pm_jobs.proofs.sink.write_all.Given as goal

abbrev pub invariant-writing : goal.invariant-writing
invariant-writing g l = record {
  so_far : Written (g.W.Sink.seen l.fn.sink).contents (g.W.Sink.seen l.sink).contents l.bytes l.rest;
  well : (g.W.Sink.seen l.sink).failed ≡ false;
}

abbrev pub decreases-writing : goal.decreases-writing
decreases-writing g l = length l.rest
