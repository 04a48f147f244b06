use Rattle.std.proofs.Common.{◌≡◌, ◌+◌, ◌-◌, ◌≤◌, false}
use Rattle.pm_jobs.specs.Streams.{CountsOn, both}
use Rattle.pm_jobs.specs.declared.source.TheConstants.{INPUT_LIMIT}
use Rattle.pm_debug.specs.Session.{session_of}
use Rattle.pm_tool.proofs.Talked.{IsTalking}
use Rattle.pm_tool.proofs.debug.converse.Given as goal

abbrev pub invariant-bytes : goal.invariant-bytes
invariant-bytes g l = record {
  talking : IsTalking (both (g.R.Source.seen l.fn.source) (g.W.Sink.seen l.fn.sink)) (both (g.R.Source.seen l.source) (g.W.Sink.seen l.sink))
      l.line.items l.taken (session_of l.fn.debugger) (session_of l.debugger);
  source_well : (g.R.Source.seen l.source).failed ≡ false;
  sink_well : (g.W.Sink.seen l.sink).failed ≡ false;
  few : l.taken ≤ INPUT_LIMIT;
  counted : CountsOn (g.R.Source.seen l.fn.source).given → (g.R.Source.seen l.source).given ≡ (g.R.Source.seen l.fn.source).given + l.taken;
}

abbrev pub decreases-bytes : goal.decreases-bytes
decreases-bytes g l = INPUT_LIMIT - l.taken
