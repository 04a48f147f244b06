use Rattle.std.proofs.Common.{◌≡◌, ◌+◌, ◌-◌, ◌≤◌, false}
use Rattle.pm_jobs.specs.Streams.{CountsOn, both}
use Rattle.pm_jobs.specs.declared.source.TheConstants.{INPUT_LIMIT}
use Rattle.pm_tool.proofs.Driven.{IsUnderWay}
use Rattle.pm_tool.proofs.steps.drive.Given as goal

abbrev pub invariant-steps : goal.invariant-steps
invariant-steps g l = record {
  under_way : IsUnderWay (both (g.R.Source.seen l.fn.source) (g.W.Sink.seen l.fn.sink)) (both (g.R.Source.seen l.source) (g.W.Sink.seen l.sink))
      l.page.items l.taken l.show l.limit l.fn.machine.state (l.limit - l.went) l.machine.state;
  source_well : (g.R.Source.seen l.source).failed ≡ false;
  sink_well : (g.W.Sink.seen l.sink).failed ≡ false;
  few : l.taken ≤ INPUT_LIMIT;
  counted : CountsOn (g.R.Source.seen l.fn.source).given → (g.R.Source.seen l.source).given ≡ (g.R.Source.seen l.fn.source).given + l.taken;
  within : l.went ≤ l.limit;
}

abbrev pub decreases-steps : goal.decreases-steps
decreases-steps g l = (l.limit - l.went) + (INPUT_LIMIT - l.taken)
