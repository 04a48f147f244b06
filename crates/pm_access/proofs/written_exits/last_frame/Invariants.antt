use Rattle.std.proofs.Common.{◌≡◌}
use Rattle.pm_calls.specs.Exits.{frame_up}
use Rattle.pm_calls.proofs.WalkLaws.{Passes}
use Rattle.pm_access.proofs.written_exits.last_frame.Given as goal

abbrev pub invariant-loop-count : goal.invariant-loop-count
invariant-loop-count l = record {
  frame : l.frame ≡ frame_up l.memory.words l.mp l.count;
  passed : Passes l.memory.words l.wanted l.mp l.count;
}
