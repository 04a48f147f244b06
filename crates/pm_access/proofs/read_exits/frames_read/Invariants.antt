use Rattle.std.proofs.Common.{◌≡◌}
use Rattle.pm_calls.specs.Exits.{frame_up}
use Rattle.pm_machine.specs.ReadStretches.{frames_read}
use Rattle.pm_access.specs.Writing.{meets}
use Rattle.pm_access.proofs.read_exits.frames_read.Given as goal

abbrev pub invariant-loop-count : goal.invariant-loop-count
invariant-loop-count l = record {
  frame : l.frame ≡ frame_up l.memory.words l.mp l._count;
  read : l.is_read ≡ meets l.bytes (frames_read l.memory.words l.mp l._count);
}
