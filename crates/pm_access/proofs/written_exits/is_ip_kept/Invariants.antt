use Rattle.std.proofs.Common.{◌≡◌}
use Rattle.pm_calls.specs.Exits.{frame_up}
use Rattle.pm_machine.specs.Written.{ips_written}
use Rattle.pm_access.specs.Writing.{meets}
use Rattle.pm_access.proofs.written_exits.is_ip_kept.Given as goal

abbrev pub invariant-loop-count : goal.invariant-loop-count
invariant-loop-count l = record {
  frame : l.frame ≡ frame_up l.memory.words l.mp l._count;
  kept : l.is_kept ≡ meets l.bytes (ips_written l.memory.words l.mp l._count);
}
