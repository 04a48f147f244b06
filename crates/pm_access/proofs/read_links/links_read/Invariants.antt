use Rattle.std.proofs.Common.{◌≡◌}
use Rattle.pm_access.specs.Reached.{loaded_memory}
use Rattle.pm_calls.specs.Links.{up}
use Rattle.pm_machine.specs.ReadStretches.{links_read}
use Rattle.pm_access.specs.Writing.{meets}
use Rattle.pm_access.proofs.read_links.links_read.Given as goal

abbrev pub invariant-loop-count : goal.invariant-loop-count
invariant-loop-count l = record {
  frame : l.frame ≡ up (loaded_memory l.memory) l.mp l._count;
  read : l.is_read ≡ meets l.bytes (links_read (loaded_memory l.memory) l.mp l._count);
}
