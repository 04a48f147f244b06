use Rattle.std.proofs.Common.{◌≡◌, Ok}
use Rattle.pm_calls.specs.Links.{up}
use Rattle.pm_access.proofs.written.link.Given as goal

abbrev pub invariant-loop-count : goal.invariant-loop-count
invariant-loop-count l = record { frame : up l.memory.words l.mp l._count ≡ Ok l.frame }
