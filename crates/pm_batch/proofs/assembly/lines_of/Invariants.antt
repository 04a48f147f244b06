use Rattle.std.proofs.Common.{◌≡◌, ◌++◌, drop, string_bytes}
use Rattle.pm_batch.specs.Assembly.{fault_lines}
use Rattle.pm_batch.proofs.assembly.lines_of.Given as goal

-- The lines so far, followed by the lines of the remaining faults, are the lines of all faults.
abbrev pub invariant-loop-fault : goal.invariant-loop-fault
invariant-loop-fault l = string_bytes l.text ++ fault_lines (drop l.fault-index l.faults) ≡ fault_lines l.faults
