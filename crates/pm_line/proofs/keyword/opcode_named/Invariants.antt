use Rattle.std.proofs.Common.{◌≡◌, ◌-◌}
use Rattle.pm_source.specs.Line.{named_from}
use Rattle.pm_line.proofs.keyword.opcode_named.Given as goal

-- No opcode below `op` has the mnemonic `name`.
abbrev pub invariant-loop-op : goal.invariant-loop-op
invariant-loop-op l = named_from l.name l.op (256 - l.op) ≡ named_from l.name 0 256
