use Rattle.std.proofs.Common.{◌≡◌, ◌-◌}
use Rattle.pm_asm.specs.Near.{liked_from}
use Rattle.pm_asm.proofs.near.opcode_like.Given as goal

-- The search from `op` on has the result of the whole search. So no opcode before `op` has a similar mnemonic.
abbrev pub invariant-loop-op : goal.invariant-loop-op
invariant-loop-op l = liked_from l.near l.word l.op (256 - l.op) ≡ liked_from l.near l.word 0 256
