use Rattle.std.proofs.Common.{◌≡◌, ◌-◌, ◌+◌, ◌++◌}
use Rattle.pm_volume.specs.Directory.{entries_from}
use Rattle.pm_convert.specs.Big.{code_blocks, code_firsts, listed}
use Rattle.pm_convert.proofs.big.code_blocks.Given as goal

-- The blocks so far, followed by those of the files from slot `n` on, are all blocks.
abbrev pub invariant-loop-n : goal.invariant-loop-n
invariant-loop-n l = record {
  whole : l.blocks.items ++ code_firsts (entries_from l.directory l.n (listed l.directory + 1 - l.n)) ≡ code_blocks l.directory;
}
