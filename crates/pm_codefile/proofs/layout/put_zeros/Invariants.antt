use Rattle.std.proofs.Common.{◌≡◌, ◌++◌, replicate}
use Rattle.pm_codefile.proofs.layout.put_zeros.Given as goal

abbrev pub invariant-loop-done : goal.invariant-loop-done
invariant-loop-done l = record { added : l.file.items ≡ l.initial.file.items ++ replicate l._done 0 }
