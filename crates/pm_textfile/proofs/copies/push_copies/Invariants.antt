use Rattle.std.proofs.Common.{◌≡◌, ◌++◌, replicate}
use Rattle.pm_textfile.proofs.copies.push_copies.Given as goal

abbrev pub invariant-loop-done : goal.invariant-loop-done
invariant-loop-done l = record { added : l.bytes.items ≡ l.initial.bytes.items ++ replicate l._done l.byte }
