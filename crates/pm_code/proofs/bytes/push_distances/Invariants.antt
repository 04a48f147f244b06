use Rattle.std.proofs.Common.{◌≡◌, ◌+◌, ◌-◌, ◌*◌, ◌++◌, length, reverse, take}
use Rattle.pm_code.specs.Program.{entry_bytes}
use Rattle.pm_code.proofs.bytes.push_distances.Given as goal

abbrev pub invariant-loop-done : goal.invariant-loop-done
invariant-loop-done l = record {
  whole : l.out.items ++ entry_bytes (length l.out.items) (reverse (take (l.count - l.done) l.places))
      ≡ l.initial.out.items ++ entry_bytes (length l.initial.out.items) (reverse l.places);
  room : length l.out.items ≡ length l.initial.out.items + 2 * l.done;
}
