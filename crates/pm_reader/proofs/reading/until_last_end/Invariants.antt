use Rattle.std.proofs.Common.{◌≡◌, ◌≤◌, length, take}
use Rattle.std.specs.Str.Lines.{lines}
use Rattle.pm_source.specs.Faults.{lines_from}
use Rattle.pm_reader.proofs.Ends.{IsUntil}
use Rattle.pm_reader.proofs.reading.until_last_end.Given as goal

-- `until` is the number of the last of the first `number` lines that ends a procedure, or 0.
abbrev pub invariant-loop-part : goal.invariant-loop-part
invariant-loop-part l = record {
  count : l.number ≡ length l.yielded;
  within : l.until ≤ l.number;
  last : IsUntil (lines_from 1 (take l.number (lines l.text))) l.until;
}
