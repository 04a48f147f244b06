use Rattle.std.proofs.Common.{◌≡◌, ◌+◌, ◌++◌, length}
use Rattle.std.specs.Str.Lines.{lines}
use Rattle.pm_reader.specs.Each.{firsts_from, firsts_of_lines}
use Rattle.pm_reader.specs.Reader.{reader_seen}
use Rattle.pm_reader.proofs.Numbering.{seen_from}
use Rattle.pm_reader.proofs.reading.faults_of_lines.Given as goal

-- The faults so far, followed by the first faults of the remaining lines, are the first faults of all lines.
abbrev pub invariant-loop-part : goal.invariant-loop-part
invariant-loop-part l = record {
  count : l.number ≡ length l.yielded;
  firsts : l.found.items ++ firsts_from (l.number + 1) (reader_seen l.reader) (seen_from l.number (lines l.text)) ≡ firsts_of_lines l.text;
}
