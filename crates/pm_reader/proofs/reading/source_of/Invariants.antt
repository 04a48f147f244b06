use Rattle.std.proofs.Common.{◌≡◌, ◌+◌, length}
use Rattle.std.specs.Str.Lines.{lines}
use Rattle.pm_source.specs.Faults.{faults_from, faults_of_lines, after_lines, lines_of, start}
use Rattle.pm_reader.specs.Reader.{reader_seen}
use Rattle.pm_reader.proofs.Numbering.{seen_from}
use Rattle.pm_reader.proofs.reading.source_of.Given as goal

-- If the remaining lines are read in the state of the reader, then the result is the state after all lines. Only the
-- remaining lines can have faults.
abbrev pub invariant-loop-part : goal.invariant-loop-part
invariant-loop-part l = record {
  count : l.number ≡ length l.yielded;
  faults : faults_from (l.number + 1) (reader_seen l.reader) (seen_from l.number (lines l.text)) ≡ faults_of_lines l.text;
  said : after_lines (reader_seen l.reader) (seen_from l.number (lines l.text)) ≡ after_lines start (lines_of l.text);
}
