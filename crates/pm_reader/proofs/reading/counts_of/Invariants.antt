use Rattle.std.proofs.Common.{◌≡◌, ◌+◌, length}
use Rattle.std.specs.Str.Lines.{lines}
use Rattle.pm_source.specs.Faults.{after_lines, lines_of, start}
use Rattle.pm_reader.specs.Reader.{reader_seen}
use Rattle.pm_reader.proofs.Numbering.{seen_from}
use Rattle.pm_reader.proofs.reading.counts_of.Given as goal

-- If the remaining lines are read in the state of the reader, then the result is the state after all lines.
abbrev pub invariant-loop-part : goal.invariant-loop-part
invariant-loop-part l = record {
  count : l.number ≡ length l.yielded;
  said : after_lines (reader_seen l.reader) (seen_from l.number (lines l.text)) ≡ after_lines start (lines_of l.text);
}
