use Rattle.std.proofs.Common.{◌≡◌, ◌++◌, drop, map}
use Rattle.pm_code.specs.Views.{program_seen}
use Rattle.pm_source.specs.Faults.{all_label_faults}
use Rattle.pm_source.specs.Meaning.{found_segment}
use Rattle.pm_reader.specs.Views.{labelled_segments}
use Rattle.pm_asm.proofs.program.resolve_segments.Given as goal

-- Only the remaining segments can have faults. The segments up to here, followed by the results of the remaining ones,
-- are all segments.
abbrev pub invariant-loop-segment : goal.invariant-loop-segment
invariant-loop-segment l = record {
  faults : all_label_faults (labelled_segments (drop l.segment-index l.segments)) ≡ all_label_faults (labelled_segments l.segments);
  found : program_seen l.found.items ++ map found_segment (labelled_segments (drop l.segment-index l.segments))
      ≡ map found_segment (labelled_segments l.segments);
}
