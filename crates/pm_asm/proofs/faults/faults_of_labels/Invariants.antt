use Rattle.std.proofs.Common.{◌≡◌, ◌++◌, drop}
use Rattle.pm_reader.specs.Views.{labelled_segments}
use Rattle.pm_asm.specs.Each.{all_label_firsts}
use Rattle.pm_asm.proofs.faults.faults_of_labels.Given as goal

-- The faults up to here, followed by those of the remaining segments, are all faults.
abbrev pub invariant-loop-segment : goal.invariant-loop-segment
invariant-loop-segment l = record {
  noted : l.found.items ++ all_label_firsts (labelled_segments (drop l.segment-index l.segments)) ≡ all_label_firsts (labelled_segments l.segments);
}
