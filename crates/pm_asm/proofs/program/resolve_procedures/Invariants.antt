use Rattle.std.proofs.Common.{◌≡◌, ◌++◌, drop, map}
use Rattle.pm_code.specs.Views.{procedure_seen}
use Rattle.pm_source.specs.Faults.{label_faults_from}
use Rattle.pm_source.specs.Meaning.{found_procedures}
use Rattle.pm_reader.specs.Views.{labelled_procedure}
use Rattle.pm_asm.proofs.program.resolve_procedures.Given as goal

-- Only the remaining procedures can have faults. The procedures up to here, followed by the results of the remaining
-- ones, are all procedures.
abbrev pub invariant-loop-procedure : goal.invariant-loop-procedure
invariant-loop-procedure l = record {
  faults : label_faults_from l.at (map labelled_procedure (drop l.procedure-index l.procedures)) ≡ label_faults_from 0 (map labelled_procedure l.procedures);
  found : map procedure_seen l.found.items ++ found_procedures l.at (map labelled_procedure (drop l.procedure-index l.procedures))
      ≡ found_procedures 0 (map labelled_procedure l.procedures);
}
