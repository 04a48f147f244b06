use Rattle.std.proofs.Common.{◌≡◌, ◌++◌, drop, map}
use Rattle.pm_reader.specs.Views.{labelled_procedure}
use Rattle.pm_asm.specs.Each.{label_firsts_from}
use Rattle.pm_asm.proofs.faults.note_procedures.Given as goal

-- The faults up to here, followed by those of the remaining procedures, are all faults.
abbrev pub invariant-loop-procedure : goal.invariant-loop-procedure
invariant-loop-procedure l = record {
  noted : l.found.items ++ label_firsts_from l.at (map labelled_procedure (drop l.procedure-index l.procedures))
      ≡ l.fn.found.items ++ label_firsts_from 0 (map labelled_procedure l.procedures);
}
