use Rattle.std.proofs.Common.{◌≡◌, ◌<◌, ℕ, List, Some, drop, get_or, length, map, arith, drop-cons}
use Rattle.std.specs.Prelude.{suc}
use Rattle.std.proofs.lemmas.Result.{err_from_is_err_and}
use Rattle.pm_reader.specs.Firsts.{first_of}
use Rattle.pm_reader.specs.Views.{labelled_procedure}
use Rattle.pm_reader.specs.declared.source.LabelledProcedure.{LabelledProcedure}
use Rattle.pm_asm.proofs.Firsts.{procedure_first}
use Rattle.pm_source.specs.declared.fault.AsmFault.{AsmFault}
use Rattle.pm_source.specs.Faults.{label_faults, label_faults_from}
use Rattle.pm_asm.proofs.program.resolve_procedures.Goals as goal

-- If the procedure with index `i` has a fault, then its first fault is the first of the remaining faults.
first_left : (fault : AsmFault) (at i : ℕ) (ps : List LabelledProcedure) (p : LabelledProcedure) (whole : List AsmFault)
    → i < length ps → p ≡ get_or ps i p → label_faults_from at (map labelled_procedure (drop i ps)) ≡ whole
    → first_of (label_faults at (labelled_procedure p)) ≡ Some fault → first_of whole ≡ Some fault
first_left fault at i ps p whole l e w h =
    rw (← w, drop-cons ps i p, ← e) (procedure_first fault at (labelled_procedure p) (map labelled_procedure (drop (suc i) ps)) h)

pub returns-in_err-one-clause-refusal : goal.returns-in_err-one-clause-refusal
returns-in_err-one-clause-refusal c =
    let p = err_from_is_err_and c.from_residual.result c.from_residual.ensures.1 in
    rw (p.1, p.2) (λ known. first_left _ c.loop-procedure.at c.loop-procedure.procedure-index c.args.procedures.now c.procedure-item.result _
    (omega arith) c.procedure-item.is c.loop-procedure.invariant.faults (c.in_err-one.ensures.refusal known))
