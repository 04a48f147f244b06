use Rattle.std.proofs.Common.{rules, ◌≡◌, ◌∙◌, ap, subst, sym}
use Rattle.std.specs.List.{AllByRecursion}
use Rattle.std.proofs.lemmas.Result.{err_from_is_err_and}
use Rattle.pm_code.specs.Program.{FollowFrom}
use Rattle.pm_code.specs.Views.{program_seen}
use Rattle.pm_source.specs.Meaning.{ascending}
use Rattle.pm_reader.specs.Views.{labelled_segments}
use Rattle.pm_asm.specs.Found.{by_number}
use Rattle.pm_asm.specs.Lengths.{AreShort}
use Rattle.pm_asm.proofs.FoundLengths.{all_follow}
use Rattle.pm_asm.proofs.Ordered.{found_ascending}
use Rattle.pm_asm.proofs.Stages.{IsReady, label_refused, line_refused, program_found, ready_faultless, too_long_refused}
use Rattle.pm_asm.proofs.assembly.program_of.Goals as goal

pub returns-in_err-segments-clause-refusal : goal.returns-in_err-segments-clause-refusal
returns-in_err-segments-clause-refusal c =
    let p = err_from_is_err_and c.from_residual.result c.from_residual.ensures.1 in
    rw (p.1, p.2) (λ other. line_refused c.args.text.now c.in_err-segments.field-0.0 c.in_err-segments.ensures.refusal other)

pub returns-in_err-found-clause-refusal : goal.returns-in_err-found-clause-refusal
returns-in_err-found-clause-refusal c =
    let p = err_from_is_err_and c.from_residual-in_err-found.result c.from_residual-in_err-found.ensures.1 in
    let read = ap labelled_segments c.deref.ensures.value ∙ c.in_ok-segments.ensures.read in
    rw (p.1, p.2) (λ other. label_refused c.args.text.now (labelled_segments c.deref.result.now) c.in_err-found.field-0.0
    c.in_ok-segments.ensures.faultless read c.in_err-found.ensures.refusal other)

pub check_lengths-requires : goal.check_lengths-requires
check_lengths-requires c =
    let ss = labelled_segments c.deref.result.now in
    let ordered : program_seen c.in_ok-program.program.items ≡ by_number 0 16 (program_seen c.in_ok-found.found.items) = search rules in
    let same = ap program_seen c.deref-2.ensures.value ∙ ordered ∙ ap (by_number 0 16) c.in_ok-found.ensures.found ∙ found_ascending ss in
    record { follow = subst (λ ts. AllByRecursion (λ s. FollowFrom 0 s.procedures) ts) (sym same) (all_follow (ascending ss)) }

pub returns-in_err-check_lengths-clause-refusal : goal.returns-in_err-check_lengths-clause-refusal
returns-in_err-check_lengths-clause-refusal c =
    let p = err_from_is_err_and c.from_residual-in_err-check_lengths.result c.from_residual-in_err-check_lengths.ensures.1 in
    let text = c.args.text.now in
    let ss = labelled_segments c.deref.result.now in
    let read = ap labelled_segments c.deref.ensures.value ∙ c.in_ok-segments.ensures.read in
    let ready : IsReady text ss =
    record { lines = c.in_ok-segments.ensures.faultless; read = read; labels = c.in_ok-found.ensures.faultless } in
    let ordered : program_seen c.in_ok-program.program.items ≡ by_number 0 16 (program_seen c.in_ok-found.found.items) = search rules in
    let same = program_found text ss (program_seen c.in_ok-found.found.items) (program_seen c.deref-2.result.now) read c.in_ok-found.ensures.found
    (ap program_seen c.deref-2.ensures.value ∙ ordered) in
    rw (p.1, p.2) (λ other. too_long_refused text ss (program_seen c.deref-2.result.now) c.in_err-check_lengths.field-0.0 ready same
    c.in_err-check_lengths.ensures.refusal other)

pub returns-clause-program : goal.returns-clause-program
returns-clause-program c =
    let text = c.args.text.now in
    let ss = labelled_segments c.deref.result.now in
    let read = ap labelled_segments c.deref.ensures.value ∙ c.in_ok-segments.ensures.read in
    let ordered : program_seen c.in_ok-program.program.items ≡ by_number 0 16 (program_seen c.in_ok-found.found.items) = search rules in
    program_found text ss (program_seen c.in_ok-found.found.items) (program_seen c.in_ok-program.program.items) read c.in_ok-found.ensures.found ordered

pub returns-clause-faultless : goal.returns-clause-faultless
returns-clause-faultless c =
    let text = c.args.text.now in
    let ss = labelled_segments c.deref.result.now in
    let read = ap labelled_segments c.deref.ensures.value ∙ c.in_ok-segments.ensures.read in
    ready_faultless text ss (record { lines = c.in_ok-segments.ensures.faultless; read = read; labels = c.in_ok-found.ensures.faultless })

pub returns-clause-short : goal.returns-clause-short
returns-clause-short c =
    let text = c.args.text.now in
    let ss = labelled_segments c.deref.result.now in
    let read = ap labelled_segments c.deref.ensures.value ∙ c.in_ok-segments.ensures.read in
    let ordered : program_seen c.in_ok-program.program.items ≡ by_number 0 16 (program_seen c.in_ok-found.found.items) = search rules in
    let same = program_found text ss (program_seen c.in_ok-found.found.items) (program_seen c.deref-2.result.now) read c.in_ok-found.ensures.found
    (ap program_seen c.deref-2.ensures.value ∙ ordered) in
    subst AreShort same c.in_ok-check_lengths.ensures.short
