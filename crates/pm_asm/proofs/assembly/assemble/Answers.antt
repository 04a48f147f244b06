use Rattle.std.proofs.Common.{rules, ◌≡◌, ◌∙◌, ap, subst, sym, string_bytes}
use Rattle.std.proofs.lemmas.Result.{err_from_is_err_and}
use Rattle.pm_code.specs.Image.{file_of, listing}
use Rattle.pm_code.specs.Program.{FitSlots, IsProgram}
use Rattle.pm_code.specs.Views.{program_seen}
use Rattle.pm_asm.proofs.Fitting.{short_fits}
use Rattle.pm_asm.proofs.Outcomes.{faultless_is_program, is_assembled, is_spelled, refused_spells_nothing}
use Rattle.pm_asm.proofs.assembly.assemble.Goals as goal

pub returns-in_err-program-clause-unspelled : goal.returns-in_err-program-clause-unspelled
returns-in_err-program-clause-unspelled c =
    let p = err_from_is_err_and c.from_residual.result c.from_residual.ensures.1 in
    rw (p.1, p.2) (λ other. refused_spells_nothing c.args.text.now c.in_err-program.field-0.0 (c.in_err-program.ensures.refusal other))

pub code_file-requires-clause-program : goal.code_file-requires-clause-program
code_file-requires-clause-program c =
    let same = ap program_seen c.deref.ensures.value ∙ c.in_ok-program.ensures.program in
    subst IsProgram (sym same) (faultless_is_program c.args.text.now c.in_ok-program.ensures.faultless c.in_ok-program.ensures.short)

pub code_file-requires-clause-fit : goal.code_file-requires-clause-fit
code_file-requires-clause-fit c =
    let same = ap program_seen c.deref.ensures.value ∙ c.in_ok-program.ensures.program in
    subst FitSlots (sym same) (short_fits _ c.in_ok-program.ensures.short)

pub listing_of-requires-clause-program : goal.listing_of-requires-clause-program
listing_of-requires-clause-program c =
    let same = ap program_seen c.deref-2.ensures.value ∙ c.in_ok-program.ensures.program in
    subst IsProgram (sym same) (faultless_is_program c.args.text.now c.in_ok-program.ensures.faultless c.in_ok-program.ensures.short)

pub listing_of-requires-clause-fit : goal.listing_of-requires-clause-fit
listing_of-requires-clause-fit c =
    let same = ap program_seen c.deref-2.ensures.value ∙ c.in_ok-program.ensures.program in
    subst FitSlots (sym same) (short_fits _ c.in_ok-program.ensures.short)

pub returns-clause-assembled : goal.returns-clause-assembled
returns-clause-assembled c =
    let first = ap program_seen c.deref.ensures.value ∙ c.in_ok-program.ensures.program in
    let second = ap program_seen c.deref-2.ensures.value ∙ c.in_ok-program.ensures.program in
    let image : c.in_ok-file.file.items ≡ file_of (program_seen c.deref.result.now) = search rules in
    let lines : string_bytes c.in_ok-listing.listing ≡ listing (program_seen c.deref-2.result.now) = search rules in
    is_assembled c.args.text.now c.in_ok-file.file.items (string_bytes c.in_ok-listing.listing) c.in_ok-program.ensures.faultless
    c.in_ok-program.ensures.short (image ∙ ap file_of first) (lines ∙ ap listing second)

pub returns-clause-spelled : goal.returns-clause-spelled
returns-clause-spelled c =
    let first = ap program_seen c.deref.ensures.value ∙ c.in_ok-program.ensures.program in
    let second = ap program_seen c.deref-2.ensures.value ∙ c.in_ok-program.ensures.program in
    let image : c.in_ok-file.file.items ≡ file_of (program_seen c.deref.result.now) = search rules in
    let lines : string_bytes c.in_ok-listing.listing ≡ listing (program_seen c.deref-2.result.now) = search rules in
    is_spelled c.args.text.now c.in_ok-file.file.items (string_bytes c.in_ok-listing.listing) c.in_ok-program.ensures.faultless
    c.in_ok-program.ensures.short (image ∙ ap file_of first) (lines ∙ ap listing second)
