use Rattle.std.proofs.Common.{rules, ◌≡◌, ◌∙◌, ap, subst, sym, false}
use Rattle.std.specs.Prelude.{Ok}
use Rattle.pm_code.specs.Program.{FitSlots, IsProgram}
use Rattle.pm_code.specs.Image.{file_of}
use Rattle.pm_code.specs.Views.{program_seen}
use Rattle.pm_asm.specs.Assembled.{wanted}
use Rattle.pm_asm.proofs.Fitting.{short_fits}
use Rattle.pm_asm.proofs.Outcomes.{assembled_ok, faultless_is_program}
use Rattle.pm_asm.proofs.assembly.assemble_file.Goals as goal

pub code_file-requires-clause-program : goal.code_file-requires-clause-program
code_file-requires-clause-program c =
    let text = c.args.text.now in
    let same = ap program_seen c.deref.ensures.value ∙ c.in_ok-program.ensures.program in
    subst IsProgram (sym same) (faultless_is_program text c.in_ok-program.ensures.faultless c.in_ok-program.ensures.short)

pub code_file-requires-clause-fit : goal.code_file-requires-clause-fit
code_file-requires-clause-fit c =
    let same = ap program_seen c.deref.ensures.value ∙ c.in_ok-program.ensures.program in
    subst FitSlots (sym same) (short_fits _ c.in_ok-program.ensures.short)

pub returns-clause-file : goal.returns-clause-file
returns-clause-file c =
    let text = c.args.text.now in
    let same = ap program_seen c.deref.ensures.value ∙ c.in_ok-program.ensures.program in
    let made : c.in_ok-file.file.items ≡ file_of (program_seen c.deref.result.now) = search rules in
    ap (wanted false) (assembled_ok text c.in_ok-program.ensures.faultless c.in_ok-program.ensures.short) ∙ sym (ap Ok (made ∙ ap file_of same))
