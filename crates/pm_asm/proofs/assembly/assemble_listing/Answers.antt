use Rattle.std.proofs.Common.{rules, ◌≡◌, ◌∙◌, ap, subst, sym, true, string_bytes}
use Rattle.std.specs.Prelude.{Ok}
use Rattle.pm_code.specs.Program.{FitSlots, IsProgram}
use Rattle.pm_code.specs.Image.{listing}
use Rattle.pm_code.specs.Views.{program_seen}
use Rattle.pm_asm.specs.Assembled.{wanted}
use Rattle.pm_asm.proofs.Fitting.{short_fits}
use Rattle.pm_asm.proofs.Outcomes.{assembled_ok, faultless_is_program}
use Rattle.pm_asm.proofs.assembly.assemble_listing.Goals as goal

pub listing_of-requires-clause-program : goal.listing_of-requires-clause-program
listing_of-requires-clause-program c =
    let text = c.args.text.now in
    let same = ap program_seen c.deref.ensures.value ∙ c.in_ok-program.ensures.program in
    subst IsProgram (sym same) (faultless_is_program text c.in_ok-program.ensures.faultless c.in_ok-program.ensures.short)

pub listing_of-requires-clause-fit : goal.listing_of-requires-clause-fit
listing_of-requires-clause-fit c =
    let same = ap program_seen c.deref.ensures.value ∙ c.in_ok-program.ensures.program in
    subst FitSlots (sym same) (short_fits _ c.in_ok-program.ensures.short)

pub returns-clause-listing : goal.returns-clause-listing
returns-clause-listing c =
    let text = c.args.text.now in
    let same = ap program_seen c.deref.ensures.value ∙ c.in_ok-program.ensures.program in
    let made : string_bytes c.in_ok-listing.listing ≡ listing (program_seen c.deref.result.now) = search rules in
    ap (wanted true) (assembled_ok text c.in_ok-program.ensures.faultless c.in_ok-program.ensures.short) ∙ sym (ap Ok (made ∙ ap listing same))
