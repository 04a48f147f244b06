use Rattle.std.proofs.Common.{rules, ◌≡◌, ◌∙◌, ap, sym}
use Rattle.std.specs.Prelude.{Ok}
use Rattle.pm_reader.specs.Views.{labelled_segments}
use Rattle.pm_source.specs.Faults.{source_of}
use Rattle.pm_asm.specs.SymbolViews.{symbols_seen}
use Rattle.pm_asm.specs.Symbols.{symbol_lines, symbols}
use Rattle.pm_asm.proofs.SymbolPlaces.{symbols_told}
use Rattle.pm_asm.proofs.symbols.assemble_symbols.Goals as goal

pub returns-clause-symbols : goal.returns-clause-symbols
returns-clause-symbols c =
    let text = c.args.text.now in
    let read : labelled_segments c.in_ok-segments.segments.items ≡ source_of text = search rules in
    let found : symbols_seen c.in_ok-found.found.items ≡ symbols (labelled_segments c.deref.result.now) = search rules in
    let made : c.in_ok-lines.lines.items ≡ symbol_lines (symbols_seen c.deref-2.result.now) = search rules in
    symbols_told text c.in_ok-program_of.ensures.faultless c.in_ok-program_of.ensures.short
    ∙ sym (ap Ok (made ∙ ap (λ ss. symbol_lines (symbols_seen ss)) c.deref-2.ensures.value
    ∙ ap symbol_lines (found ∙ ap (λ ss. symbols (labelled_segments ss)) c.deref.ensures.value ∙ ap symbols read)))
