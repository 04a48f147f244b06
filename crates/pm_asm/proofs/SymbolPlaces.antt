-- The offsets of labels, as the debugger counts them.
use Rattle.std.proofs.Common.{◌≡◌, ◌≤◌, ℕ, ◌+◌, ◌-◌, Bool, true, false, List, [], ◌∷◌, ap, ◌∙◌, arith, Some}
use Rattle.std.specs.Prelude.{if◌then◌else◌, Ok, Err}
use Rattle.std.specs.Option.{unwrap_or}
use Rattle.pm_code.proofs.Counted.{end_after}
use Rattle.pm_code.specs.Program.{end_of}
use Rattle.pm_source.specs.declared.fault.AsmFault.{AsmFault}
use Rattle.pm_source.specs.Faults.{faults, place_of, source_of}
use Rattle.pm_source.specs.Meaning.{program_of}
use Rattle.pm_source.specs.Source.{Name, Row, has_label, row_items}
use Rattle.pm_asm.specs.Assembled.{assembled}
use Rattle.pm_asm.specs.Lengths.{AreShort}
use Rattle.pm_asm.specs.Symbols.{JumpsLeadToSymbols, symbol_lines, symbol_text, symbols, symbols_by}
use Rattle.pm_asm.proofs.Outcomes.{assembled_ok}

-- If a label of code that begins at offset `at` has the offset `place`, then `place` is not before `at`.
pub place_after : (rows : List Row) (at : ℕ) (name : Name) (place : ℕ) → place_of at rows name ≡ Some place → at ≤ place
place_after [] at name place h = absurd cc
place_after (row ∷ rows) at name place h =
    by (has_label name row) (λ e. place_after rows (end_of at (row_items row)) name place e) h
  where
    by : (b : Bool) → (place_of (end_of at (row_items row)) rows name ≡ Some place → end_of at (row_items row) ≤ place)
        → (if b then Some at else place_of (end_of at (row_items row)) rows name) ≡ Some place → at ≤ place
    by true more e = let same : at ≡ place = cc in omega (arith, same)
    by false more e = let before = end_after at (row_items row) in let behind = more e in omega (arith, before, behind)

pub jumps_lead_to_symbols : JumpsLeadToSymbols
jumps_lead_to_symbols segment procedure start rows name place leads =
    let above = place_after rows start name place leads in
    ap (λ o. start + (unwrap_or o 0 - start)) leads ∙ omega (arith, above)

-- If `text` has no fault and its segments are not too long, then its symbol lines exist.
pub symbols_told : (text : List ℕ) → faults text ≡ [] → AreShort (program_of text) → symbol_text text ≡ Ok (symbol_lines (symbols (source_of text)))
unfolding symbol_text
symbols_told text none short = ap (symbols_by text) (assembled_ok text none short)

-- If assembling `text` is refused, then the list of its symbols is refused with the same fault.
pub symbols_refused : (text : List ℕ) (fault : AsmFault) → assembled text ≡ Err fault → symbol_text text ≡ Err fault
unfolding symbol_text
symbols_refused text fault h = ap (symbols_by text) h
