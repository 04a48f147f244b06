-- Lemmas about the first of the faults.
use Rattle.std.proofs.Common.{◌≡◌, ℕ, List, ◌∷◌, ◌++◌, refl, Some}
use Rattle.pm_code.specs.Program.{end_of}
use Rattle.pm_reader.proofs.Firsts.{first_front}
use Rattle.pm_reader.specs.Firsts.{first_of}
use Rattle.pm_asm.specs.Firsts.{row_faults}
use Rattle.pm_source.specs.declared.fault.AsmFault.{AsmFault}
use Rattle.pm_source.specs.Faults.{Places, code_faults, label_faults, label_faults_from, source_end}
use Rattle.pm_source.specs.Source.{Row, Source, row_items}
use Rattle.pm_source.specs.Source.Row.{Items, Exit}

-- The faults of code are those of its first line, followed by those of the other lines.
pub row_first : (places : Places) (at : ℕ) (row : Row) (rows : List Row)
    → code_faults places at (row ∷ rows) ≡ row_faults places at row ++ code_faults places (end_of at (row_items row)) rows
row_first places at (Items line label items) rows = refl
row_first places at Exit rows = refl

-- If the first procedure has a fault, then its first fault is the first of all faults.
pub procedure_first : (fault : AsmFault) (at : ℕ) (p : Source) (ps : List Source)
    → first_of (label_faults at p) ≡ Some fault → first_of (label_faults_from at (p ∷ ps)) ≡ Some fault
procedure_first fault at p ps h = first_front fault (label_faults at p) (label_faults_from (source_end at p) ps) h
