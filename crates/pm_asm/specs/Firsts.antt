-- The offsets of labels, and the faults of the labels of one line.
use Rattle.std.specs.Prelude.{ℕ, List, [], map}
use Rattle.pm_asm.specs.declared.code.Code.{Code}
use Rattle.pm_line.specs.Views.{row_seen}
use Rattle.pm_source.specs.declared.fault.AsmFault.{AsmFault}
use Rattle.pm_source.specs.Faults.{Places, items_faults, place_of}
use Rattle.pm_source.specs.Source.{Row, code_end}
use Rattle.pm_source.specs.Source.Row.{Items, Exit}

-- The offset of each label of `code`, by the name of the label.
abbrev pub places_in : Code → Places
places_in code = place_of code.start (map row_seen code.rows.now)

-- The offset at which `code` ends.
abbrev pub end_in : Code → ℕ
end_in code = code_end code.start (map row_seen code.rows.now)

-- The label faults of one line, whose first item is at offset `at`. `places` has the offsets of the labels.
abbrev pub row_faults : Places → ℕ → Row → List AsmFault
row_faults places at (Items line label items) = items_faults places line at items
row_faults places at Exit = []
