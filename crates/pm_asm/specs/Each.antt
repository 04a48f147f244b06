-- The first fault of each line of a text. `assembled` reports only the first of these faults.
use Rattle.std.specs.Prelude.{◌≡◌, ℕ, List, [], ◌∷◌, ◌++◌, Option, Some, None, Ok, Err, if◌then◌else◌}
use Rattle.std.specs.Option.{option_to_list}
use Rattle.pm_code.specs.Program.{end_of}
use Rattle.pm_reader.specs.Each.{first_in, firsts_of_lines}
use Rattle.pm_reader.specs.Firsts.{first_of}
use Rattle.pm_source.specs.declared.fault.AsmFault.{AsmFault}
use Rattle.pm_source.specs.Faults.{Places, entries_faults, place_of, source_end, source_of}
use Rattle.pm_source.specs.Source.{Row, Source, SourceSegment, row_items}
use Rattle.pm_source.specs.Words.{is_empty}
use Rattle.pm_asm.specs.Assembled.{Outcome, assembled}
use Rattle.pm_asm.specs.Firsts.{row_faults}

-- The first label fault of each line of code that begins at offset `at`. `places` has the offsets of the labels.
unfoldable pub code_firsts : Places → ℕ → List Row → List AsmFault
code_firsts places at [] = []
code_firsts places at (row ∷ rows) =
    first_in (row_faults places at row) ++ code_firsts places (end_of at (row_items row)) rows

-- The label faults of procedure `p`, which begins at offset `at`: first those of its code, then those of its jump table
-- entries. The list has at most one fault for each line.
unfoldable pub label_firsts : ℕ → Source → List AsmFault
label_firsts at p = code_firsts (place_of at p.code) at p.code ++ entries_faults (place_of at p.code) p.entries

unfoldable pub label_firsts_from : ℕ → List Source → List AsmFault
label_firsts_from at [] = []
label_firsts_from at (p ∷ ps) = label_firsts at p ++ label_firsts_from (source_end at p) ps

unfoldable pub all_label_firsts : List SourceSegment → List AsmFault
all_label_firsts [] = []
all_label_firsts (s ∷ ss) = label_firsts_from 0 s.procedures ++ all_label_firsts ss

abbrev pub fault_in : Outcome → Option AsmFault
fault_in (Ok made) = None
fault_in (Err fault) = Some fault

-- The faults of `text`: the first fault of each line, not counting label faults. If no line has such a fault, the first
-- label fault of each line. If no line has a label fault either, `TooLong` if a segment is too long.
unfoldable pub all_faults : List ℕ → List AsmFault
all_faults text =
    if is_empty (firsts_of_lines text) then (if is_empty (all_label_firsts (source_of text))
    then option_to_list (fault_in (assembled text)) else all_label_firsts (source_of text)) else firsts_of_lines text

-- States that `assembled` returns the first of all faults if it fails. If it succeeds, the list of all faults is empty.
abbrev pub FirstOfAll : Type 0
FirstOfAll = (text : List ℕ) → first_of (all_faults text) ≡ fault_in (assembled text)
