-- Maps from the values of the reader to the values of the definitions, and statements about the fault that it returns.
use Rattle.std.specs.Prelude.{◌≡◌, ◌<◌, ℕ, List, [], Option, Some, None}
use Rattle.std.specs.Option.{option_map}
use Rattle.pm_reader.specs.declared.current.Current.{Current}
use Rattle.pm_reader.specs.declared.reader.Reader.{Reader}
use Rattle.pm_reader.specs.Firsts.{IsFirstOf}
use Rattle.pm_reader.specs.Views.{labelled_procedure, labelled_segments}
use Rattle.pm_source.specs.declared.fault.AsmFault.{AsmFault}
use Rattle.pm_source.specs.Faults.{Reading}
use Rattle.pm_source.specs.Source.{Source, code_end}

-- A procedure that has not ended, as a procedure of the definitions.
abbrev pub current_seen : Current → Source
current_seen current = labelled_procedure current.procedure

-- The state of the reader `r`, as a state of the definitions.
abbrev pub reader_seen : Reader → Reading
reader_seen r = record { segments = labelled_segments r.segments.items; current = option_map current_seen r.current }

-- The offset after the code of the procedure that has not ended, or 0 if there is no such procedure.
abbrev pub open_end : Option Source → ℕ
open_end None = 0
open_end (Some p) = code_end 0 p.code

-- States that the offset `end` does not fit in 64 bits.
abbrev pub IsCountless : ℕ → Type 0
IsCountless end = 18446744073709551615 < end

-- States that a returned fault agrees with the list of all faults. If none is returned, the list is empty. Otherwise
-- the returned fault is the first of the list, or `NoMemory`.
abbrev pub Answers : Option AsmFault → List AsmFault → Type 0
Answers None faults = faults ≡ []
Answers (Some fault) faults = IsFirstOf fault faults
