-- The numbers of the faults, and the lines or positions that the faults report.
use Rattle.std.specs.Prelude.{ℕ, Option, Some, None}
use Rattle.pm_textfile.specs.declared.fault.TextFault.{TextFault}
use Rattle.pm_textfile.specs.declared.fault.TextFault.TheVariants.{NoHeader, NoMemory, LineTooLong, BadByte}

abbrev pub number_of : TextFault → ℕ
number_of NoHeader = 1
number_of NoMemory = 2
number_of (LineTooLong line) = 3
number_of (BadByte place) = 4

abbrev pub place_of_text_fault : TextFault → Option ℕ
place_of_text_fault NoHeader = None
place_of_text_fault NoMemory = None
place_of_text_fault (LineTooLong line) = Some line
place_of_text_fault (BadByte place) = Some place
