-- The numbers of the faults, and the lines or segments that the faults report.
use Rattle.std.specs.Prelude.{ℕ, Option, Some, None}
use Rattle.pm_source.specs.declared.fault.AsmFault.{AsmFault}
use Rattle.pm_source.specs.declared.fault.AsmFault.TheVariants.{Syntax, Unknown, Range, NoLabel}
use Rattle.pm_source.specs.declared.fault.AsmFault.TheVariants.{Twice, Far, TooLong, NoMemory}

abbrev pub number_of : AsmFault → ℕ
number_of (Syntax line) = 1
number_of (Unknown line) = 2
number_of (Range line) = 3
number_of (NoLabel line) = 4
number_of (Twice line) = 5
number_of (Far line) = 6
number_of (TooLong n) = 7
number_of NoMemory = 8

-- The line that a fault reports, or the number of the segment that is too long.
abbrev pub place_of : AsmFault → Option ℕ
place_of (Syntax line) = Some line
place_of (Unknown line) = Some line
place_of (Range line) = Some line
place_of (NoLabel line) = Some line
place_of (Twice line) = Some line
place_of (Far line) = Some line
place_of (TooLong n) = Some n
place_of NoMemory = None
