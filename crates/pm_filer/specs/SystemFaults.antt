-- The numbers of the faults of adding a system segment.
use Rattle.std.specs.Prelude.{ℕ}
use Rattle.pm_filer.specs.declared.system_fault.SystemFault.{SystemFault}
use Rattle.pm_filer.specs.declared.system_fault.SystemFault.TheVariants.{NoCode, NoSegment, NoProgram, Taken, Volume}
use Rattle.pm_filer.specs.declared.system_fault.SystemFault.TheVariants.{NoMemory}

abbrev pub number_of : SystemFault → ℕ
number_of (NoCode fault) = 1
number_of NoSegment = 2
number_of (NoProgram fault) = 3
number_of Taken = 4
number_of (Volume fault) = 5
number_of NoMemory = 6
