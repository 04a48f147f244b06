-- The numbers of the faults, and the slots that the faults report.
use Rattle.std.specs.Prelude.{ℕ, Option, Some, None}
use Rattle.pm_codefile.specs.declared.fault.CodeFault.{CodeFault}
use Rattle.pm_codefile.specs.declared.fault.CodeFault.TheVariants.{NoDictionary, SlotPastEnd, OddLength}

abbrev pub number_of : CodeFault → ℕ
number_of NoDictionary = 1
number_of (SlotPastEnd n) = 2
number_of (OddLength n) = 3

abbrev pub slot_of_fault : CodeFault → Option ℕ
slot_of_fault NoDictionary = None
slot_of_fault (SlotPastEnd n) = Some n
slot_of_fault (OddLength n) = Some n
