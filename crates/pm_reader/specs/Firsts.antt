-- The first fault of a list of faults.
use Rattle.std.specs.Prelude.{◌≡◌, ◌≢◌, List, [], ◌∷◌, Option, Some, None}
use Rattle.pm_source.specs.declared.fault.AsmFault.{AsmFault}
use Rattle.pm_source.specs.declared.fault.AsmFault.TheVariants.{NoMemory}

abbrev pub first_of : List AsmFault → Option AsmFault
first_of [] = None
first_of (fault ∷ faults) = Some fault

-- States that `fault` is the first item of `faults`, or that it is `NoMemory`.
abbrev pub IsFirstOf : AsmFault → List AsmFault → Type 0
IsFirstOf fault faults = fault ≢ NoMemory → first_of faults ≡ Some fault
