-- Laws of the first fault of a list of faults.
use Rattle.std.proofs.Common.{◌≡◌, List, [], ◌∷◌, ◌++◌, Some}
use Rattle.pm_reader.specs.Firsts.{first_of}
use Rattle.pm_source.specs.declared.fault.AsmFault.{AsmFault}

-- If a list has a first fault, then it is also the first fault of any longer list that begins with this list.
pub first_front : (fault : AsmFault) (xs ys : List AsmFault) → first_of xs ≡ Some fault → first_of (xs ++ ys) ≡ Some fault
first_front fault [] ys h = absurd (cc)
first_front fault (x ∷ xs) ys h = h
