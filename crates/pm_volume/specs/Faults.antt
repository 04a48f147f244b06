-- The numbers of the faults of volumes.
use Rattle.std.specs.Prelude.{ℕ, Option, Some, None}
use Rattle.pm_volume.specs.declared.fault.VolumeFault.{VolumeFault}
use Rattle.pm_volume.specs.declared.fault.VolumeFault.TheVariants.{NotBlocks, TooShort, BadHeader, BadEntry}
use Rattle.pm_volume.specs.declared.fault.VolumeFault.TheVariants.{TooManyFiles, PastEnd, NoRoom, DirectoryFull}
use Rattle.pm_volume.specs.declared.fault.VolumeFault.TheVariants.{Duplicate, BadName, NoFile, NoMemory, FirstCopyBad}
use Rattle.pm_volume.specs.declared.fault.VolumeFault.TheVariants.{Occupied}

-- The number of a fault, as the program prints it.
abbrev pub number_of : VolumeFault → ℕ
number_of NotBlocks = 1
number_of TooShort = 2
number_of BadHeader = 3
number_of (BadEntry n) = 4
number_of TooManyFiles = 5
number_of PastEnd = 6
number_of NoRoom = 7
number_of DirectoryFull = 8
number_of Duplicate = 9
number_of BadName = 10
number_of NoFile = 11
number_of NoMemory = 12
number_of (FirstCopyBad n) = 13
number_of Occupied = 14

-- The second number of a fault that has one: the number of the damaged entry, or the number of the fault of the first
-- copy.
abbrev pub detail_of : VolumeFault → Option ℕ
detail_of NotBlocks = None
detail_of TooShort = None
detail_of BadHeader = None
detail_of (BadEntry n) = Some n
detail_of TooManyFiles = None
detail_of PastEnd = None
detail_of NoRoom = None
detail_of DirectoryFull = None
detail_of Duplicate = None
detail_of BadName = None
detail_of NoFile = None
detail_of NoMemory = None
detail_of (FirstCopyBad n) = Some n
detail_of Occupied = None
