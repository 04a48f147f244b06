-- The fault that a job reports for a file that could not be read or written.
use Rattle.pm_jobs.specs.declared.fault.Fault.{Fault}
use Rattle.pm_jobs.specs.declared.fault.Fault.TheVariants as faults
use Rattle.pm_files.specs.declared.fault.DiskFault.{DiskFault}
use Rattle.pm_files.specs.declared.fault.DiskFault.TheVariants as disk

-- Returns the fault that a job reports for a fault of a file. If another program has locked the file, it is a read
-- fault. If the file was replaced or its temporary path cannot be cleared, it is a write fault.
abbrev pub fault_of : DiskFault → Fault
fault_of (disk.Read kind) = faults.Read
fault_of disk.TooLong = faults.Read
fault_of disk.Busy = faults.Read
fault_of (disk.Write kind) = faults.Write
fault_of disk.Replaced = faults.Write
fault_of disk.InTheWay = faults.Write
fault_of disk.NoMemory = faults.NoMemory
