-- The messages for the reasons why jobs are aborted.
use Rattle.std.specs.Prelude.{ℕ, List, codes}
use Rattle.pm_jobs.specs.declared.fault.Fault.{Fault}
use Rattle.pm_jobs.specs.declared.fault.Fault.TheVariants as faults

abbrev pub fault_text : Fault → List ℕ
fault_text faults.Read = codes "read fault"
fault_text faults.Write = codes "write fault"
fault_text faults.NoMemory = codes "no memory"
