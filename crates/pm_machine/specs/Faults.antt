-- The numbers of the faults for which a machine cannot be created.
use Rattle.std.specs.Prelude.{ℕ}
use Rattle.pm_machine.specs.declared.state.BootFault.{BootFault}
use Rattle.pm_machine.specs.declared.state.BootFault.TheVariants.{NoFile, NotCode, BadCode, Exec, NoMemory}

abbrev pub boot_number : BootFault → ℕ
boot_number NoFile = 1
boot_number NotCode = 2
boot_number BadCode = 3
boot_number (Exec e) = 4
boot_number NoMemory = 5
