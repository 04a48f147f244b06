-- The numbers of the statuses that calls return.
use Rattle.std.specs.Prelude.{ℕ, ◌+◌, List, [], ◌∷◌, Option, Some, None, Result, Ok, Err, if◌then◌else◌}
use Rattle.pm_words.specs.Errors.{number_of}
use Rattle.pm_words.specs.Stack.{is_even}
use Rattle.pm_volume.specs.Directory.{image_fault}
use Rattle.pm_volume.specs.Faults.{number_of as volume_number}
use Rattle.pm_volume.specs.declared.fault.VolumeFault.{VolumeFault}
use Rattle.pm_units.specs.Devices.{Devices, mount_number, mounted}
use Rattle.pm_units.specs.declared.ports.MountFault.{MountFault}
use Rattle.pm_machine.specs.Boot.{boot_start}
use Rattle.pm_machine.specs.Faults.{boot_number}
use Rattle.pm_machine.specs.State.{State}
use Rattle.pm_machine.specs.declared.state.BootFault.{BootFault}
use Rattle.pm_machine.specs.declared.state.BootFault.TheVariants.{NoFile, NotCode, BadCode, Exec, NoMemory}
use Rattle.pm_machine.specs.declared.state.Status.{Status}
use Rattle.pm_machine.specs.declared.state.Status.TheVariants as status
use Rattle.pm_machine.specs.declared.state.Stop.{Stop}
use Rattle.pm_machine.specs.declared.state.Stop.TheVariants as stop
use Rattle.pm_c.specs.declared.status.TheConstants.{DONE, NO_MEMORY, ODD_ADDRESS}

-- Returns the status of a step with this end.
abbrev pub stop_code : Stop → ℕ
stop_code stop.Went = 0
stop_code stop.Waiting = 1
stop_code stop.Ended = 2
stop_code (stop.Halted error) = 100 + number_of error

-- Returns the number that calls return for the status of a machine.
abbrev pub status_code : Status → ℕ
status_code status.Running = 0
status_code status.Ended = 2
status_code (status.Halted error) = 100 + number_of error

-- Returns the status of a start that is refused because of a fault. It is 100 plus the number of the execution error if
-- the first call of the program fails. Otherwise it is 200 plus the number of the fault, or `NO_MEMORY`.
abbrev pub boot_code : BootFault → ℕ
boot_code NoFile = 200 + boot_number NoFile
boot_code NotCode = 200 + boot_number NotCode
boot_code BadCode = 200 + boot_number BadCode
boot_code (Exec error) = 100 + number_of error
boot_code NoMemory = NO_MEMORY

abbrev pub start_code : Result State BootFault → ℕ
start_code (Ok machine) = DONE
start_code (Err fault) = boot_code fault

-- Returns 400 plus the number of the fault if an image is no volume, and `code` otherwise.
abbrev pub volume_code : Option VolumeFault → ℕ → ℕ
volume_code None code = code
volume_code (Some fault) code = 400 + volume_number fault

-- The list of disks with `image` on unit 4 and no disk on the other units.
abbrev pub on_unit_4 : List ℕ → List (Option (List ℕ))
on_unit_4 image = Some image ∷ None ∷ None ∷ None ∷ None ∷ None ∷ []

-- Returns the status of a call that starts the program `name` from the image on unit 4.
abbrev pub program_code : List ℕ → List ℕ → ℕ → ℕ
program_code image name clock =
    volume_code (image_fault image) (start_code (boot_start (on_unit_4 image) 4 name clock))

-- Returns the status of a mount: 300 plus the number of the fault if the mount is refused.
abbrev pub mount_code : Result Devices MountFault → ℕ
mount_code (Ok devices) = DONE
mount_code (Err fault) = 300 + mount_number fault

abbrev pub image_code : ℕ → List ℕ → Devices → ℕ
image_code unit image devices = volume_code (image_fault image) (mount_code (mounted unit image devices))

-- Returns the status of a call that writes a word at `address`.
abbrev pub poke_code : ℕ → ℕ
poke_code address = if is_even address then DONE else ODD_ADDRESS
