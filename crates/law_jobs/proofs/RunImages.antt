-- Lemmas for the images that a run leaves.
use Rattle.std.proofs.Common.{◌≡◌, ℕ, List, [], ◌∷◌, Option, Some, None, Result, Ok, Err, refl}
use Rattle.pm_volume.specs.declared.fault.VolumeFault.{VolumeFault}
use Rattle.pm_words.specs.Stack.{◌>>=◌}
use Rattle.pm_machine.specs.Boot.{begun, boot_start}
use Rattle.pm_machine.specs.Start.{devices_with}
use Rattle.pm_machine.specs.State.{State}
use Rattle.pm_machine.specs.declared.state.BootFault.{BootFault}
use Rattle.pm_units.specs.Devices.{Devices, ejected_image, unit_of}
use Rattle.pm_jobs.specs.declared.saving.Saving.{Saving}
use Rattle.pm_tool.specs.Disks.{booted_unless, first_disk_fault, images_with, started}
use Rattle.law_jobs.specs.ToolLaws.{ImagesAreOfTheirUnits, SavingChangesNothing, SayTheSame}
use Rattle.pm_tool.specs.Run.{Run, run_of}
use Rattle.pm_tool.specs.Said.{run_said}

-- If a boot is started with the state `m`, then it has succeeded with this state.
was_started : (r : Result State BootFault) (m : State) → started r ≡ Ok m → r ≡ Ok m
was_started (Ok n) m e = cc
was_started (Err fault) m e = absurd (cc)

behind_start : {A : Type 0} (r : Result A BootFault) (f : A → Result State BootFault) (d : Devices) (m : State)
    → ((a : A) (n : State) → f a ≡ Ok n → n.devices ≡ d) → started (r >>= f) ≡ Ok m → m.devices ≡ d
behind_start (Ok a) f d m has e = has a m (was_started (f a) m e)
behind_start (Err fault) f d m has e = absurd (cc)

booted_devices : (images : List (Option (List ℕ))) (name : List ℕ) (m : State)
    → started (boot_start images 4 name 0) ≡ Ok m → m.devices ≡ devices_with images 0
unfolding boot_start
booted_devices images name m e = behind_start (begun images 4 name) _ (devices_with images 0) m (λ b n t. cc) e

started_devices : (images : List (Option (List ℕ))) (name : List ℕ) (m : State) (fault : Option VolumeFault)
    → booted_unless fault images name None ≡ Ok m → images_with None name images ≡ Ok images → m.devices ≡ devices_with images 0
started_devices images name m None e i = booted_devices images name m cc
started_devices images name m (Some fault) e i = absurd (cc)

pub images_are_of_their_units : ImagesAreOfTheirUnits
unfolding run_of ejected_image unit_of
images_are_of_their_units show d4 d5 d9 d10 d11 d12 name input m e =
    let images : List (Option (List ℕ)) = d4 ∷ d5 ∷ d9 ∷ d10 ∷ d11 ∷ d12 ∷ [] in
    let d : m.devices ≡ devices_with images 0 = started_devices images name m (first_disk_fault images) e refl in
    (rw d refl, rw d refl)

same : (run : Run) (saving other : Saving) → SayTheSame (run_said saving run) (run_said other run)
same run saving other = record { written = refl; exit = refl; message = refl; printer = refl; unread = refl; stopped = refl }

pub saving_changes_nothing : SavingChangesNothing
saving_changes_nothing run = record { same = same run; fourth = refl; others = refl; no_fourth = refl }
