-- Proofs of the laws about the statuses and about buffers.
use Rattle.std.proofs.Common.{arith, ◌≡◌, ℕ, [], ◌++◌, length, drop, nat_lt, true, false, refl, sym, ap, ◌∙◌, inl, inr}
use Rattle.std.proofs.lemmas.Bool.{cases_Bool}
use Rattle.std.proofs.lemmas.Bool.Decides.{nat_tests}
use Rattle.std.proofs.lemmas.List.{append-nil, drop_all}
use Rattle.std.specs.Prelude.{Option, None, Some, Result, Ok, Err, IsOk, if◌then◌else◌}
use Rattle.pm_volume.specs.Directory.{image_fault}
use Rattle.pm_volume.specs.declared.fault.VolumeFault.{VolumeFault}
use Rattle.pm_units.specs.Devices.{Devices, mounted}
use Rattle.pm_units.specs.declared.ports.MountFault.{MountFault}
use Rattle.pm_units.specs.declared.ports.MountFault.TheVariants.{NoUnit, Taken}
use Rattle.pm_machine.specs.Boot.{boot_start}
use Rattle.pm_machine.specs.State.{State}
use Rattle.pm_machine.specs.declared.state.BootFault.{BootFault}
use Rattle.pm_machine.specs.declared.state.BootFault.TheVariants.{NoFile, NotCode, BadCode, Exec, NoMemory}
use Rattle.pm_machine.specs.declared.state.Stop.TheVariants as stop
use Rattle.pm_c.specs.Codes.{mount_code, on_unit_4, start_code, volume_code}
use Rattle.pm_c.specs.Laws.{AnswersAreApart, MountIsTold, StartIsTold, WantedLengthIsEnough}
use Rattle.pm_c.specs.declared.status.TheConstants.{DONE, TOO_SHORT}

volume_told : (fault : Option VolumeFault) (code : ℕ) → volume_code fault code ≡ DONE → (fault ≡ None) × (code ≡ DONE)
volume_told None code e = (refl, e)
volume_told (Some fault) code e = absurd (omega (arith, e))

start_told : (start : Result State BootFault) → start_code start ≡ DONE → IsOk start
start_told (Ok machine) e = refl
start_told (Err NoFile) e = absurd (omega (arith, e))
start_told (Err NotCode) e = absurd (omega (arith, e))
start_told (Err BadCode) e = absurd (omega (arith, e))
start_told (Err (Exec error)) e = absurd (omega (arith, e))
start_told (Err NoMemory) e = absurd (omega (arith, e))

started_told : (start : Result State BootFault) → IsOk start → start_code start ≡ DONE
started_told (Ok machine) e = refl
started_told (Err fault) e = absurd (cc (e))

mount_told : (after : Result Devices MountFault) → mount_code after ≡ DONE → IsOk after
mount_told (Ok devices) e = refl
mount_told (Err NoUnit) e = absurd (omega (arith, e))
mount_told (Err Taken) e = absurd (omega (arith, e))

mounted_told : (after : Result Devices MountFault) → IsOk after → mount_code after ≡ DONE
mounted_told (Ok devices) e = refl
mounted_told (Err fault) e = absurd (cc (e))

pub start_is_told : StartIsTold
start_is_told image name clock =
    let start : Result State BootFault = boot_start (on_unit_4 image) 4 name clock in (
      (λ e. let parts = volume_told (image_fault image) (start_code start) e in (parts.0, start_told start parts.1)),
      (λ h. ap (λ fault. volume_code fault (start_code start)) h.0 ∙ started_told start h.1),
    )

pub mount_is_told : MountIsTold
mount_is_told unit image devices =
    let after : Result Devices MountFault = mounted unit image devices in (
      (λ e. let parts = volume_told (image_fault image) (mount_code after) e in (parts.0, mount_told after parts.1)),
      (λ h. ap (λ fault. volume_code fault (mount_code after)) h.0 ∙ mounted_told after h.1),
    )

pub answers_are_apart : AnswersAreApart
answers_are_apart stop.Went = ((λ e. absurd (omega (arith, e))), (λ e. absurd (omega (arith, e))))
answers_are_apart stop.Waiting = ((λ e. absurd (omega (arith, e))), (λ e. absurd (omega (arith, e))))
answers_are_apart stop.Ended = ((λ e. absurd (omega (arith, e))), (λ e. absurd (omega (arith, e))))
answers_are_apart (stop.Halted error) = ((λ e. absurd (omega (arith, e))), (λ e. absurd (omega (arith, e))))

pub wanted_length_is_enough : WantedLengthIsEnough
wanted_length_is_enough bytes old room short same =
    let n : ℕ = length bytes in
    let fits : nat_lt (length room) n ≡ false = grind (arith, nat_tests, same) in
    let low : nat_lt (length old) n ≡ true =
    elim (cases_Bool (nat_lt (length old) n)) [ inl e ↦ e | inr e ↦ absurd (untold e) ] in
    let none : drop n room ≡ [] = drop_all n room (omega (arith, same)) in (
      ap (λ small. if small then old else bytes ++ drop n old) low,
      ap (λ small. if small then TOO_SHORT else DONE) fits,
      ap (λ small. if small then room else bytes ++ drop n room) fits ∙ ap (λ rest. bytes ++ rest) none ∙ append-nil bytes,
    )
  where
    untold : nat_lt (length old) (length bytes) ≡ false → ⊥
    untold e =
        let told : DONE ≡ TOO_SHORT = sym (ap (λ small. if small then TOO_SHORT else DONE) e) ∙ short in omega (arith, told)
