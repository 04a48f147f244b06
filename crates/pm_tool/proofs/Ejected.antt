-- The ejection of a disk leaves the disks on other units unchanged.
use Rattle.std.proofs.Common.{◌≡◌, ◌≢◌, ◌∙◌, ℕ, List, Option, None, get_or, arith, refl, sym}
use Rattle.std.proofs.lemmas.List.{get_or-set_other}
use Rattle.pm_machine.specs.State.{State}
use Rattle.pm_machine.specs.Events.{Eject, next}
use Rattle.pm_units.specs.Devices.{ejected, ejected_image, unit_of}
use Rattle.pm_units.specs.declared.ports.Port.TheVariants.{Disk}

-- Returns the image at index `k` of the disks of state `s`, or None if it does not exist.
abbrev at_place : ℕ → State → Option (List ℕ)
at_place k s = get_or s.devices.disks k None

-- If the disk with index `k` is ejected, then the image at any other index `j` is unchanged.
taken_at : (unit k j : ℕ) (s : State) → unit_of unit ≡ Disk k → j ≢ k → at_place j (next s (Eject unit)) ≡ at_place j s
unfolding ejected
taken_at unit k j s is differs = rw is (get_or-set_other s.devices.disks k j None None differs)

image_of : (unit j : ℕ) (s : State) → unit_of unit ≡ Disk j → ejected_image unit s.devices ≡ at_place j s
unfolding ejected_image
image_of unit j s is = rw is refl

-- If the disk of `unit` is ejected, then the image of any other unit `other` is unchanged.
pub still_there : (unit other k j : ℕ) (s : State) → unit_of unit ≡ Disk k → unit_of other ≡ Disk j → j ≢ k
    → ejected_image other (next s (Eject unit)).devices ≡ ejected_image other s.devices
still_there unit other k j s is_unit is_other differs =
    image_of other j (next s (Eject unit)) is_other ∙ taken_at unit k j s is_unit differs ∙ sym (image_of other j s is_other)

-- The index of the disk of each unit.
fourth : unit_of 4 ≡ Disk 0
unfolding unit_of
fourth = refl

fifth : unit_of 5 ≡ Disk 1
unfolding unit_of
fifth = refl

ninth : unit_of 9 ≡ Disk 2
unfolding unit_of
ninth = refl

tenth : unit_of 10 ≡ Disk 3
unfolding unit_of
tenth = refl

eleventh : unit_of 11 ≡ Disk 4
unfolding unit_of
eleventh = refl

twelfth : unit_of 12 ≡ Disk 5
unfolding unit_of
twelfth = refl

-- The states after the disks of the units were ejected, one after the other.
abbrev pub no_4 : State → State
no_4 s = next s (Eject 4)

abbrev pub no_5 : State → State
no_5 s = next (no_4 s) (Eject 5)

abbrev pub no_9 : State → State
no_9 s = next (no_5 s) (Eject 9)

abbrev pub no_10 : State → State
no_10 s = next (no_9 s) (Eject 10)

abbrev pub no_11 : State → State
no_11 s = next (no_10 s) (Eject 11)

module _ (s : State) where
  pub left_5 : ejected_image 5 (no_4 s).devices ≡ ejected_image 5 s.devices
  left_5 = still_there 4 5 0 1 s fourth fifth (λ e. omega (arith, e))

  pub left_9 : ejected_image 9 (no_5 s).devices ≡ ejected_image 9 s.devices
  left_9 = still_there 5 9 1 2 (no_4 s) fifth ninth (λ e. omega (arith, e))
      ∙ still_there 4 9 0 2 s fourth ninth (λ e. omega (arith, e))

  pub left_10 : ejected_image 10 (no_9 s).devices ≡ ejected_image 10 s.devices
  left_10 = still_there 9 10 2 3 (no_5 s) ninth tenth (λ e. omega (arith, e))
      ∙ still_there 5 10 1 3 (no_4 s) fifth tenth (λ e. omega (arith, e))
      ∙ still_there 4 10 0 3 s fourth tenth (λ e. omega (arith, e))

  pub left_11 : ejected_image 11 (no_10 s).devices ≡ ejected_image 11 s.devices
  left_11 = still_there 10 11 3 4 (no_9 s) tenth eleventh (λ e. omega (arith, e))
      ∙ still_there 9 11 2 4 (no_5 s) ninth eleventh (λ e. omega (arith, e))
      ∙ still_there 5 11 1 4 (no_4 s) fifth eleventh (λ e. omega (arith, e))
      ∙ still_there 4 11 0 4 s fourth eleventh (λ e. omega (arith, e))

  pub left_12 : ejected_image 12 (no_11 s).devices ≡ ejected_image 12 s.devices
  left_12 = still_there 11 12 4 5 (no_10 s) eleventh twelfth (λ e. omega (arith, e))
      ∙ still_there 10 12 3 5 (no_9 s) tenth twelfth (λ e. omega (arith, e))
      ∙ still_there 9 12 2 5 (no_5 s) ninth twelfth (λ e. omega (arith, e))
      ∙ still_there 5 12 1 5 (no_4 s) fifth twelfth (λ e. omega (arith, e))
      ∙ still_there 4 12 0 5 s fourth twelfth (λ e. omega (arith, e))

pub ruleset left = (left_5, left_9, left_10, left_11, left_12)
