-- Laws of the properties that each machine has and that no event changes.
use Rattle.std.specs.Prelude.{◌≡◌, ◌<◌, ℕ, ◌+◌, List, All, Option, Some, None, Ok, length}
use Rattle.pm_calls.specs.declared.frames.SegmentPlace.{SegmentPlace}
use Rattle.pm_calls.specs.Places.{placed}
use Rattle.pm_machine.specs.Boot.{boot_start}
use Rattle.pm_machine.specs.Events.{Event, after_all}
use Rattle.pm_machine.specs.Start.{raw_start}
use Rattle.pm_machine.specs.State.{State}

-- The states `s` and `t` have the same rows of the dictionary, and the same number of slots and of disks.
pub record KeepsShape (s t : State) : Type 0 where
  pub rows : t.rows ≡ s.rows
  pub places : length t.places ≡ length s.places
  pub disks : length t.devices.disks ≡ length s.devices.disks

-- No event changes the rows of the dictionary, the number of slots or the number of disks.
abbrev pub EventsKeepShape : Type 0
EventsKeepShape = (s : State) (es : List Event) → KeepsShape s (after_all s es)

-- The state `s` has 16 rows of the dictionary, 16 slots and six disks, and no slot above 15 has an address.
pub record HasShape (s : State) : Type 0 where
  pub rows : length s.rows ≡ 16
  pub places : length s.places ≡ 16
  pub disks : length s.devices.disks ≡ 6
  pub none_above : (n : ℕ) → 15 < n → placed s.places n ≡ None

-- A machine that begins with code, or that is booted from a list of six images, satisfies `HasShape` after any events.
pub record MachinesHaveShape : Type 0 where
  pub raw : (bytes : List ℕ) (s : State) (es : List Event) → raw_start bytes ≡ Ok s → HasShape (after_all s es)
  pub booted :
      (images : List (Option (List ℕ))) (unit : ℕ) (name : List ℕ) (clock : ℕ) (s : State) (es : List Event) →
      length images ≡ 6 → boot_start images unit name clock ≡ Ok s → HasShape (after_all s es)

-- The slot has no address, or its segment has at least one call or keep.
abbrev pub IsCounted : Option SegmentPlace → Type 0
IsCounted None = Unit {0}
IsCounted (Some p) = 0 < p.count + p.keeps

-- If a segment of a machine has an address, then it has at least one call or keep. This holds for any start and after
-- any events.
pub record MachinesCountCalls : Type 0 where
  pub raw :
      (bytes : List ℕ) (s : State) (es : List Event) →
      raw_start bytes ≡ Ok s → All IsCounted (after_all s es).places
  pub booted :
      (images : List (Option (List ℕ))) (unit : ℕ) (name : List ℕ) (clock : ℕ) (s : State) (es : List Event) →
      boot_start images unit name clock ≡ Ok s → All IsCounted (after_all s es).places
