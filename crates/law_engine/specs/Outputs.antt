-- The law of the console output and the printer output.
use Rattle.std.specs.Prelude.{◌≡◌, ℕ, List, ◌++◌}
use Rattle.pm_units.specs.Devices.{Devices}
use Rattle.pm_machine.specs.State.{State}
use Rattle.pm_machine.specs.Events.{Event, after_all}

-- The list `new` begins with the list `old`.
pub record GoesOnWith (old new : List ℕ) : Type 0 where
  pub more : List ℕ
  pub whole : new ≡ old ++ more

pub record OutputsGoOn (old new : Devices) : Type 0 where
  pub console : GoesOnWith old.console new.console
  pub printer : GoesOnWith old.printer new.printer

-- After any events, the console output and the printer output begin with the bytes that they had before.
abbrev pub OutputsOnlyGrow : Type 0
OutputsOnlyGrow = (s : State) (events : List Event) → OutputsGoOn s.devices (after_all s events).devices
