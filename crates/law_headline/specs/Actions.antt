-- Actions on a machine, as events of the table of the machine's state.
use Rattle.std.specs.Prelude.{◌≡◌, Bool, true, false, List, ◌∷◌, ◌++◌, Result, Ok}
use Rattle.law_headline.specs.declared.action.Action.{Action}
use Rattle.law_headline.specs.declared.action.Action.TheVariants as actions
use Rattle.pm_machine.specs.declared.state.BootFault.{BootFault}
use Rattle.pm_machine.specs.Events.{Event, Step, Key, Poke, Mount, Eject, after_all}
use Rattle.pm_machine.specs.State.{State}

-- Returns the event of the action.
abbrev pub event_of : Action → Event
event_of actions.Step = Step
event_of (actions.Key byte) = Key byte
event_of (actions.Poke address word) = Poke address word
event_of (actions.Mount unit volume) = Mount unit volume
event_of (actions.Eject unit) = Eject unit

-- `end` is the state after a proper prefix of `events`, executed from the state `start`.
pub record IsCut (start : State) (events : List Event) (end : State) : Type 0 where
  pub done : List Event
  pub event : Event
  pub rest : List Event
  pub all : events ≡ done ++ (event ∷ rest)
  pub state : end ≡ after_all start done

-- `end` is the state after all `events` if the flag is true, and after a proper prefix of `events` if it is false.
abbrev pub IsAfter : State → List Event → State → Bool → Type 0
IsAfter start events end true = end ≡ after_all start events
IsAfter start events end false = IsCut start events end

-- `boot` succeeded with a state, and `end` is the state after `events` from that state. The flag `all` states whether
-- all events were executed, or only a proper prefix of them.
abbrev pub IsPlayed : Result State BootFault → List Event → State → Bool → Type 0
IsPlayed boot events end all = (start : State) × (boot ≡ Ok start) × IsAfter start events end all
