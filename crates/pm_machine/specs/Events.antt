-- The events of a machine, and the state after each event.
use Rattle.std.specs.Prelude.{ℕ, List, [], ◌∷◌, ◌++◌, Result, Ok, Err, if◌then◌else◌}
use Rattle.pm_words.specs.Words.{with_word}
use Rattle.pm_words.specs.Stack.{is_even}
use Rattle.pm_units.specs.declared.ports.MountFault.{MountFault}
use Rattle.pm_units.specs.Devices.{Devices, mounted, ejected}
use Rattle.pm_machine.specs.State.{State}
use Rattle.pm_machine.specs.Steps.{stepped}

pub data Event : Type 0 where
  -- The machine executes one step.
  Step : Event
  -- The operator types `byte`.
  Key : (byte : ℕ) → Event
  -- The operator writes `word` at `address`.
  Poke : (address word : ℕ) → Event
  -- The disk `image` is mounted on disk unit `unit`.
  Mount : (unit : ℕ) (image : List ℕ) → Event
  -- The disk of unit `unit` is ejected.
  Eject : (unit : ℕ) → Event

-- The state after the byte `b` was appended to the console input queue.
abbrev pub keyed : ℕ → State → State
keyed b s = record s { devices = record s.devices { queue = s.devices.queue ++ b ∷ [] } }

-- The state after the operator wrote the word `w` at address `a`. If `a` is odd, the write is refused, and the state is
-- unchanged.
abbrev pub poked : ℕ → ℕ → State → State
poked a w s = if is_even a then record s { memory = with_word s.memory a w } else s

-- The state with the new devices, or the state `s` itself if the image is refused.
abbrev pub or_same : State → Result Devices MountFault → State
or_same s (Ok d) = record s { devices = d }
or_same s (Err fault) = s

-- The state after the given event, which occurs in the state `s`.
abbrev pub next : State → Event → State
next s Step = (stepped s).0
next s (Key b) = keyed b s
next s (Poke a w) = poked a w s
next s (Mount unit image) = or_same s (mounted unit image s.devices)
next s (Eject unit) = record s { devices = ejected unit s.devices }

-- The state after the events of a list, of which the first occurs in the state `s`.
abbrev pub after_all : State → List Event → State
after_all s [] = s
after_all s (e ∷ es) = after_all (next s e) es
