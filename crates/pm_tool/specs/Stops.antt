-- The state in which an error stopped a run.
use Rattle.std.specs.Prelude.{◌≡◌, ◌+◌, ◌%◌, ℕ, List, [], ◌∷◌, Option, Some, None, IfSome, string_bytes}
use Rattle.pm_words.specs.Words.{byte_at}
use Rattle.pm_machine.specs.State.{State}
use Rattle.pm_machine.specs.CodePlaces.{place_in_code}
use Rattle.pm_trace.specs.Trace.{trace_line}
use Rattle.pm_session.specs.declared.ending.Ending.{Ending}
use Rattle.pm_session.specs.declared.ending.Ending.TheVariants as endings
use Rattle.pm_tool.specs.declared.stopped.Stopped.{Stopped}

-- The three bytes of memory from address IPC.
abbrev pub code_at : State → List ℕ
code_at s = byte_at s.memory s.registers.ipc ∷ byte_at s.memory ((s.registers.ipc + 1) % 65536)
    ∷ byte_at s.memory ((s.registers.ipc + 2) % 65536) ∷ []

-- The value `stopped` of the code agrees with the state `s`: it has the position of IPC in the code, the bytes at IPC,
-- and IORESULT. If it has a trace line, this is the line of the step that was not executed.
pub record IsStop (stopped : Stopped) (s : State) : Type 0 where
  pub place : stopped.place ≡ place_in_code s
  pub step : IfSome stopped.step (λ line. string_bytes line ≡ trace_line s)
  pub code : stopped.code ≡ code_at s
  pub ioresult : stopped.ioresult ≡ s.registers.ioresult

-- The code returns a stop if and only if an error stopped the run, and the stop agrees with the state.
abbrev pub AreStops : Option Stopped → Option State → Type 0
AreStops None None = Unit {0}
AreStops None (Some s) = ⊥
AreStops (Some stopped) None = ⊥
AreStops (Some stopped) (Some s) = IsStop stopped s

-- The state in which the run stopped, if the run ended with an error. Otherwise None.
abbrev pub stop_of : Ending → State → Option State
stop_of endings.Ended s = None
stop_of (endings.Error error) s = Some s
stop_of endings.Limit s = None
stop_of endings.Waiting s = None
