-- A debugger has these parts:
--
-- - its machine,
-- - its breakpoints and the addresses of its watched words, in the order in which they were set,
-- - the rest of its last run, if its limit or a breakpoint stopped the run,
-- - the number of passes: how many breakpoints its runs may still pass over,
-- - whether a session shows what its commands add to the console.
use Rattle.std.specs.Prelude.{◌≡◌, ℕ, Bool, List, None}
use Rattle.pm_machine.specs.State.{State, Whole}
use Rattle.pm_debug.specs.declared.breaks.Breakpoint.{Breakpoint}
use Rattle.pm_debug.specs.declared.refusal.DebugRefusal.{DebugRefusal}
use Rattle.pm_debug.specs.declared.refusal.DebugRefusal.TheVariants.{Full, NotSet, OddAddress, NoMemory, TooDeep}
use Rattle.pm_debug.specs.declared.refusal.DebugRefusal.TheVariants.{NothingLeft}
use Rattle.pm_debug.specs.Runs.{GaveUpOn, Left, gone_on}

pub record Session : Type 0 where
  pub machine : State
  pub breaks : List Breakpoint
  pub watches : List ℕ
  pub left : Left
  pub passes : ℕ
  pub shows_console : Bool

-- The debugger as contracts describe it. The machine has the capacities of its input and output. The other parts are as
-- in the code.
pub record Debugged : Type 0 where
  pub machine : Whole
  pub breaks : List Breakpoint
  pub watches : List ℕ
  pub left : Left
  pub passes : ℕ
  pub shows_console : Bool

abbrev pub session_of : Debugged → Session
session_of d = record {
  machine = d.machine.state;
  breaks = d.breaks;
  watches = d.watches;
  left = d.left;
  passes = d.passes;
  shows_console = d.shows_console;
}

-- States why the continuation of the last run was refused. Either the run cannot be continued and nothing has changed,
-- or the continuation was out of memory.
abbrev pub StopsShort : DebugRefusal → ℕ → Debugged → Debugged → Type 0
StopsShort NothingLeft limit d e = (gone_on d.breaks d.left limit d.machine.state ≡ None) × (e ≡ d)
StopsShort NoMemory limit d e = GaveUpOn d.breaks d.left limit d.machine e.machine
StopsShort Full limit d e = ⊥
StopsShort NotSet limit d e = ⊥
StopsShort OddAddress limit d e = ⊥
StopsShort TooDeep limit d e = ⊥
