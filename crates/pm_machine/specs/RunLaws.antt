-- Statements of the laws of steps and runs.
use Rattle.std.specs.Prelude.{◌≡◌, ◌≢◌, ◌↔◌, ◌<◌, ℕ, ◌+◌, ◌%◌, Bool, true, false, List, Result, Ok, Err}
use Rattle.pm_words.specs.declared.error.ExecError.{ExecError}
use Rattle.pm_words.specs.Words.{word_at}
use Rattle.pm_opcode.specs.declared.instr.Instr.{Instr}
use Rattle.pm_opcode.specs.declared.operation.Operation.TheVariants as operation
use Rattle.pm_families.specs.declared.families.Arithmetic.{Arithmetic}
use Rattle.pm_families.specs.declared.families.Scope.{Scope}
use Rattle.pm_opcode.specs.Operations.{operation_of}
use Rattle.pm_calls.specs.declared.registers.Registers.{Registers}
use Rattle.pm_stdproc.specs.Procedures.{procedure_numbered}
use Rattle.pm_stdproc.specs.declared.procedures.OnUnits.TheVariants as units
use Rattle.pm_stdproc.specs.declared.procedures.Procedure.TheVariants.{OnUnits}
use Rattle.pm_machine.specs.declared.state.RunEnd.{RunEnd}
use Rattle.pm_machine.specs.declared.state.RunEnd.TheVariants as ends
use Rattle.pm_machine.specs.declared.state.Status.TheVariants as status
use Rattle.pm_machine.specs.declared.state.Stop.{Stop}
use Rattle.pm_machine.specs.declared.state.Stop.TheVariants as stop
use Rattle.pm_machine.specs.State.{State}
use Rattle.pm_rows.specs.Arithmetic.{arithmetic_row}
use Rattle.pm_rows.specs.Pointers.{increment_row, indirect_row, index_row}
use Rattle.pm_machine.specs.Rows.{fetched}
use Rattle.pm_machine.specs.Runs.{Passes, Ran, RunOutcome, StoppedAfter, after_steps, never, run_until}
use Rattle.pm_machine.specs.Steps.{stepped}
use Rattle.pm_rows.specs.Variables.{variable_address_row, load_row}

-- ---- runs

-- If a run of `m` steps ends at its limit, and a run of at most `n` steps continues from there, then both are one run
-- of at most `m + n` steps. The counts of steps are added.
abbrev pub RunsGoOn : Type 0
RunsGoOn =
    (m n c d : ℕ) (s t u : State) (answer : Stop) →
    Ran m s c stop.Went t → Ran n t d answer u → Ran (m + n) s (c + d) answer u

-- If an answer other than `Went` stopped a run, then this is also the run for each greater limit.
abbrev pub RunsStay : Type 0
RunsStay =
    (m n c : ℕ) (s t : State) (answer : Stop) → answer ≢ stop.Went → Ran m s c answer t → Ran (m + n) s c answer t

-- Two outcomes of a run are equal: the numbers of counted steps, the last answers, and the states.
pub record SameOutcome (c d : ℕ) (a b : Stop) (t u : State) : Type 0 where
  pub count : c ≡ d
  pub answer : a ≡ b
  pub state : t ≡ u

-- If two runs have the same limit and begin in the same state, then they have the same outcome.
abbrev pub RunsAreOne : Type 0
RunsAreOne =
    (limit c d : ℕ) (s t u : State) (a b : Stop) → Ran limit s c a t → Ran limit s d b u → SameOutcome c d a b t u

-- ---- runs that a test may stop

-- States how a run of `n` steps that succeeded ends, in one of three ways:
-- - It has executed all its steps (`Limit`).
-- - The test is true before the next step (`Stopped`).
-- - The test is false before the next step, and this step has another answer than `Went` (`Answered`).
abbrev pub EndsSo : (ℕ → State → Bool) → ℕ → ℕ → State → RunEnd → ℕ → State → Type 0
EndsSo test limit n s ends.Limit count t = (n ≡ limit) × (count ≡ n) × (t ≡ after_steps n s)
EndsSo test limit n s ends.Stopped count t = (n < limit) × (test n t ≡ true) × (count ≡ n) × (t ≡ after_steps n s)
EndsSo test limit n s (ends.Answered answer) count t =
    (answer ≢ stop.Went) × (test n (after_steps n s) ≡ false) × StoppedAfter n limit s count answer t

-- Each run consists of steps that succeed and before which the test is false, and then ends as `EndsSo` states.
abbrev pub RunsEndSo : Type 0
RunsEndSo =
    (test : ℕ → State → Bool) (limit : ℕ) (s : State)
    → (n : ℕ) × Passes test n s × EndsSo test limit n s (run_until test limit s).end (run_until test limit s).count
    (run_until test limit s).state

-- The outcome of a run without a test: `count` counted steps, the given last answer, and the state `t`.
abbrev pub as_outcome : ℕ → Stop → State → RunOutcome
as_outcome count stop.Went t = record { count = count; end = ends.Limit; state = t }
as_outcome count answer t = record { count = count; end = ends.Answered answer; state = t }

-- A run of the machine without a test (`Ran`) is equal to a run with the test that never stops it.
abbrev pub RunsAreUnstopped : Type 0
RunsAreUnstopped =
    (limit count : ℕ) (s t : State) (answer : Stop) →
    Ran limit s count answer t ↔ (run_until never limit s ≡ as_outcome count answer t)

-- ---- steps

-- If a machine has ended or halted, then a step does not change it.
abbrev pub RestStays : Type 0
RestStays = (s : State) → s.status ≢ status.Running → (stepped s).0 ≡ s

-- The instruction `i` is a UNITWRITE.
abbrev pub IsUnitWrite : Instr → Type 0
IsUnitWrite i = (n : ℕ) × (operation_of i ≡ operation.Standard n) × (procedure_numbered n ≡ OnUnits units.Write)

-- If the instruction at IPC is not a UNITWRITE, then a step changes no disk.
abbrev pub StepsKeepDisks : Type 0
StepsKeepDisks =
    (s : State) → ((i : Instr) → fetched s.memory s.registers.ipc ≡ Ok i → IsUnitWrite i → ⊥) →
    (stepped s).0.devices.disks ≡ s.devices.disks

-- ---- rules of instructions

-- If the instruction succeeds, then every word except the word on the new top of the stack is the same as in the old
-- memory.
abbrev pub KeepsBelow : List ℕ → Result (List ℕ × ℕ) ExecError → Type 0
KeepsBelow m (Ok t) = (a : ℕ) → a % 2 ≡ 0 → a ≢ t.1 → word_at t.0 a ≡ word_at m a
KeepsBelow m (Err e) = Unit {0}

-- If one of these instructions pushes a word, it writes only this word: arithmetic and comparisons of words,
-- increments, indirect loads and indexes of addresses, and addresses and values of variables.
pub record RowsKeepBelow : Type 0 where
  pub arithmetic : (o : Arithmetic) (m : List ℕ) (sp np : ℕ) → KeepsBelow m (arithmetic_row o m sp np)
  pub increments : (b : ℕ) (m : List ℕ) (sp np : ℕ) → KeepsBelow m (increment_row b m sp np)
  pub loads : (b : ℕ) (m : List ℕ) (sp np : ℕ) → KeepsBelow m (indirect_row b m sp np)
  pub indexes : (b : ℕ) (m : List ℕ) (sp np : ℕ) → KeepsBelow m (index_row b m sp np)
  pub addresses : (scope : Scope) (b : ℕ) (m : List ℕ) (r : Registers) → KeepsBelow m (variable_address_row scope b m r)
  pub variables : (scope : Scope) (b : ℕ) (m : List ℕ) (r : Registers) → KeepsBelow m (load_row scope b m r)
