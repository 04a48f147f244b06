-- The law of the words that standard procedures pop and leave on the stack. For EXIT and the procedures 21 and 22, the
-- law states only the entry of the table of effects.
use Rattle.std.specs.Prelude.{◌≡◌, ℕ, ◌+◌, ◌*◌, List, Option, Some, None, Result, Ok, Err}
use Rattle.pm_calls.specs.declared.registers.Registers.{Registers}
use Rattle.pm_stdproc.specs.declared.procedures.OnMemory.{OnMemory}
use Rattle.pm_stdproc.specs.declared.procedures.OnMemory.TheVariants as memory
use Rattle.pm_stdproc.specs.declared.procedures.OnUnits.{OnUnits}
use Rattle.pm_stdproc.specs.declared.procedures.OnUnits.TheVariants as units
use Rattle.pm_stdproc.specs.declared.procedures.Procedure.{Procedure}
use Rattle.pm_stdproc.specs.declared.procedures.Procedure.TheVariants as procedure
use Rattle.pm_stdproc.specs.MemoryRows.{memory_row}
use Rattle.pm_stdproc.specs.Procedures.{procedure_numbered}
use Rattle.pm_stdproc.specs.UnitRows.{Served, units_row}
use Rattle.pm_effects.specs.declared.effect.Effect.{Effect}
use Rattle.pm_effects.specs.Effects.{standard_effect, words}
use Rattle.law_engine.specs.Effects.{words_of, words_taken}

abbrev pub memory_effect : OnMemory → Effect
memory_effect memory.CheckIo = words 0 0
memory_effect memory.New = words 2 0
memory_effect memory.MoveLeft = words 5 0
memory_effect memory.MoveRight = words 5 0
memory_effect memory.Fill = words 4 0
memory_effect memory.Scan = words 6 1
memory_effect memory.Mark = words 1 0
memory_effect memory.Release = words 1 0
memory_effect memory.IoResult = words 0 1
memory_effect memory.Halt = words 0 0
memory_effect memory.FreeMemory = words 0 1

abbrev pub units_effect : OnUnits → Effect
units_effect units.Read = words 6 0
units_effect units.Write = words 6 0
units_effect units.Time = words 2 0
units_effect units.Busy = words 1 1
units_effect units.Wait = words 1 0
units_effect units.Clear = words 1 0

abbrev pub procedure_effect : Procedure → Option Effect
procedure_effect (procedure.OnMemory o) = Some (memory_effect o)
procedure_effect (procedure.OnUnits o) = Some (units_effect o)
procedure_effect procedure.Exit = Some (words 2 0)
procedure_effect procedure.Keep = Some (words 1 0)
procedure_effect procedure.Unkeep = Some (words 1 0)
procedure_effect procedure.Unimplemented = None

-- If the result is `Ok`, then `P` holds for its value.
abbrev pub AllOk : {A E : Type 0} → (A → Type 0) → Result A E → Type 0
AllOk P (Ok x) = P x
AllOk P (Err e) = Unit {0}

abbrev pub EndsIn : ℕ → Effect → List ℕ → Registers → Type 0
EndsIn g e n t = t.sp + 2 * words_of e.leaves n t.sp ≡ g

pub record StandardEffectsAreTheMachines : Type 0 where
  pub numbers : (n : ℕ) → standard_effect n ≡ procedure_effect (procedure_numbered n)
  pub on_memory :
      (o : OnMemory) (m : List ℕ) (r : Registers) →
      AllOk (λ (t : List ℕ × Registers). EndsIn (r.sp + 2 * words_taken (memory_effect o) m r.sp)
      (memory_effect o) t.0 t.1) (memory_row o m r)
  pub on_units :
      (o : OnUnits) (s : Served) →
      AllOk (λ (t : Served). EndsIn (s.registers.sp + 2 * words_taken (units_effect o) s.memory s.registers.sp)
      (units_effect o) t.memory t.registers) (units_row o s)
