-- The law of the words that calls and returns pop and leave on the stack. The record `Parts` has the memory, the
-- registers and the entries of the segment slots.
use Rattle.std.specs.Prelude.{◌≡◌, ℕ, ◌+◌, ◌*◌, ◌/◌, Bool, List, Option, Ok}
use Rattle.pm_words.specs.Words.{IsMemory, word_at}
use Rattle.pm_families.specs.declared.families.Call.{Call}
use Rattle.pm_calls.specs.declared.frames.Table.{Table}
use Rattle.pm_calls.specs.Places.{Parts}
use Rattle.pm_calls.specs.Tables.{attributes}
use Rattle.pm_calls.specs.Calls.{Reached, called, procedure_called}
use Rattle.pm_calls.specs.Returns.{returned}
use Rattle.pm_calls.specs.Laws.{IsCode, Reaches}
use Rattle.pm_effects.specs.declared.effect.Effect.{Effect}
use Rattle.pm_effects.specs.Effects.{words}
use Rattle.law_engine.specs.Effects.{words_taken}
use Rattle.law_engine.specs.StandardEffects.{EndsIn}

-- Returns the effect of a procedure with the attribute table `table`: it pops the words of its parameters, and leaves
-- `results` words.
abbrev pub procedure_words : Table → ℕ → Effect
procedure_words table results = words (table.parameters / 2) results

-- Returns the SP that the frame at MP has saved: the SP of the caller.
abbrev pub kept_sp : Parts → ℕ
kept_sp c = word_at c.memory (c.registers.mp + 10)

-- From the SP before the call to the SP after the return, the stack moves by the effect of the called procedure. The
-- attribute table of the procedure and `results` determine this effect.
pub record MovesByTable (before : Parts) (call : Call) (code : Option (List ℕ)) (results : ℕ) (after : Parts)
    : Type 0 where
  pub at : Reached
  pub reached : Reaches before call code at
  pub table : Table
  pub found : attributes at.memory at.place (procedure_called call) ≡ Ok table
  pub moves : EndsIn
      (before.registers.sp + 2 * words_taken (procedure_words table results) before.memory before.registers.sp)
      (procedure_words table results) after.memory after.registers

-- If a call succeeds, and a later return of `results` words succeeds, then SP moves by the effect of the called
-- procedure. At the return, MP and the SP that its frame saved must be as the call left them. Any instructions can be
-- executed between.
abbrev pub CallsAreTheMachines : Type 0
CallsAreTheMachines =
    (before inside leaving after : Parts) (call : Call) (code : Option (List ℕ)) (results : ℕ) (base : Bool) →
    IsMemory before.memory → IsCode code → called before call code ≡ Ok inside →
    leaving.registers.mp ≡ inside.registers.mp → kept_sp leaving ≡ kept_sp inside →
    returned leaving results base ≡ Ok after → MovesByTable before call code results after
