-- Laws of single rules of the machine: the static link of a call, the devices after a unit is cleared, and the memory
-- after MOV. The record `Parts` has the memory, the registers and the entries of the segment slots.
use Rattle.std.specs.Prelude.{◌≡◌, ◌≢◌, ◌<◌, ◌≤◌, ◌⊎◌, ℕ, ◌+◌, ◌*◌, ◌%◌, List, [], Option, true, false, Ok}
use Rattle.std.specs.Prelude.{ℤ, pos, negsuc, ◌+ℤ◌, ◌-ℤ◌, int_le}
use Rattle.pm_words.specs.Words.{IsMemory, word_at}
use Rattle.pm_words.specs.Stack.{load}
use Rattle.pm_families.specs.declared.families.Call.{Call}
use Rattle.pm_families.specs.declared.families.Call.TheVariants.{Clp, Cgp, Cbp, Cip, Cxp}
use Rattle.pm_calls.specs.declared.registers.Registers.{Registers}
use Rattle.pm_calls.specs.declared.frames.Table.{Table}
use Rattle.pm_calls.specs.Places.{Parts}
use Rattle.pm_calls.specs.Links.{level_of, up}
use Rattle.pm_calls.specs.Tables.{attributes}
use Rattle.pm_calls.specs.Calls.{Reached, called, procedure_called}
use Rattle.pm_calls.specs.Laws.{IsCode, Reaches}
use Rattle.pm_units.specs.Devices.{Devices, cleared, unit_of}
use Rattle.pm_rows.specs.Pointers.{move_row}

-- ---- the static link of a call

-- The static link `link` of a main procedure, which has level 0 or -1, is the word at BASE.
pub record LinksAsProgram (m : List ℕ) (r : Registers) (level : ℤ) (link : ℕ) : Type 0 where
  pub main : (level ≡ pos 0) ⊎ (level ≡ negsuc 0)
  pub word : load m r.base ≡ Ok link

-- The static link `link` of any other procedure is the frame that is reached from MP by following `links` static links,
-- at most 127. Their number is the level of the running procedure, less `level`, plus 1.
pub record LinksOutward (m : List ℕ) (r : Registers) (level : ℤ) (link : ℕ) : Type 0 where
  -- The word at JTAB, which has the number and the level of the running procedure.
  pub own : ℕ
  pub table : load m r.jtab ≡ Ok own
  pub links : ℕ
  pub levels : level_of own -ℤ level +ℤ pos 1 ≡ pos links
  pub few : links ≤ 127
  pub frame : up m r.mp links ≡ Ok link

-- `link` is the static link that a call writes for a procedure of the level `level`. Memory and registers are those
-- before the new frame is created. For CLP it is the frame of the caller, and for CGP it is the frame at BASE. For CBP
-- it is as `LinksAsProgram` states, and for CIP as `LinksOutward` states. For CXP, `level` selects one of these two.
abbrev pub LinksTo : Call → List ℕ → Registers → ℤ → ℕ → Type 0
LinksTo (Clp p) m r level link = link ≡ r.mp
LinksTo (Cgp p) m r level link = link ≡ r.base
LinksTo (Cbp p) m r level link = LinksAsProgram m r level link
LinksTo (Cip p) m r level link = LinksOutward m r level link
LinksTo (Cxp n p) m r level link =
    (int_le level (pos 0) ≡ true → LinksAsProgram m r level link)
    × (int_le level (pos 0) ≡ false → LinksOutward m r level link)

-- A call from `c` to `d` succeeds. It reached the segment `at`, `table` is the attribute table of the procedure in this
-- segment, and the word at the new MP is the static link.
pub record IsLinked (c : Parts) (call : Call) (code : Option (List ℕ)) (d : Parts) : Type 0 where
  pub at : Reached
  pub reached : Reaches c call code at
  pub table : Table
  pub found : attributes at.memory at.place (procedure_called call) ≡ Ok table
  pub link : LinksTo call at.memory c.registers table.level (word_at d.memory d.registers.mp)

-- If a call succeeds, then the word at the new MP is the static link that the kind of the call determines.
abbrev pub CallsAreLinked : Type 0
CallsAreLinked =
    (c d : Parts) (call : Call) (code : Option (List ℕ)) →
    IsMemory c.memory → IsCode code → called c call code ≡ Ok d → d.registers.mp % 2 ≡ 0 → IsLinked c call code d

-- ---- cleared units

-- Clearing unit 1 or 2 removes all bytes from the console input queue, and changes nothing else of the devices.
-- Clearing any other unit changes nothing of the devices.
pub record IsCleared (unit : ℕ) (d : Devices) : Type 0 where
  pub forgets : (unit ≡ 1) ⊎ (unit ≡ 2) → (cleared (unit_of unit) d).1 ≡ record d { queue = [] }
  pub stays : unit ≢ 1 → unit ≢ 2 → (cleared (unit_of unit) d).1 ≡ d

abbrev pub ClearingForgetsKeys : Type 0
ClearingForgetsKeys = (unit : ℕ) (d : Devices) → IsCleared unit d

-- ---- moves

-- In memory `n`, each word of the destination is the word of the source in `m`, even if both ranges overlap. Every
-- other word is the same as in `m`.
pub record IsMoved (m n : List ℕ) (from to words : ℕ) : Type 0 where
  pub there : (i : ℕ) → i < words → word_at n (to + 2 * i) ≡ word_at m (from + 2 * i)
  pub elsewhere : (x : ℕ) → x % 2 ≡ 0 → (x + 1 < to) ⊎ (to + 2 * words ≤ x) → word_at n x ≡ word_at m x

-- If MOV succeeds, then it moves `words` words as `IsMoved` states. The source address is the top of the stack, and the
-- destination address is the word below it on the stack.
abbrev pub MovesReadFirst : Type 0
MovesReadFirst =
    (words : ℕ) (m n : List ℕ) (sp np above : ℕ) →
    IsMemory m → move_row words m sp np ≡ Ok (n, above) →
    (above ≡ sp + 4) × IsMoved m n (word_at m sp) (word_at m (sp + 2)) words
