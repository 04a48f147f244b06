-- Laws of segments with keeps: segments that the program requests to remain loaded.
use Rattle.std.specs.Prelude.{◌≡◌, ◌<◌, ◌≤◌, ℕ, ◌-◌, ◌||◌, ◌==◌, Bool, List, [], ◌∷◌, All, Option, Some, None, Result}
use Rattle.std.specs.Prelude.{Ok, Err, if◌then◌else◌, nat_lt, option_and_then, position, slice_index_or, slice_set}
use Rattle.pm_words.specs.declared.error.ExecError.{ExecError}
use Rattle.pm_words.specs.declared.error.ExecError.TheVariants as errors
use Rattle.pm_words.specs.Stack.{◌>>=◌}
use Rattle.pm_opcode.specs.declared.instr.Instr.{Instr}
use Rattle.pm_opcode.specs.declared.operation.Operation.{Operation}
use Rattle.pm_opcode.specs.declared.operation.Operation.TheVariants as operation
use Rattle.pm_families.specs.declared.families.Return.{Return}
use Rattle.pm_opcode.specs.Operations.{operation_of}
use Rattle.pm_calls.specs.declared.frames.SegmentPlace.{SegmentPlace}
use Rattle.pm_calls.specs.Places.{Parts}
use Rattle.pm_calls.specs.Returns.{returned, stands_at}
use Rattle.pm_units.specs.Traps.{Pause, Fails, or_fails}
use Rattle.pm_machine.specs.declared.state.Status.{Status}
use Rattle.pm_machine.specs.declared.state.Status.TheVariants as status
use Rattle.pm_machine.specs.declared.state.Stop.{Stop}
use Rattle.pm_machine.specs.declared.state.Stop.TheVariants as stop
use Rattle.pm_machine.specs.Boot.{boot_start}
use Rattle.pm_machine.specs.Events.{Event, Step, Key, Poke, Mount, Eject, after_all, next}
use Rattle.pm_machine.specs.Procedures.{is_base_return, parts, standard_row, status_after, with_parts, words_of_return}
use Rattle.pm_machine.specs.Rows.{fetched, past_instruction, performed}
use Rattle.pm_machine.specs.Start.{raw_start}
use Rattle.pm_machine.specs.State.{State}
use Rattle.pm_machine.specs.Steps.{settled}

-- The machine runs, and the instruction at IPC is standard procedure `n`.
pub record IsAtProcedure (n : ℕ) (s : State) : Type 0 where
  pub running : s.status ≡ status.Running
  pub instr : Instr
  pub there : fetched s.memory s.registers.ipc ≡ Ok instr
  pub calls : operation_of instr ≡ operation.Standard n

-- No step of the events `es`, executed from the state `s`, executes standard procedure `n`.
unfoldable pub IsNeverAt : ℕ → State → List Event → Type 0
IsNeverAt n s [] = Unit {0}
IsNeverAt n s (e ∷ es) = (e ≡ Step → IsAtProcedure n s → ⊥) × IsNeverAt n (next s e) es

-- ---- a segment with a keep has its address

-- The slot has a segment with the address of `p`, and with at least as many keeps as `p`.
pub record StandsAs (p : SegmentPlace) (slot : Option SegmentPlace) : Type 0 where
  pub now : SegmentPlace
  pub there : slot ≡ Some now
  pub place : now.place ≡ p.place
  pub keeps : p.keeps ≤ now.keeps

-- If a segment has a keep, then it has the same address and at least as many keeps after any events, even if its calls
-- return. Premise: no step of the events is standard procedure 22.
abbrev pub KeptSegmentsStand : Type 0
KeptSegmentsStand =
    (s : State) (es : List Event) (n : ℕ) (p : SegmentPlace) →
    slice_index_or s.places n None ≡ Some p → 0 < p.keeps → IsNeverAt 22 s es →
    StandsAs p (slice_index_or (after_all s es).places n None)

-- ---- the machine without keeps

-- Returns the entry of a segment after a return from one of its calls, in the machine without keeps. If this was the
-- last call, the slot has no address.
abbrev pub plain_less : SegmentPlace → Option SegmentPlace
plain_less p = if nat_lt 1 p.count then Some (record p { count = p.count - 1 }) else None

abbrev pub plain_lessened : Option ℕ → List (Option SegmentPlace) → List (Option SegmentPlace)
plain_lessened None places = places
plain_lessened (Some n) places = slice_set places n (option_and_then plain_less (slice_index_or places n None))

abbrev pub plain_released : ℕ → List (Option SegmentPlace) → List (Option SegmentPlace)
plain_released s places = plain_lessened (position (stands_at s) places) places

-- Returns the result of a return, but with the slots of the machine without keeps.
abbrev pub plain_returned : Parts → ℕ → Bool → Result Parts ExecError
plain_returned c words base =
    returned c words base >>= λ p.
    Ok (record p {
      places = if p.registers.seg == c.registers.seg then c.places else plain_released c.registers.seg
          c.places;
    })

abbrev pub plain_return_row : Return → State → Result State ExecError
plain_return_row r s =
    plain_returned (parts s) (words_of_return r) (is_base_return r) >>= λ p.
    Ok (record (with_parts p s) { status = status_after p.registers.mp s.status })

-- The rule of the standard procedure `n` in the machine without keeps, in which the procedures 21 and 22 are not
-- implemented.
abbrev pub plain_standard_row : ℕ → State → Result State Pause
plain_standard_row n s = if n == 21 || n == 22 then Err (Fails errors.Unimplemented) else standard_row n s

-- The rule of an operation in the machine without keeps. All operations are those of the machine, except returns and
-- the standard procedures 21 and 22.
abbrev pub plain_performed : Operation → State → Result State Pause
plain_performed (operation.Arithmetic o) s = performed (operation.Arithmetic o) s
plain_performed (operation.Variable o) s = performed (operation.Variable o) s
plain_performed (operation.Pointer o) s = performed (operation.Pointer o) s
plain_performed (operation.Value o) s = performed (operation.Value o) s
plain_performed (operation.Literal o) s = performed (operation.Literal o) s
plain_performed (operation.Jump o) s = performed (operation.Jump o) s
plain_performed (operation.Call o) s = performed (operation.Call o) s
plain_performed (operation.Return o) s = or_fails (plain_return_row o s)
plain_performed (operation.Standard n) s = plain_standard_row n s
plain_performed operation.Nothing s = performed operation.Nothing s
plain_performed operation.End s = performed operation.End s
plain_performed operation.Unimplemented s = performed operation.Unimplemented s

unfoldable pub plain_executed : State → Result State Pause
plain_executed s =
    or_fails (fetched s.memory s.registers.ipc) >>= λ i. plain_performed (operation_of i) (past_instruction i s)

abbrev pub plain_at_status : Status → State → State × Stop
plain_at_status status.Running s = settled s (plain_executed s)
plain_at_status status.Ended s = (s, stop.Ended)
plain_at_status (status.Halted e) s = (s, stop.Halted e)

abbrev pub plain_next : State → Event → State
plain_next s Step = (plain_at_status s.status s).0
plain_next s (Key b) = next s (Key b)
plain_next s (Poke a w) = next s (Poke a w)
plain_next s (Mount unit image) = next s (Mount unit image)
plain_next s (Eject unit) = next s (Eject unit)

unfoldable pub plain_after_all : State → List Event → State
plain_after_all s [] = s
plain_after_all s (e ∷ es) = plain_after_all (plain_next s e) es

-- The slot is empty, or its segment has no keep.
abbrev pub IsUnkept : Option SegmentPlace → Type 0
IsUnkept None = Unit {0}
IsUnkept (Some p) = p.keeps ≡ 0

-- The state after the events `es` is the same in the machine without keeps, and no segment has a keep.
pub record IsPlainRun (s : State) (es : List Event) : Type 0 where
  pub same : after_all s es ≡ plain_after_all s es
  pub unkept : All IsUnkept (after_all s es).places

-- If no step is standard procedure 21 or 22, then the machine behaves as the machine without keeps. This holds for each
-- start and any events.
pub record UnkeptMachinesArePlain : Type 0 where
  pub raw :
      (bytes : List ℕ) (s : State) (es : List Event) →
      raw_start bytes ≡ Ok s → IsNeverAt 21 s es → IsNeverAt 22 s es → IsPlainRun s es
  pub booted :
      (images : List (Option (List ℕ))) (unit : ℕ) (name : List ℕ) (clock : ℕ) (s : State) (es : List Event) →
      boot_start images unit name clock ≡ Ok s → IsNeverAt 21 s es → IsNeverAt 22 s es → IsPlainRun s es
  -- The same holds from each state in which no segment has a keep.
  pub later : (s : State) (es : List Event) → All IsUnkept s.places → IsNeverAt 21 s es → IsNeverAt 22 s es
      → IsPlainRun s es
