-- What a step writes: the ranges of memory that the rule of its instruction writes, in the state before the step. Words
-- that an instruction only reads or takes off the stack are not included.
--
-- For a step that ends with an error, the ranges are those that the step would write without the error. The same holds
-- for a transfer that moves nothing. These are the exceptions:
--
-- - An EXIT that does not find its procedure writes nothing.
-- - A call does not reach its segment if its code does not fit below SP or its slot has no code. Such a call writes
--   nothing.
-- - A call that does not find its table writes no frame.
-- - An operation on sets or WORDS that this machine does not have (error 11) writes the word of its result; a
--   comparison of REAL writes nothing.
-- - CHK writes the word that it leaves on the stack.
use Rattle.std.specs.Prelude.{ℕ, zero, suc, ◌+◌, ◌-◌, ◌*◌, ◌/◌, ◌%◌, ◌==◌, ◌&&◌, Bool, max, min, int_lt, nat_lt}
use Rattle.std.specs.Prelude.{List, [], ◌∷◌, ◌++◌, length, Option, Some, None, Result, Ok, Err, if◌then◌else◌}
use Rattle.std.specs.Prelude.{slice_get}
use Rattle.std.specs.List.{list_any}
use Rattle.pm_words.specs.declared.error.ExecError.{ExecError}
use Rattle.pm_words.specs.declared.error.ExecError.TheVariants.{NoSegment}
use Rattle.pm_words.specs.Words.{byte_at, word_at}
use Rattle.pm_words.specs.Signed.{signed}
use Rattle.pm_words.specs.Stack.{◌>>=◌}
use Rattle.pm_families.specs.declared.families.Arithmetic.{Arithmetic}
use Rattle.pm_families.specs.declared.families.Variable.{Variable}
use Rattle.pm_families.specs.declared.families.Variable.TheVariants as variable
use Rattle.pm_families.specs.declared.families.Pointer.{Pointer}
use Rattle.pm_families.specs.declared.families.Pointer.TheVariants as pointer
use Rattle.pm_families.specs.declared.families.Literal.{Literal}
use Rattle.pm_families.specs.declared.families.Value.{Value}
use Rattle.pm_families.specs.declared.families.Value.TheVariants as value
use Rattle.pm_families.specs.declared.families.Byte.TheVariants as byte
use Rattle.pm_families.specs.declared.families.Set.{Set}
use Rattle.pm_families.specs.declared.families.Set.TheVariants as set
use Rattle.pm_families.specs.declared.families.Text.TheVariants as text
use Rattle.pm_families.specs.declared.families.Field.TheVariants as field
use Rattle.pm_families.specs.declared.families.Call.{Call}
use Rattle.pm_families.specs.declared.families.Call.TheVariants.{Clp, Cgp, Cbp, Cip, Cxp}
use Rattle.pm_opcode.specs.declared.instr.Instr.{Instr}
use Rattle.pm_opcode.specs.declared.operation.Operation.{Operation}
use Rattle.pm_opcode.specs.declared.operation.Operation.TheVariants as operation
use Rattle.pm_opcode.specs.Operations.{operation_of}
use Rattle.pm_effects.specs.declared.effect.Share.{Share}
use Rattle.pm_effects.specs.declared.effect.Share.TheVariants as share
use Rattle.pm_effects.specs.declared.effect.Effect.{Effect}
use Rattle.pm_effects.specs.Effects.{arithmetic_effect, compare_effect, literal_effect, pointer_effect, set_effect}
use Rattle.pm_effects.specs.Effects.{variable_effect, words}
use Rattle.pm_calls.specs.declared.exits.Wanted.{Wanted}
use Rattle.pm_calls.specs.declared.frames.Table.{Table}
use Rattle.pm_calls.specs.declared.frames.SegmentPlace.{SegmentPlace}
use Rattle.pm_calls.specs.Places.{Parts}
use Rattle.pm_calls.specs.Tables.{attributes}
use Rattle.pm_calls.specs.Calls.{Reached, frame_top, here, is_base, kept_below, procedure_called}
use Rattle.pm_calls.specs.Calls.{reach_loading, reach_standing}
use Rattle.pm_calls.specs.Exits.{frame_up, is_wanted, last_frame}
use Rattle.pm_rows.specs.Variables.{variable_at}
use Rattle.pm_stdproc.specs.declared.procedures.OnMemory.{OnMemory}
use Rattle.pm_stdproc.specs.declared.procedures.OnMemory.TheVariants as memory
use Rattle.pm_stdproc.specs.declared.procedures.OnUnits.{OnUnits}
use Rattle.pm_stdproc.specs.declared.procedures.OnUnits.TheVariants as units
use Rattle.pm_stdproc.specs.declared.procedures.Procedure.{Procedure}
use Rattle.pm_stdproc.specs.declared.procedures.Procedure.TheVariants as procedure
use Rattle.pm_stdproc.specs.Loads.{code_needed, slot_code}
use Rattle.pm_stdproc.specs.MemoryRows.{is_positive}
use Rattle.pm_stdproc.specs.Procedures.{procedure_numbered}
use Rattle.pm_machine.specs.Procedures.{parts, words_of_return}
use Rattle.pm_machine.specs.Rows.{fetched}
use Rattle.pm_machine.specs.State.{State}

-- A range of memory: `bytes` bytes from address `start` on.
pub record Stretch : Type 0 where
  pub start : ℕ
  pub bytes : ℕ

abbrev pub stretch : ℕ → ℕ → Stretch
stretch a n = record { start = a; bytes = n }

-- The `n` bytes before address `end`. If fewer than `n` bytes exist before `end`, all of them.
abbrev pub stretch_to : ℕ → ℕ → Stretch
stretch_to end n = stretch (end - n) (min n end)

-- Is true if one of the `n` bytes from address `a` on belongs to the range `s`.
abbrev pub touches : ℕ → ℕ → Stretch → Bool
touches a n s = nat_lt 0 n && (nat_lt 0 s.bytes && (nat_lt s.start (a + n) && nat_lt a (s.start + s.bytes)))

-- ---- the stack

-- The number of words of an operand on the stack that begins at `sp`. A set has a word with its size, and that many
-- words.
abbrev pub words_of : Share → List ℕ → ℕ → ℕ
words_of (share.Words n) m sp = n
words_of share.Set m sp = word_at m sp + 1

-- The number of words that an instruction with the effect `e` takes off the stack at `sp`.
abbrev pub words_taken : Effect → List ℕ → ℕ → ℕ
words_taken e m sp = words_of e.top m sp + words_of e.below m (sp + 2 * words_of e.top m sp)

-- The range that an instruction writes if it takes words off the stack at `sp` as `e` states, and pushes `n` words. The
-- new words end where the old words ended.
abbrev pub pushes : Effect → ℕ → List ℕ → ℕ → List Stretch
pushes e n m sp = stretch_to (sp + 2 * words_taken e m sp) (2 * n) ∷ []

-- The range that an instruction with the effect `e` writes when it pushes its result. The size of a set as a result is
-- not defined here.
abbrev pub pushes_words : Effect → List ℕ → ℕ → List Stretch
pushes_words e m sp = pushes e (words_of e.leaves m sp) m sp

-- ---- instructions on the stack

-- The word at the given address, or nothing if the address is an error.
abbrev pub word_stretch : Result ℕ ExecError → List Stretch
word_stretch (Ok a) = stretch a 2 ∷ []
word_stretch (Err e) = []

-- The sum of a base and an index on the stack, modulo 65,536. The index is the word at `sp`, and the base is the word
-- above it.
abbrev pub place_on_stack : List ℕ → ℕ → ℕ
place_on_stack m sp = (word_at m (sp + 2) + word_at m sp) % 65536

abbrev pub variable_written : Variable → State → List Stretch
variable_written (variable.Store scope b) s = word_stretch (variable_at scope b s.memory s.registers)
variable_written o s = pushes_words (variable_effect o) s.memory s.registers.sp

abbrev pub pointer_written : Pointer → List ℕ → ℕ → List Stretch
pointer_written pointer.Store m sp = stretch (word_at m (sp + 2)) 2 ∷ []
pointer_written (pointer.StoreWords n) m sp = stretch (word_at m (sp + 2 * n)) (2 * n) ∷ []
pointer_written (pointer.Move b) m sp = stretch (word_at m (sp + 2)) (2 * b) ∷ []
pointer_written o m sp = pushes_words (pointer_effect o) m sp

-- The number of words of the set on the top of the stack, without the word with its size. The next definition states
-- the same for the set below it.
abbrev pub upper_words : List ℕ → ℕ → ℕ
upper_words m sp = word_at m sp

abbrev pub lower_words : List ℕ → ℕ → ℕ
lower_words m sp = word_at m (sp + 2 * (word_at m sp + 1))

-- The number of words that the given instruction on sets pushes: a set with the word for its size, or only words.
abbrev pub set_words : Set → List ℕ → ℕ → ℕ
set_words set.Member m sp = 1
set_words set.Intersection m sp = 1 + min (lower_words m sp) (upper_words m sp)
set_words set.Union m sp = 1 + max (lower_words m sp) (upper_words m sp)
set_words set.Difference m sp = 1 + lower_words m sp
set_words set.Singleton m sp = 2 + word_at m sp / 16
set_words set.Subrange m sp =
    if int_lt (signed (word_at m sp)) (signed (word_at m (sp + 2))) then 1 else 2 + word_at m sp / 16
set_words (set.Adjust n) m sp = n

-- The number of characters of the string at the address `e`, or 1 if `e` is a character (below 256).
abbrev pub text_length : List ℕ → ℕ → ℕ
text_length m e = if nat_lt e 256 then 1 else byte_at m e

-- The range that a comparison writes when it pushes its result. A comparison of real numbers has no effect, and writes
-- nothing.
abbrev pub compare_written : Option Effect → List ℕ → ℕ → List Stretch
compare_written None m sp = []
compare_written (Some e) m sp = pushes_words e m sp

-- The ranges that an instruction on bytes, sets, strings or fields writes. IXS (`Text.Index`) leaves the stack
-- unchanged.
abbrev pub value_written : Value → List ℕ → ℕ → List Stretch
value_written (value.Byte byte.Load) m sp = pushes_words (words 2 1) m sp
value_written (value.Byte byte.Store) m sp = stretch (place_on_stack m (sp + 2)) 1 ∷ []
value_written (value.Set o) m sp = pushes (set_effect o) (set_words o m sp) m sp
value_written (value.Text text.Index) m sp = []
value_written (value.Text (text.Assign n)) m sp =
    stretch (word_at m (sp + 2)) (1 + text_length m (word_at m sp)) ∷ []
value_written (value.Field (field.Index per_word width)) m sp = pushes_words (words 2 3) m sp
value_written (value.Field field.Load) m sp = pushes_words (words 3 1) m sp
value_written (value.Field field.Store) m sp = stretch (word_at m (sp + 6)) 2 ∷ []
value_written (value.Compare r k) m sp = compare_written (compare_effect k) m sp

-- ---- calls and returns

-- The new frame of a call of the procedure with the table `t`: its parameters, the six control words below them, and,
-- for a base call, the saved BASE below those. The other variables are not written.
abbrev pub frame_stretch : Bool → ℕ → ℕ → Table → Stretch
frame_stretch base loaded sp t =
    stretch_to (frame_top loaded sp t.parameters - t.locals) (kept_below base + (12 + t.parameters))

abbrev pub frame_written : Call → ℕ → ℕ → Result Table ExecError → List Stretch
frame_written call loaded sp (Ok t) = frame_stretch (is_base call t.level) loaded sp t ∷ []
frame_written call loaded sp (Err e) = []

-- What a call writes if it reaches the given segment: the code that is loaded for it, which ends at SP, and the new
-- frame.
abbrev pub reached_written : Call → ℕ → Result Reached ExecError → List Stretch
reached_written call sp (Ok at) =
    stretch_to sp at.loaded
    ∷ frame_written call at.loaded sp (attributes at.memory at.place (procedure_called call))
reached_written call sp (Err e) = []

-- The segment that a call of slot `n` with the given entry reaches. If the entry has an address, the segment is in
-- memory. Otherwise its code is loaded.
abbrev pub slot_reached : ℕ → Parts → Option (Option SegmentPlace) → Result (Option (List ℕ)) ExecError
    → Result Reached ExecError
slot_reached n c (Some (Some p)) code = reach_standing c n p
slot_reached n c (Some None) (Ok (Some code)) = reach_loading c n code
slot_reached n c (Some None) (Ok None) = Err NoSegment
slot_reached n c (Some None) (Err e) = Err e
slot_reached n c None code = Err NoSegment

-- The segment that the given call reaches in the state `s`.
abbrev pub call_reached : Call → State → Result Reached ExecError
call_reached (Cxp n p) s =
    slot_reached n (parts s) (slice_get s.places n) (code_needed (Cxp n p) s.places s.rows s.devices)
call_reached call s = Ok (here (parts s))

abbrev pub call_written : Call → State → List Stretch
call_written call s = reached_written call s.registers.sp (call_reached call s)

-- What a return from the frame at `mp` writes: `n` words of the result, which end at the SP that the frame has saved.
abbrev pub return_written : ℕ → List ℕ → ℕ → List Stretch
return_written n m mp = stretch_to (word_at m (mp + 10)) (2 * n) ∷ []

-- ---- EXIT

-- The number of frames that EXIT leaves. It is 0 if the running procedure is the requested one (`here` is true).
-- Otherwise, the frames from that at `a` up to the last one are left.
abbrev pub frames_left : Bool → List ℕ → Wanted → ℕ → Result ℕ ExecError
frames_left here m p a = if here then Ok 0 else (last_frame m p a >>= λ k. Ok (k + 1))

-- The number of frames that an EXIT to the procedure `p` leaves.
abbrev pub left_by_exit : Parts → Wanted → Result ℕ ExecError
left_by_exit c p = do
  here ← is_wanted c.memory p c.registers.seg c.registers.jtab
  frames_left here c.memory p c.registers.mp

-- The address of the saved IPC in the frame to which `i` dynamic links lead from the frame at `a`.
abbrev pub ip_kept : List ℕ → ℕ → ℕ → ℕ
ip_kept m a i = (frame_up m a i + 8) % 65536

-- The words with the saved IPC in a given number of frames, of which the first is at `a`.
unfoldable pub ips_written : List ℕ → ℕ → ℕ → List Stretch
ips_written m a zero = []
ips_written m a (suc i) = stretch (ip_kept m a i) 2 ∷ ips_written m a i

abbrev pub frames_written : List ℕ → ℕ → Result ℕ ExecError → List Stretch
frames_written m a (Ok n) = ips_written m a n
frames_written m a (Err e) = []

-- The procedure that an EXIT requests. The procedure number is on the top of the stack, and the segment number is below
-- it.
abbrev pub wanted_at : List ℕ → ℕ → Wanted
wanted_at m sp = record { segment = word_at m (sp + 2); procedure = word_at m sp }

abbrev pub exit_written : State → List Stretch
exit_written s =
    frames_written s.memory s.registers.mp (left_by_exit (parts s) (wanted_at s.memory s.registers.sp))

-- ---- standard procedures

-- The `count` bytes from `place` on. If `count` is 0 or negative as a signed number, no bytes.
abbrev pub counted_stretch : ℕ → ℕ → List Stretch
counted_stretch place count = if is_positive count then stretch place count ∷ [] else []

abbrev pub memory_written : OnMemory → List ℕ → ℕ → List Stretch
memory_written memory.New m sp = stretch (word_at m (sp + 2)) 2 ∷ []
memory_written memory.MoveLeft m sp = counted_stretch (place_on_stack m (sp + 2)) (word_at m sp)
memory_written memory.MoveRight m sp = counted_stretch (place_on_stack m (sp + 2)) (word_at m sp)
memory_written memory.Fill m sp = counted_stretch (place_on_stack m (sp + 4)) (word_at m (sp + 2))
memory_written memory.Scan m sp = pushes_words (words 6 1) m sp
memory_written memory.Mark m sp = stretch (word_at m sp) 2 ∷ []
memory_written memory.IoResult m sp = pushes_words (words 0 1) m sp
memory_written memory.FreeMemory m sp = pushes_words (words 0 1) m sp
memory_written memory.CheckIo m sp = []
memory_written memory.Release m sp = []
memory_written memory.Halt m sp = []

-- The memory that a UNITREAD or UNITWRITE transfers.
abbrev pub transfer_stretch : List ℕ → ℕ → Stretch
transfer_stretch m sp = stretch (place_on_stack m (sp + 6)) (word_at m (sp + 4))

abbrev pub units_written : OnUnits → List ℕ → ℕ → List Stretch
units_written units.Read m sp = transfer_stretch m sp ∷ []
units_written units.Time m sp = stretch (word_at m (sp + 2)) 2 ∷ stretch (word_at m sp) 2 ∷ []
units_written units.Busy m sp = pushes_words (words 1 1) m sp
units_written units.Write m sp = []
units_written units.Wait m sp = []
units_written units.Clear m sp = []

-- What a keep request writes if it loads the segment. The code ends at SP after the slot number is taken off the stack.
abbrev pub kept_written : ℕ → Result (Option (List ℕ)) ExecError → List Stretch
kept_written sp (Ok (Some code)) = stretch_to (sp + 2) (length code) ∷ []
kept_written sp (Ok None) = []
kept_written sp (Err e) = []

abbrev pub procedure_written : Procedure → State → List Stretch
procedure_written (procedure.OnMemory o) s = memory_written o s.memory s.registers.sp
procedure_written (procedure.OnUnits o) s = units_written o s.memory s.registers.sp
procedure_written procedure.Exit s = exit_written s
procedure_written procedure.Keep s =
    kept_written s.registers.sp (slot_code (word_at s.memory s.registers.sp) s.places s.rows s.devices)
procedure_written procedure.Unkeep s = []
procedure_written procedure.Unimplemented s = []

-- ---- a step

abbrev pub operation_written : Operation → State → List Stretch
operation_written (operation.Arithmetic o) s = pushes_words (arithmetic_effect o) s.memory s.registers.sp
operation_written (operation.Variable o) s = variable_written o s
operation_written (operation.Pointer o) s = pointer_written o s.memory s.registers.sp
operation_written (operation.Literal o) s = pushes_words (literal_effect o) s.memory s.registers.sp
operation_written (operation.Value o) s = value_written o s.memory s.registers.sp
operation_written (operation.Jump o) s = []
operation_written (operation.Call o) s = call_written o s
operation_written (operation.Return o) s = return_written (words_of_return o) s.memory s.registers.mp
operation_written (operation.Standard n) s = procedure_written (procedure_numbered n) s
operation_written operation.Nothing s = []
operation_written operation.End s = []
operation_written operation.Unimplemented s = []

abbrev pub instruction_written : Result Instr ExecError → State → List Stretch
instruction_written (Ok i) s = operation_written (operation_of i) s
instruction_written (Err e) s = []

-- The ranges of memory that the instruction at IPC writes.
unfoldable pub written : State → List Stretch
written s = instruction_written (fetched s.memory s.registers.ipc) s

-- Is true if the instruction at IPC writes one of the `n` bytes from address `a` on.
abbrev pub writes : ℕ → ℕ → State → Bool
writes a n s = list_any (touches a n) (written s)
